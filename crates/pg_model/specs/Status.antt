-- What an agent sees of its server, and what its orders make of that.
use Rattle.std.specs.Prelude.{◌+◌, ◌==◌, ◌&&◌, if◌then◌else◌, Bool, true, false, List, Option, Some, None}
use Rattle.std.specs.Option.{option_map}
use Rattle.pat_base.specs.declared.lsn.Lsn.{Lsn}
use Rattle.pat_base.specs.declared.ticks.Ticks.{Ticks}
use Rattle.pat_base.specs.declared.server_id.ServerId.{ServerId}
use Rattle.pat_base.specs.declared.server_state.State.{State}
use Rattle.pat_base.specs.declared.server_state.State.TheVariants as states
use Rattle.pat_base.specs.Lsn.{lsn_at}
use Rattle.pat_base.specs.ServerState.{live}
use Rattle.wal_model.specs.declared.entry.Entry.{Entry}
use Rattle.wal_model.specs.Log.{end_of}
use Rattle.pg_model.specs.declared.status.ServerStatus.{ServerStatus}
use Rattle.pg_model.specs.Facts.{ServerFacts, is_replica, is_down, is_up}
use Rattle.pg_model.specs.Running.{moment_after, is_primary}

-- the end of a log, if there is one
abbrev pub end_in : Option (List Entry) → Option Lsn
end_in log = option_map (λ entries. lsn_at (end_of entries)) log

-- what is seen of a server
abbrev pub status_of : ServerFacts → ServerStatus
status_of s = record {
  state = s.state;
  timeline = s.timeline;
  end = end_in s.log;
  upstream = s.upstream;
  receives = s.receives;
  diverged = s.diverged;
  was_primary = s.was_primary;
  stop_delay = s.stop_delay;
  start_delay = s.start_delay;
}

-- a replica that is promoted accepts writes on the next timeline; another server stays as it is
abbrev pub status_promoted : ServerStatus → ServerStatus
status_promoted s =
    if is_replica s.state then record s { state = states.Primary; timeline = s.timeline + 1; was_primary = true } else s

-- its start is complete: it accepts writes as a primary, or is a replica
abbrev pub status_started : Bool → ServerStatus → ServerStatus
status_started false s = record s { state = states.Replica }
status_started true s = record s { state = states.Primary; was_primary = true }

-- it starts: at once where starts take no time, and else it is ready after the delay
abbrev pub status_starting : Bool → Ticks → ServerStatus → ServerStatus
status_starting as_primary now s = if s.start_delay.0 == 0 then status_started as_primary s
    else record s { state = states.Starting as_primary (moment_after now s.start_delay) }

-- one that is down starts as a replica of this server, or of none; another stays as it is
abbrev pub status_replica_started : Ticks → Option ServerId → ServerStatus → ServerStatus
status_replica_started now upstream s =
    if is_down s.state then status_starting false now (record s { upstream = upstream; was_primary = false }) else s

-- one that is down and was a primary starts as a primary again; another stays as it is
abbrev pub status_primary_started : Ticks → ServerStatus → ServerStatus
status_primary_started now s = if is_down s.state && s.was_primary then status_starting true now s else s

-- its shutdown begins: it has ended at once where stops take no time, and else after the delay
abbrev pub status_ending : Ticks → ServerStatus → ServerStatus
status_ending now s = if s.stop_delay.0 == 0 then record s { state = states.Stopped }
    else record s { state = states.Stopping (is_primary s.state) (moment_after now s.stop_delay) }

-- one that runs or starts shuts down: at once where stops take no
-- time, and else it has ended after the delay; another stays as it is
abbrev pub status_stopping : Ticks → ServerStatus → ServerStatus
status_stopping now s = if is_up s.state then status_ending now s else s

-- its data is removed, and it waits for a copy; one that accepts
-- writes, or will when its start is complete, stays as it is
abbrev pub status_wiped : ServerStatus → ServerStatus
status_wiped s = if live s.state then s else record s { state = states.Creating; end = None; diverged = false }

-- one that runs starts again in its role, at once or after the start delay; another stays as it is
abbrev pub status_restarted_in : State → Ticks → ServerStatus → ServerStatus
status_restarted_in states.Primary now s = status_starting true now s
status_restarted_in states.Replica now s = status_starting false now (record s { was_primary = false })
status_restarted_in _ now s = s

-- it is restarted, where it runs
abbrev pub status_restarted : Ticks → ServerStatus → ServerStatus
status_restarted now s = status_restarted_in s.state now s

-- a replica follows this server from now on; another server stays as it is
abbrev pub status_following : ServerId → ServerStatus → ServerStatus
status_following upstream s = if is_replica s.state then record s { upstream = Some upstream; diverged = false } else s
