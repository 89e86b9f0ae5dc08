-- How a server starts, is promoted, stops and crashes.
use Rattle.std.specs.Prelude.{◌+◌, ◌-◌, ◌++◌, ◌==◌, nat_le, max, if◌then◌else◌, Bool, true, false, [], ◌∷◌, Option, Some, None}
use Rattle.pat_base.specs.declared.ticks.Ticks.{Ticks}
use Rattle.pat_base.specs.declared.server_id.ServerId.{ServerId}
use Rattle.pat_base.specs.declared.server_state.State.{State}
use Rattle.pat_base.specs.declared.server_state.State.TheVariants as states
use Rattle.pat_base.specs.Lsn.{lsn_at}
use Rattle.pat_base.specs.ServerState.{live}
pub use Rattle.pat_base.specs.ServerState.{is_primary}
use Rattle.wal_model.specs.Log.{end_of}
use Rattle.pg_model.specs.Facts.{ServerFacts, none_confirmed, entries_of}

-- a moment after a delay
abbrev pub moment_after : Ticks → Ticks → Ticks
moment_after now delay = record { 0 = now.0 + delay.0 }

-- it has room for one more point of its history
abbrev pub reserved : ServerFacts → ServerFacts
reserved s = record s { spare = max s.spare 1 }

-- a replica begins to accept writes on the next timeline, which it enters into its history; what was confirmed to
-- an earlier primary counts no more
abbrev pub promoted : ServerFacts → ServerFacts
promoted s = record s {
  state = states.Primary;
  timeline = s.timeline + 1;
  history = s.history ++ record { timeline = s.timeline; at = lsn_at (end_of (entries_of s.log)) } ∷ [];
  spare = s.spare - 1;
  was_primary = true;
  confirmed = none_confirmed;
}

-- its start is complete: it runs as a replica, or accepts writes, and
-- then what was confirmed to it before counts no more
abbrev pub started : Bool → ServerFacts → ServerFacts
started false s = record s { state = states.Replica }
started true s = record s { state = states.Primary; was_primary = true; confirmed = none_confirmed }

-- it starts: at once where starts take no time, and else it is ready after the delay
abbrev pub starting : Bool → Ticks → ServerFacts → ServerFacts
starting as_primary now s = if s.start_delay.0 == 0 then started as_primary s
    else record s { state = states.Starting as_primary (moment_after now s.start_delay) }

-- it starts as a replica of this server, or of none
abbrev pub replica_started : Ticks → Option ServerId → ServerFacts → ServerFacts
replica_started now upstream s = starting false now (record s { upstream = upstream; was_primary = false })

-- it starts as a primary again, on its timeline
abbrev pub primary_started : Ticks → ServerFacts → ServerFacts
primary_started now s = starting true now s

-- its stop is complete, and no commit waits any more
abbrev pub stopped : ServerFacts → ServerFacts
stopped s = record s { state = states.Stopped; waiting = [] }

-- it shuts down: at once where stops take no time, and else it has
-- ended after the delay; a primary accepts writes until then
abbrev pub stopping : Ticks → ServerFacts → ServerFacts
stopping now s = if s.stop_delay.0 == 0 then stopped s
    else record s { state = states.Stopping (is_primary s.state) (moment_after now s.stop_delay) }

-- the state after a crash: also a stopped server is crashed then
abbrev pub crashed_state : State → State
crashed_state states.Creating = states.Creating
crashed_state _ = states.Crashed

-- it ends without a shutdown, and no commit waits any more; one that has no data waits for a copy as before
abbrev pub crashed : ServerFacts → ServerFacts
crashed s = record s { state = crashed_state s.state; diverged = false; waiting = [] }

-- its data is removed: it waits for a copy from then on; no commit waits any more, and nothing diverges without a log
abbrev pub wiped : ServerFacts → ServerFacts
wiped s = record s { state = states.Creating; log = None; diverged = false; waiting = [] }

-- it ends, which takes no time, and starts again in its role: as a
-- primary on its timeline, or as a replica of whom it follows
abbrev pub restarted_in : State → Ticks → ServerFacts → ServerFacts
restarted_in states.Primary now s = primary_started now (stopped s)
restarted_in _ now s = replica_started now s.upstream s

-- it is restarted
abbrev pub restarted : Ticks → ServerFacts → ServerFacts
restarted now s = restarted_in s.state now s

-- a start or a stop is complete whose moment has come
abbrev pub completed : Ticks → State → ServerFacts → ServerFacts
completed now (states.Starting as_primary at) s = if nat_le at.0 now.0 then started as_primary s else s
completed now (states.Stopping was_primary at) s = if nat_le at.0 now.0 then stopped s else s
completed now _ s = s

-- the server at a moment
abbrev pub ticked : Ticks → ServerFacts → ServerFacts
ticked now s = completed now s.state s

-- a start or a stop is complete whose moment has come, but for a start as a primary and the stop of one
abbrev pub ticked_unless_live : Ticks → ServerFacts → ServerFacts
ticked_unless_live now s = if live s.state then s else ticked now s

-- the delay that is set, or the one that was
abbrev pub delay_or : Option Ticks → Ticks → Ticks
delay_or None delay = delay
delay_or (Some set) delay = set

-- later stops and starts take so long, each as before where nothing is said of it
abbrev pub delayed : Option Ticks → Option Ticks → ServerFacts → ServerFacts
delayed stop start s = record s { stop_delay = delay_or stop s.stop_delay; start_delay = delay_or start s.start_delay }
