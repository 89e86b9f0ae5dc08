-- What commands of a script come to at servers.
use Rattle.std.specs.Prelude.{ℕ, ◌+◌, ◌==◌, Bool, true, false, if◌then◌else◌, List, [], ◌∷◌, Option, Some, None}
use Rattle.pat_base.specs.declared.server_state.State.{State}
use Rattle.pat_base.specs.declared.server_state.State.TheVariants as states
use Rattle.pat_base.specs.declared.ticks.Ticks.{Ticks}
use Rattle.wal_model.specs.declared.entry.Entry.{Entry}
use Rattle.pg_model.specs.Facts.{ServerFacts, is_replica}
use Rattle.event_book.specs.declared.event.EventKind.{EventKind}
use Rattle.event_book.specs.declared.event.EventKind.TheVariants as kinds
use Rattle.event_book.specs.declared.event.LogEvent.TheVariants as logs
use Rattle.event_book.specs.declared.event.Note.TheVariants.{RefusesCommit}
use Rattle.event_book.specs.declared.event.ServerEvent.TheVariants as servers
use Rattle.event_book.specs.declared.member.Member.{Member}
use Rattle.event_book.specs.Members.{server_of}
use Rattle.cluster_model.specs.Losing.{beginning_kinds}
use Rattle.script_model.specs.declared.line.SlowedCall.{SlowedCall}
use Rattle.script_model.specs.declared.line.SlowedCall.TheVariants as slowed_calls
use Rattle.script_model.specs.declared.ranges.Delay.{Delay}

-- a replica is promoted by its operator, and begins to accept writes on the next timeline
abbrev pub promote_kinds : Member → List ℕ → ServerFacts → List EventKind
promote_kinds member acknowledged s =
    if is_replica s.state
    then kinds.Server (servers.Promoted (server_of member)) ∷ beginning_kinds member (s.timeline + 1) acknowledged s.log
    else []

-- it crashed, or waits for a copy
abbrev pub is_gone : State → Bool
is_gone states.Crashed = true
is_gone states.Creating = true
is_gone _ = false

-- a server that isn't gone already crashes
abbrev pub crash_of : Member → ServerFacts → Option EventKind
crash_of member s = if is_gone s.state then None else Some (kinds.Server (servers.Crashed (server_of member)))

-- a server becomes frozen, or isn't any more, where that is a change
abbrev pub freezing_of : Bool → Member → Bool → Option EventKind
freezing_of true member false = Some (kinds.Server (servers.Frozen (server_of member)))
freezing_of false member true = Some (kinds.Server (servers.Thawed (server_of member)))
freezing_of to member frozen = None

-- a delay in ticks
abbrev pub ticks_of : Delay → Ticks
ticks_of delay = record { 0 = delay.ticks }

-- later stops, or later starts, of a server take so long, where they don't already
abbrev pub slow_by : Member → SlowedCall → Delay → Ticks → Ticks → Option EventKind
slow_by member slowed_calls.Stop delay stop start = if stop.0 == delay.ticks then None
    else Some (kinds.Server (servers.Slowed (server_of member) (Some (ticks_of delay)) None))
slow_by member slowed_calls.Start delay stop start = if start.0 == delay.ticks then None
    else Some (kinds.Server (servers.Slowed (server_of member) None (Some (ticks_of delay))))

-- later stops, or later starts, of this server take so long, where they don't already
abbrev pub slow_of : Member → SlowedCall → Delay → ServerFacts → Option EventKind
slow_of member slowed delay s = slow_by member slowed delay s.stop_delay s.start_delay

-- a commit stands in the log of a server as this entry, or is refused
abbrev pub commit_of : Member → Option Entry → EventKind
commit_of member None = kinds.Note (RefusesCommit (server_of member))
commit_of member (Some entry) = kinds.Log (logs.Appended (server_of member) entry)
