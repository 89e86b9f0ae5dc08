-- What commands of a script come to.
use Rattle.std.specs.Prelude.{◌+◌, ◌&&◌, not, if◌then◌else◌, List, [], ◌∷◌, Option, Some, None, option_and_then, option_map, slice_get}
use Rattle.pat_base.specs.declared.ticks.Ticks.{Ticks}
use Rattle.pat_base.specs.ServerState.{live}
use Rattle.event_book.specs.declared.agent_process.AgentProcess.{AgentProcess}
use Rattle.event_book.specs.declared.event.EventKind.{EventKind}
use Rattle.event_book.specs.declared.event.EventKind.TheVariants as kinds
use Rattle.event_book.specs.declared.event.AgentEvent.TheVariants.{Suspended, Resumed, Killed, Started}
use Rattle.event_book.specs.declared.event.LinkEvent.TheVariants as changes
use Rattle.event_book.specs.declared.event.Note.TheVariants.{AlreadyRunning}
use Rattle.event_book.specs.declared.event.WatchdogEvent.TheVariants.{Disarmed}
use Rattle.event_book.specs.declared.member.Member.{Member}
use Rattle.event_book.specs.declared.link.Link.{Link}
use Rattle.event_book.specs.declared.link.LinkEnd.{LinkEnd}
use Rattle.event_book.specs.declared.link.LinkEnd.TheVariants as link_ends
use Rattle.event_book.specs.Links.{CutLinks, is_cut}
use Rattle.script_model.specs.declared.line.End.{End}
use Rattle.script_model.specs.declared.line.End.TheVariants as ends
use Rattle.agent_model.specs.declared.machine.Machine.{Machine}

-- an agent that runs and isn't suspended becomes suspended
abbrev pub suspend_of : Member → AgentProcess → Option EventKind
suspend_of member process =
    if process.running && not process.suspended then Some (kinds.Agent (Suspended member)) else None

-- a suspended agent goes on
abbrev pub resume_of : Member → AgentProcess → Option EventKind
resume_of member process = if process.suspended then Some (kinds.Agent (Resumed member)) else None

-- an agent that runs ends
abbrev pub kill_of : Member → AgentProcess → Option EventKind
kill_of member process = if process.running then Some (kinds.Agent (Killed member)) else None

-- an end that a script names
abbrev pub link_end_of : List Member → End → Option LinkEnd
link_end_of members ends.Store = Some link_ends.Store
link_end_of members (ends.Member id) =
    option_map (λ (member : Member). link_ends.Member member) (slice_get members id.number)

-- the link between two ends that a script names
abbrev pub link_of : List Member → End → End → Option Link
link_of members first second =
    option_and_then (λ one. option_map (λ other. record { first = one; second = other }) (link_end_of members second))
    (link_end_of members first)

-- a link that isn't cut is cut
abbrev pub cut_of : CutLinks → Link → Option EventKind
cut_of cuts link = if is_cut cuts link then None else Some (kinds.Link (changes.Cut link))

-- a link that is cut is joined
abbrev pub join_of : CutLinks → Link → Option EventKind
join_of cuts link = if is_cut cuts link then Some (kinds.Link (changes.Joined link)) else None

-- what happened, if anything did
abbrev pub kinds_of : Option EventKind → List EventKind
kinds_of None = []
kinds_of (Some kind) = kind ∷ []

-- a deadline is removed, if there is one
abbrev pub disarm_if : Member → Option Ticks → Option EventKind
disarm_if member None = None
disarm_if member (Some deadline) = Some (kinds.Watchdog (Disarmed member))

-- an agent that starts removes the deadline of its watchdog, but over a live server leaves it
abbrev pub disarm_of : Member → Option Machine → Option EventKind
disarm_of member None = None
disarm_of member (Some machine) = if live machine.server.state then None else disarm_if member machine.watchdog.deadline

-- an agent that doesn't run is started, in its next run; of one that runs it is said that it does
abbrev pub agent_started : Member → AgentProcess → EventKind
agent_started member process = if process.running then kinds.Note (AlreadyRunning member)
    else kinds.Agent (Started member (process.incarnation + 1))

-- an agent that starts does that to its watchdog; one that runs already doesn't
abbrev pub disarm_at_start : Member → AgentProcess → Option Machine → Option EventKind
disarm_at_start member process machine = if process.running then None else disarm_of member machine
