-- Which agents run, and which are suspended.
use Rattle.std.specs.Prelude.{ℕ, List, [], ◌∷◌, true, false, zero, suc}
use Rattle.pat_base.specs.Changes.{with_changed}
use Rattle.event_book.specs.declared.event.EventKind.{EventKind}
use Rattle.event_book.specs.declared.event.EventKind.TheVariants as kinds
use Rattle.event_book.specs.declared.event.AgentEvent.{AgentEvent}
use Rattle.event_book.specs.declared.event.AgentEvent.TheVariants as agents
use Rattle.event_book.specs.declared.event.WatchdogEvent.{WatchdogEvent}
use Rattle.event_book.specs.declared.event.WatchdogEvent.TheVariants as watchdogs
use Rattle.event_book.specs.declared.member.Member.{Member}
use Rattle.event_book.specs.declared.agent_process.AgentProcess.{AgentProcess}

-- an agent in its incarnation of this number
abbrev pub running_in : ℕ → AgentProcess
running_in incarnation = record { running = true; suspended = false; incarnation = incarnation }

-- so many agents before the first event
abbrev pub first_processes : ℕ → List AgentProcess
first_processes zero = []
first_processes (suc count) = running_in 1 ∷ first_processes count

-- a list by members, with the item of one member changed
abbrev pub with_member_changed : {A : Type 0} → List A → Member → (A → A) → List A
with_member_changed items member change = with_changed items member.id.number change

-- an agent that has ended: it isn't suspended either
abbrev pub ended_process : AgentProcess → AgentProcess
ended_process state = record state { running = false; suspended = false }

-- the agents after what happens to one
abbrev pub processes_by : List AgentProcess → AgentEvent → List AgentProcess
processes_by states (agents.Suspended agent) =
    with_member_changed states agent (λ state. record state { suspended = true })
processes_by states (agents.Resumed agent) =
    with_member_changed states agent (λ state. record state { suspended = false })
processes_by states (agents.Killed agent) = with_member_changed states agent ended_process
processes_by states (agents.Started agent incarnation) =
    with_member_changed states agent (λ state. running_in incarnation)
processes_by states _ = states

-- a reset of its machine ends an agent
abbrev pub processes_by_watchdog : List AgentProcess → WatchdogEvent → List AgentProcess
processes_by_watchdog states (watchdogs.Reset member) = with_member_changed states member ended_process
processes_by_watchdog states _ = states

-- the agents after an event
abbrev pub processes_after : List AgentProcess → EventKind → List AgentProcess
processes_after states (kinds.Agent happening) = processes_by states happening
processes_after states (kinds.Watchdog happening) = processes_by_watchdog states happening
processes_after states _ = states
