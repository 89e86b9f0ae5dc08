-- How servers begin to accept writes: by the order of their agent, and when their start is complete.
use Rattle.std.specs.Prelude.{ℕ, ◌+◌, ◌==◌, nat_le, if◌then◌else◌, true, List, [], ◌∷◌, Option, Some, None}
use Rattle.pat_base.specs.declared.server_state.State.{State}
use Rattle.pat_base.specs.declared.server_state.State.TheVariants as states
use Rattle.pat_base.specs.declared.ticks.Ticks.{Ticks}
use Rattle.wal_model.specs.declared.entry.Entry.{Entry}
use Rattle.pg_model.specs.Facts.{ServerFacts}
use Rattle.event_book.specs.declared.event.EventKind.{EventKind}
use Rattle.event_book.specs.declared.event.EventKind.TheVariants as kinds
use Rattle.event_book.specs.declared.event.ServerEvent.TheVariants as servers
use Rattle.event_book.specs.declared.member.Member.{Member}
use Rattle.event_book.specs.Members.{server_of}
use Rattle.cluster_model.specs.declared.beginning.Beginning.{Beginning}
use Rattle.cluster_model.specs.declared.beginning.Beginning.TheVariants as beginnings
use Rattle.cluster_model.specs.declared.beginning.Completion.{Completion}
use Rattle.cluster_model.specs.declared.beginning.Completion.TheVariants as completions
use Rattle.cluster_model.specs.Losing.{beginning_kinds}

-- a start as a primary on this timeline, where starts take so long
abbrev pub again_by : ℕ → Ticks → Beginning
again_by timeline delay = if delay.0 == 0 then beginnings.AtOnce timeline else beginnings.WithItsStart

-- one that is down starts as a primary again, if its last run was one
abbrev pub beginning_again : ServerFacts → Option Beginning
beginning_again s = if s.was_primary then Some (again_by s.timeline s.start_delay) else None

-- how a server in this state begins by the order of its agent, if it can: a replica
-- is promoted to the next timeline, and one that is down starts as a primary again
abbrev pub beginning_in : State → ServerFacts → Option Beginning
beginning_in states.Replica s = Some (beginnings.AtOnce (s.timeline + 1))
beginning_in states.Stopped s = beginning_again s
beginning_in states.Crashed s = beginning_again s
beginning_in _ s = None

-- so it is with this server
abbrev pub beginning_of : ServerFacts → Option Beginning
beginning_of s = beginning_in s.state s

-- what happens at a server with this log that begins so
abbrev pub kinds_by : Member → List ℕ → Option (List Entry) → Option Beginning → List EventKind
kinds_by member acknowledged log None = []
kinds_by member acknowledged log (Some (beginnings.AtOnce timeline)) = beginning_kinds member timeline acknowledged log
kinds_by member acknowledged log (Some beginnings.WithItsStart) =
    kinds.Server (servers.StartsAsPrimary (server_of member)) ∷ []

-- what the order of its agent to begin comes to at a server
abbrev pub begin_kinds : Member → List ℕ → ServerFacts → List EventKind
begin_kinds member acknowledged s = kinds_by member acknowledged s.log (beginning_of s)

-- what happens at a server in this state that starts again in its role: a primary ends first
abbrev pub server_restart_in : Member → List ℕ → State → ServerFacts → List EventKind
server_restart_in member acknowledged states.Primary s = kinds.Server (servers.Ended (server_of member))
    ∷ kinds_by member acknowledged s.log (Some (again_by s.timeline s.start_delay))
server_restart_in member acknowledged states.Replica s = kinds.Server (servers.StartsAsReplica (server_of member)) ∷ []
server_restart_in member acknowledged _ s = []

-- what the order of its agent to start again comes to at a server
abbrev pub server_restart_kinds : Member → List ℕ → ServerFacts → List EventKind
server_restart_kinds member acknowledged s = server_restart_in member acknowledged s.state s

-- a start or a stop as a primary, of a server on this timeline in this state, is
-- complete at this moment. Other starts and stops are complete with the tick itself
abbrev pub completion_in : ℕ → ℕ → State → Option Completion
completion_in now timeline (states.Starting true at) =
    if nat_le at.0 now then Some (completions.Begins timeline) else None
completion_in now timeline (states.Stopping true at) = if nat_le at.0 now then Some completions.Ends else None
completion_in now timeline _ = None

-- so it is with this server
abbrev pub completion_of : ℕ → ServerFacts → Option Completion
completion_of now s = completion_in now s.timeline s.state

-- what happens at a server with this log whose start or stop is complete
abbrev pub completed_by : Member → List ℕ → Option (List Entry) → Option Completion → List EventKind
completed_by member acknowledged log None = []
completed_by member acknowledged log (Some (completions.Begins timeline)) =
    beginning_kinds member timeline acknowledged log
completed_by member acknowledged log (Some completions.Ends) = kinds.Server (servers.Ended (server_of member)) ∷ []

-- what is complete at a server at this moment
abbrev pub completion_kinds : ℕ → Member → List ℕ → ServerFacts → List EventKind
completion_kinds now member acknowledged s = completed_by member acknowledged s.log (completion_of now s)
