-- Which happenings a cluster may take.
use Rattle.std.specs.Prelude.{ℕ, ◌≡◌, ◌+◌, ◌^◌, ◌==◌, ◌&&◌, ◌<◌, ◌≤◌, nat_le, Bool, true, false, List, Some, IfSome, IsTrue, slice_get}
use Rattle.std.specs.Option.{ForSome}
use Rattle.pat_base.specs.declared.server_state.State.{State}
use Rattle.pat_base.specs.declared.server_state.State.TheVariants as states
use Rattle.pat_base.specs.declared.ticks.Ticks.{Ticks}
use Rattle.pat_base.specs.ServerState.{live}
use Rattle.pg_model.specs.Facts.{ServerFacts}
use Rattle.pg_cluster.specs.Servers.{entry_for}
use Rattle.event_book.specs.declared.agent_process.AgentProcess.{AgentProcess}
use Rattle.event_book.specs.declared.event.AgentEvent.{AgentEvent}
use Rattle.event_book.specs.declared.event.AgentEvent.TheVariants as agents
use Rattle.event_book.specs.declared.event.EventKind.{EventKind}
use Rattle.event_book.specs.declared.event.EventKind.TheVariants as kinds
use Rattle.event_book.specs.declared.event.LogEvent.{LogEvent}
use Rattle.event_book.specs.declared.event.LogEvent.TheVariants as logs
use Rattle.event_book.specs.declared.event.MessageEvent.{MessageEvent}
use Rattle.event_book.specs.declared.event.MessageEvent.TheVariants as messages
use Rattle.event_book.specs.declared.event.ReplicationEvent.{ReplicationEvent}
use Rattle.event_book.specs.declared.event.ReplicationEvent.TheVariants as replications
use Rattle.event_book.specs.declared.event.ServerEvent.{ServerEvent}
use Rattle.event_book.specs.declared.event.ServerEvent.TheVariants as servers
use Rattle.event_book.specs.declared.event.StoreEvent.TheVariants as stores
use Rattle.cluster_model.specs.State.{Cluster}

-- what is counted up is counted up by one: a message has the next number, and so have a run and a commit
abbrev pub CountsMessage : ℕ → MessageEvent → Type 0
CountsMessage sent (messages.Sent number message) = number ≤ sent + 1
CountsMessage sent _ = Unit {0}

-- an agent that starts is at most in the run after its last one
abbrev pub CountsAgent : List AgentProcess → AgentEvent → Type 0
CountsAgent states (agents.Started agent incarnation) =
    (state : AgentProcess) → slice_get states agent.id.number ≡ Some state → incarnation ≤ state.incarnation + 1
CountsAgent states _ = Unit {0}

-- a commit has at most the next number
abbrev pub CountsLog : ℕ → LogEvent → Type 0
CountsLog last (logs.Appended server entry) = entry.serial ≤ last + 1
CountsLog last _ = Unit {0}

-- what a happening counts up, it counts up by one at most
abbrev pub Counts : Cluster → EventKind → Type 0
Counts cluster (kinds.Message happening) = CountsMessage cluster.facts.sent happening
Counts cluster (kinds.Agent happening) = CountsAgent cluster.facts.processes happening
Counts cluster (kinds.Log happening) = CountsLog cluster.facts.commits happening
Counts cluster _ = Unit {0}

-- it brings nothing but itself: a message that is sent has a grant and a snapshot, a
-- grant has an answer, and an agent acts that is woken or does what an operator asks
abbrev pub IsBare : EventKind → Type 0
IsBare (kinds.Message (messages.Sent number message)) = ⊥
IsBare (kinds.Message (messages.Delivered number)) = ⊥
IsBare (kinds.Store (stores.Granted number by txn standbys)) = ⊥
IsBare (kinds.Agent (agents.Woken agent)) = ⊥
IsBare (kinds.Agent (agents.Operated agent action)) = ⊥
IsBare _ = Unit {0}

-- whether a server in this state, whose stops take so long, can accept writes no longer
-- from this moment on: it accepts them, and stops take no time, or its stop is complete
abbrev pub ends_at : ℕ → State → Ticks → Bool
ends_at now states.Primary delay = delay.0 == 0
ends_at now (states.Stopping was_primary at) delay = nat_le at.0 now
ends_at now _ delay = false

-- a start of this server as a primary is complete at once
abbrev pub starts_at_once : ServerFacts → Bool
starts_at_once s = s.was_primary && s.start_delay.0 == 0

-- whether a server in this state can accept writes from this moment on: as a replica that is promoted,
-- as one that is down and starts as a primary at once, or since its start as a primary is complete
abbrev pub begins_in : ℕ → ServerFacts → State → Bool
begins_in now s states.Replica = true
begins_in now s states.Stopped = starts_at_once s
begins_in now s states.Crashed = starts_at_once s
begins_in now s (states.Starting as_primary at) = as_primary && nat_le at.0 now
begins_in now s _ = false

-- a server begins that can, one ends that can, who starts as a primary again was one,
-- and no delay is longer than servers take. That a log diverged doesn't come in this way
abbrev pub ServerComes : ℕ → List ServerFacts → ServerEvent → Type 0
ServerComes now known (servers.Began server timeline) =
    IfSome (slice_get known server.id.number) (λ s. IsTrue (begins_in now s s.state) × (s.timeline < 2 ^ 60))
ServerComes now known (servers.Ended server) =
    IfSome (slice_get known server.id.number) (λ s. IsTrue (ends_at now s.state s.stop_delay))
ServerComes now known (servers.Slowed server stop start) =
    ForSome stop (λ delay. delay.0 ≤ 2 ^ 40) × ForSome start (λ delay. delay.0 ≤ 2 ^ 40)
ServerComes now known (servers.StartsAsPrimary server) =
    IfSome (slice_get known server.id.number) (λ s. IsTrue s.was_primary)
ServerComes now known (servers.Diverged server upstream at) = ⊥
ServerComes now known _ = Unit {0}

-- a commit is the one that its server appends, and who is wiped isn't
-- live. What else changes logs isn't done in this way
abbrev pub LogComes : List ServerFacts → LogEvent → Type 0
LogComes known (logs.Appended server entry) = entry_for known server.id.number entry.serial entry.bytes ≡ Some entry
LogComes known (logs.Wiped server) = IfSome (slice_get known server.id.number) (λ s. live s.state ≡ false)
LogComes known _ = ⊥

-- required lists and confirmations come. That a commit is acknowledged doesn't come in this way
abbrev pub ReplicationComes : ReplicationEvent → Type 0
ReplicationComes (replications.Acknowledged server commit) = ⊥
ReplicationComes _ = Unit {0}

-- what happens at servers at this moment is what they can do
abbrev pub ServesAt : ℕ → List ServerFacts → EventKind → Type 0
ServesAt now known (kinds.Server happening) = ServerComes now known happening
ServesAt now known (kinds.Log happening) = LogComes known happening
ServesAt now known (kinds.Replication happening) = ReplicationComes happening
ServesAt now known _ = Unit {0}

-- this may happen next
pub record MayCome (cluster : Cluster) (kind : EventKind) : Type 0 where
  pub bare : IsBare kind
  pub counts : Counts cluster kind
  pub serves : ServesAt cluster.facts.clock cluster.facts.servers kind
