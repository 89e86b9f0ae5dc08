-- What leaves a leader alone: nothing happens to its own machine,
-- nobody operates, and its messages with the key store come through.
use Rattle.std.specs.Prelude.{ℕ, ◌≡◌, ◌≢◌, List, [], ◌∷◌, Some}
use Rattle.store_keys.specs.declared.txn.Txn.{Txn}
use Rattle.store_keys.specs.declared.txn.Txn.TheVariants as txns
use Rattle.store_keys.specs.declared.txn.OperatorTxn.TheVariants as operator_txns
use Rattle.event_book.specs.declared.event.AgentEvent.TheVariants as agents
use Rattle.event_book.specs.declared.event.Event.{Event}
use Rattle.event_book.specs.declared.event.EventKind.{EventKind}
use Rattle.event_book.specs.declared.event.EventKind.TheVariants as kinds
use Rattle.event_book.specs.declared.event.MessageEvent.TheVariants as messages
use Rattle.event_book.specs.declared.event.ServerEvent.TheVariants as servers
use Rattle.event_book.specs.declared.event.StoreEvent.TheVariants as stores
use Rattle.event_book.specs.declared.link.LinkEnd.{LinkEnd}
use Rattle.event_book.specs.declared.link.LinkEnd.TheVariants as ends
use Rattle.event_book.specs.Flight.{InFlightFacts, in_flight}
use Rattle.cluster_model.specs.Cluster.{cluster_after}
use Rattle.cluster_model.specs.State.{Cluster}

-- a message goes between this member and the key store
abbrev pub IsWithStore : ℕ → LinkEnd → LinkEnd → Type 0
IsWithStore n (ends.Member member) ends.Store = n ≡ member.id.number
IsWithStore n ends.Store (ends.Member member) = n ≡ member.id.number
IsWithStore n from to = ⊥

-- neither a failover is asked for, now or as a scheduled switchover, nor a change of the configuration
abbrev pub IsOwnRequest : Txn → Type 0
IsOwnRequest (txns.Operators (operator_txns.SetFailover failover ttl)) = ⊥
IsOwnRequest (txns.Operators (operator_txns.SetConfig revision config)) = ⊥
IsOwnRequest (txns.Operators (operator_txns.Schedule planned)) = ⊥
IsOwnRequest (txns.Operators (operator_txns.Fire revision scheduled failover ttl)) = ⊥
IsOwnRequest _ = Unit {0}

-- what happens leaves the member of this number alone
abbrev pub LeavesAlone : ℕ → Cluster → EventKind → Type 0
LeavesAlone n cluster (kinds.Message (messages.Lost number)) = (carried : InFlightFacts)
    → in_flight cluster.facts.flight number ≡ Some carried → IsWithStore n carried.message.from carried.message.to → ⊥
LeavesAlone n cluster (kinds.Agent (agents.Killed agent)) = n ≢ agent.id.number
LeavesAlone n cluster (kinds.Agent (agents.Suspended agent)) = n ≢ agent.id.number
LeavesAlone n cluster (kinds.Agent (agents.Resumed agent)) = n ≢ agent.id.number
LeavesAlone n cluster (kinds.Agent (agents.Operated agent action)) = ⊥
LeavesAlone n cluster (kinds.Server (servers.Crashed server)) = n ≢ server.id.number
LeavesAlone n cluster (kinds.Store (stores.Granted number by txn standbys)) = IsOwnRequest txn
LeavesAlone n cluster _ = Unit {0}

-- so does each of these events
abbrev pub LeaveAlone : ℕ → Cluster → List Event → Type 0
LeaveAlone n cluster [] = Unit {0}
LeaveAlone n cluster (event ∷ events) =
    LeavesAlone n cluster event.kind × LeaveAlone n (cluster_after cluster event.kind) events
