-- Which events show which action.
use Rattle.std.specs.Prelude.{ℕ, ◌≡◌, Bool, true, false, List, [], ◌∷◌, Option, Some, None}
use Rattle.pat_base.specs.declared.name.Name.{Name}
use Rattle.pat_base.specs.declared.ticks.Ticks.{Ticks}
use Rattle.pat_base.specs.declared.member_set.MemberSet.{MemberSet}
use Rattle.store_keys.specs.declared.txn.Txn.{Txn}
use Rattle.store_keys.specs.declared.txn.Txn.TheVariants as txns
use Rattle.event_book.specs.Functions.{put_at}
use Rattle.commit_actions.specs.Past.{VolatileState}
use Rattle.event_book.specs.declared.event.AgentEvent.TheVariants as agents
use Rattle.event_book.specs.declared.event.Event.{Event}
use Rattle.event_book.specs.declared.event.EventKind.{EventKind}
use Rattle.event_book.specs.declared.event.EventKind.TheVariants as kinds
use Rattle.event_book.specs.declared.event.MessageEvent.TheVariants as messages
use Rattle.event_book.specs.declared.event.ReplicationEvent.TheVariants as replications
use Rattle.event_book.specs.declared.event.ServerEvent.TheVariants as servers
use Rattle.event_book.specs.declared.event.StoreEvent.TheVariants as stores
use Rattle.event_book.specs.declared.event.WatchdogEvent.TheVariants as watchdogs
use Rattle.event_book.specs.declared.member.Member.{Member}

-- one event at a moment
abbrev pub event_at : Ticks → EventKind → List Event
event_at tick kind = record { tick = tick; kind = kind } ∷ []

-- a request is granted, and not answered yet
abbrev pub decided_events : Ticks → ℕ → Member → Txn → List Name → List Event
decided_events tick number by txn standbys =
    record { tick = tick; kind = kinds.Message (messages.Delivered number) }
    ∷ record { tick = tick; kind = kinds.Store (stores.Granted number by txn standbys) }
    ∷ []

-- a renewal carries a set for the failsafe key
abbrev pub carries_set : Option MemberSet → Bool
carries_set None = false
carries_set (Some members) = true

-- a transaction that leaves the leader key, the failsafe key and the sync key alone
abbrev pub IsOtherTxn : Txn → Type 0
IsOtherTxn (txns.Touch info ttl) = Unit {0}
IsOtherTxn (txns.Operators txn) = Unit {0}
IsOtherTxn _ = ⊥

-- an event that one input of this member's agent may bring, but for
-- those of its server and its log, which are actions of their own
abbrev pub IsOwn : ℕ → EventKind → Type 0
IsOwn m (kinds.Message happening) = Unit {0}
IsOwn m (kinds.Watchdog (watchdogs.Reset member)) = ⊥
IsOwn m (kinds.Watchdog happening) = Unit {0}
IsOwn m (kinds.Server (servers.Began server timeline)) = ⊥
IsOwn m (kinds.Server (servers.Ended server)) = ⊥
IsOwn m (kinds.Server (servers.Crashed server)) = ⊥
IsOwn m (kinds.Server happening) = Unit {0}
IsOwn m (kinds.Replication (replications.RequiredSet server required names)) = server.id.number ≡ m
IsOwn m (kinds.Replication (replications.Lacks server)) = Unit {0}
IsOwn m (kinds.Agent (agents.Started agent incarnation)) = ⊥
IsOwn m (kinds.Agent happening) = Unit {0}
IsOwn m (kinds.Note happening) = Unit {0}
IsOwn m _ = ⊥

-- all of these events are such
abbrev pub AreOwn : ℕ → List Event → Type 0
AreOwn m [] = Unit {0}
AreOwn m (event ∷ events) = IsOwn m event.kind × AreOwn m events

-- the server of this member is live no longer
abbrev pub with_server_down : (ℕ → VolatileState) → ℕ → ℕ → VolatileState
with_server_down volatile_states k = put_at volatile_states k (record (volatile_states k) { live = false })

-- an event of which commits read nothing
abbrev pub IsIdle : EventKind → Type 0
IsIdle (kinds.Store (stores.Granted number by txn standbys)) = ⊥
IsIdle (kinds.Store happening) = Unit {0}
IsIdle (kinds.Watchdog (watchdogs.Reset member)) = ⊥
IsIdle (kinds.Watchdog (watchdogs.Armed member until answer)) = Unit {0}
IsIdle (kinds.Watchdog (watchdogs.Fed member until basis)) = Unit {0}
IsIdle (kinds.Watchdog (watchdogs.Disarmed member)) = Unit {0}
IsIdle (kinds.Watchdog (watchdogs.Measured member since)) = Unit {0}
IsIdle (kinds.Watchdog (watchdogs.HoldTaken member until from incarnation sequence)) = Unit {0}
IsIdle (kinds.Server (servers.Began server timeline)) = ⊥
IsIdle (kinds.Server (servers.Ended server)) = ⊥
IsIdle (kinds.Server (servers.Crashed server)) = ⊥
IsIdle (kinds.Server happening) = Unit {0}
IsIdle (kinds.Replication (replications.Lacks server)) = Unit {0}
IsIdle (kinds.Agent (agents.Started agent incarnation)) = ⊥
IsIdle (kinds.Agent happening) = Unit {0}
IsIdle (kinds.Link happening) = Unit {0}
IsIdle (kinds.Note happening) = Unit {0}
IsIdle _ = ⊥

-- all of these events are such
abbrev pub AreIdle : List Event → Type 0
AreIdle [] = Unit {0}
AreIdle (event ∷ events) = IsIdle event.kind × AreIdle events
