-- What a tick brings beside the clock: machines are reset, keys expire, and servers begin and end.
use Rattle.std.specs.Prelude.{ℕ, ◌+◌, ◌++◌, if◌then◌else◌, List, [], ◌∷◌, Option, Some, None, option_and_then, slice_get}
use Rattle.pat_base.specs.declared.ticks.Ticks.{Ticks}
use Rattle.store_keys.specs.declared.key.Key.{Key}
use Rattle.store_keys.specs.declared.key.Key.TheVariants as keys
use Rattle.lease_store.specs.Answers.{expired_holder, expired_keys}
use Rattle.event_book.specs.declared.event.Event.{Event}
use Rattle.event_book.specs.declared.event.EventKind.{EventKind}
use Rattle.event_book.specs.declared.event.EventKind.TheVariants as kinds
use Rattle.event_book.specs.declared.event.StoreEvent.TheVariants as stores
use Rattle.event_book.specs.declared.event.WatchdogEvent.TheVariants as watchdogs
use Rattle.event_book.specs.declared.member.Member.{Member}
use Rattle.leader_key.specs.Watchdog.{is_due_at}
use Rattle.cluster_model.specs.Beginnings.{completion_kinds}
use Rattle.cluster_model.specs.Commands.{kinds_of}
use Rattle.cluster_model.specs.Orders.{declared_member}
use Rattle.cluster_model.specs.Parts.{event_of, events_of, events_then, for_some, each}
use Rattle.cluster_model.specs.State.{Cluster}

-- the machine of a member is reset by its watchdog, where that is due
abbrev pub reset_of : ℕ → Member → Option Ticks → Option EventKind
reset_of now member deadline = if is_due_at now deadline then Some (kinds.Watchdog (watchdogs.Reset member)) else None

-- what that brings
abbrev pub reset_events : Cluster → Member → List Event
reset_events cluster member = events_of cluster
    (kinds_of (option_and_then (reset_of cluster.facts.clock member)
    (slice_get cluster.facts.deadlines member.id.number)))

-- the expiry of the leader key, which names its holder
abbrev pub leader_expiry : Option Member → List EventKind
leader_expiry None = []
leader_expiry (Some holder) = kinds.Store (stores.LeaderExpired holder) ∷ []

-- the expiry of a key, as an event; that of the leader key names its holder
abbrev pub expiry_of : Option Member → Key → List EventKind
expiry_of holder keys.Leader = leader_expiry holder
expiry_of holder key = kinds.Store (stores.Expired key) ∷ []

-- the expiries of these keys, as events
abbrev pub expiries_of : Option Member → List Key → List EventKind
expiries_of holder [] = []
expiries_of holder (key ∷ more) = expiry_of holder key ++ expiries_of holder more

-- what expires with the next tick
abbrev pub next_expiries : Cluster → List EventKind
next_expiries cluster =
    expiries_of (declared_member cluster.facts.members (expired_holder cluster.facts.keys (cluster.facts.clock + 1)))
    (expired_keys cluster.facts.keys (cluster.facts.clock + 1))

-- the start or the stop of the server of a member as a primary is complete, where its moment has come
abbrev pub completion_events : Cluster → Member → List Event
completion_events cluster member =
    for_some (slice_get cluster.facts.servers member.id.number)
    (λ s. events_of cluster (completion_kinds cluster.facts.clock member cluster.facts.acknowledged s))

-- the clock grows by one, with which starts and stops of servers that don't write are
-- complete, and what has expired is dropped; the machines whose watchdogs are due are reset;
-- what expired is told; and starts and stops of primaries are complete. Each in script order
abbrev pub tick_events : Cluster → List Event
tick_events cluster =
    events_then cluster (event_of cluster kinds.Tick) (λ ticked.
    events_then ticked (each reset_events ticked ticked.facts.members) (λ reset.
    events_then reset (events_of reset (next_expiries cluster)) (λ expired.
    each completion_events expired expired.facts.members)))
