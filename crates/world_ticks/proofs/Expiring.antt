-- The expiries of keys.
use Rattle.std.proofs.Common.{◌≡◌, ℕ, ◌+◌, ◌<◌, List, [], ◌∷◌, ◌++◌, length, drop, get_or, Option, Some, None, arith, refl, ◌∙◌, ap, sym, subst}
use Rattle.std.proofs.lemmas.List.{drop_more}
use Rattle.pat_base.specs.declared.ticks.Ticks.{Ticks}
use Rattle.store_keys.specs.declared.key.Key.{Key}
use Rattle.store_keys.specs.declared.key.Key.TheVariants as keys
use Rattle.lease_store.specs.Answers.{expired_keys, expired_holder}
use Rattle.event_book.specs.declared.event.Event.{Event}
use Rattle.event_book.specs.declared.event.EventKind.{EventKind}
use Rattle.event_book.specs.declared.event.EventKind.TheVariants as kinds
use Rattle.event_book.specs.declared.event.StoreEvent.TheVariants as stores
use Rattle.event_book.specs.declared.member.Member.{Member}
use Rattle.event_list.specs.Listed.{Listed, ◌+++◌}
use Rattle.event_list.proofs.Appended.{appended_assoc}
use Rattle.cluster_model.specs.Cluster.{cluster_over}
use Rattle.cluster_model.specs.Orders.{declared_member}
use Rattle.cluster_model.specs.Parts.{each, event_of, events_at, events_of, events_then}
use Rattle.cluster_model.specs.State.{Cluster}
use Rattle.cluster_model.specs.Ticking.{completion_events, expiries_of, expiry_of, next_expiries, reset_events, tick_events}
use Rattle.world_model.specs.Emits.{Emits}
use Rattle.world_model.specs.Room.{completions_cost, resets_cost, tick_cost}
use Rattle.world_model.proofs.Rooms.{HasRoom-fewer}
use Rattle.world_model.proofs.Taking.{Emits-then}

pub events_at-append : (tick : Ticks) (xs ys : List EventKind)
    → events_at tick (xs ++ ys) ≡ events_at tick xs ++ events_at tick ys
events_at-append tick [] ys = refl
events_at-append tick (x ∷ xs) ys =
    ap (λ (t : List Event). let event : Event = record { tick = tick; kind = x } in event ∷ t)
    (events_at-append tick xs ys)

-- one key more is written down
pub expiries-more : (tick : Ticks) (holder : Option Member) (all : List Key) (at : ℕ) (key : Key)
    (had done longer : Listed) → at < length all → key ≡ get_or all at key
    → done +++ events_at tick (expiries_of holder (drop at all)) ≡ had +++ events_at tick (expiries_of holder all)
    → longer ≡ done +++ events_at tick (expiry_of holder key)
    → longer +++ events_at tick (expiries_of holder (drop (at + 1) all))
    ≡ had +++ events_at tick (expiries_of holder all)
expiries-more tick holder all at key had done longer h is so more =
    let next : drop at all ≡ key ∷ drop (at + 1) all = drop_more all at key h
    ∙ ap (λ k. k ∷ drop (at + 1) all) (sym is) in
    ap (λ es. es +++ events_at tick (expiries_of holder (drop (at + 1) all))) more
    ∙ appended_assoc done (events_at tick (expiry_of holder key))
    (events_at tick (expiries_of holder (drop (at + 1) all)))
    ∙ ap (λ es. done +++ es)
    (sym (events_at-append tick (expiry_of holder key) (expiries_of holder (drop (at + 1) all))))
    ∙ ap (λ ks. done +++ events_at tick (expiries_of holder ks)) (sym next)
    ∙ so

-- an expiry changes nothing: what has expired was dropped with the tick
pub record IsStill (cluster : Cluster) (tick : Ticks) (happenings : List EventKind) : Type 0 where
  pub events : events_of cluster happenings ≡ events_at tick happenings
  pub state : cluster_over cluster (events_at tick happenings) ≡ cluster

still-nothing : (cluster : Cluster) (tick : Ticks) → IsStill cluster tick []
still-nothing cluster tick = record { events = refl; state = refl }

still-leader : (cluster : Cluster) (holder : Member) (more : List EventKind)
    → IsStill cluster (record { 0 = cluster.facts.clock }) more
    → IsStill cluster (record { 0 = cluster.facts.clock }) (kinds.Store (stores.LeaderExpired holder) ∷ more)
still-leader cluster holder more rest = record {
  events = ap (λ (t : List Event). let event : Event = record {
    tick = record { 0 = cluster.facts.clock };
    kind = kinds.Store (stores.LeaderExpired holder);
  } in event ∷ t) rest.events;
  state = rest.state;
}

still-key : (cluster : Cluster) (key : Key) (more : List EventKind)
    → IsStill cluster (record { 0 = cluster.facts.clock }) more
    → IsStill cluster (record { 0 = cluster.facts.clock }) (kinds.Store (stores.Expired key) ∷ more)
still-key cluster key more rest = record {
  events =
      ap (λ (t : List Event). let event : Event =
      record { tick = record { 0 = cluster.facts.clock }; kind = kinds.Store (stores.Expired key) } in event ∷ t)
      rest.events;
  state = rest.state;
}

still-one : (cluster : Cluster) (holder : Option Member) (key : Key) (more : List EventKind)
    → IsStill cluster (record { 0 = cluster.facts.clock }) more
    → IsStill cluster (record { 0 = cluster.facts.clock }) (expiry_of holder key ++ more)
still-one cluster None keys.Leader more rest = rest
still-one cluster (Some member) keys.Leader more rest = still-leader cluster member more rest
still-one cluster holder keys.Config more rest = still-key cluster keys.Config more rest
still-one cluster holder (keys.Member member) more rest = still-key cluster (keys.Member member) more rest
still-one cluster holder keys.Failover more rest = still-key cluster keys.Failover more rest
still-one cluster holder keys.Sync more rest = still-key cluster keys.Sync more rest
still-one cluster holder keys.Status more rest = still-key cluster keys.Status more rest
still-one cluster holder (keys.History timeline) more rest = still-key cluster (keys.History timeline) more rest
still-one cluster holder keys.Failsafe more rest = still-key cluster keys.Failsafe more rest
still-one cluster holder keys.Scheduled more rest = still-key cluster keys.Scheduled more rest

pub still-all : (cluster : Cluster) (holder : Option Member) (all : List Key)
    → IsStill cluster (record { 0 = cluster.facts.clock }) (expiries_of holder all)
still-all cluster holder [] = still-nothing cluster (record { 0 = cluster.facts.clock })
still-all cluster holder (key ∷ more) =
    still-one cluster holder key (expiries_of holder more) (still-all cluster holder more)

expiries-took : (cluster : Cluster) (holder : Option Member) (all : List Key) (had : Listed)
    → Emits cluster cluster had (had +++ events_at (record { 0 = cluster.facts.clock }) (expiries_of holder all))
    (events_of cluster (expiries_of holder all)) 0
expiries-took cluster holder all had =
    let still = still-all cluster holder all in
    record {
      state = sym (ap (cluster_over cluster) still.events ∙ still.state);
      event = ap (λ es. had +++ es) (sym still.events);
      room = λ more room. HasRoom-fewer cluster (0 + more) more (omega arith) room;
    }

-- a tick: the clock, the resets, the expiries of its moment, and the completions
pub tick-took : (cluster ticked reset after : Cluster) (had a b c has : Listed) (tick : Ticks)
    → Emits cluster ticked had a (event_of cluster kinds.Tick) 1
    → Emits ticked reset a b (each reset_events ticked ticked.facts.members) resets_cost
    → tick.0 ≡ reset.facts.clock → c ≡ b +++ events_at tick (next_expiries cluster)
    → Emits reset after c has (each completion_events reset reset.facts.members) completions_cost
    → Emits cluster after had has (tick_events cluster) tick_cost
tick-took cluster ticked reset after had a b c has tick first resets at told completions =
    let holder = declared_member cluster.facts.members (expired_holder cluster.facts.keys (cluster.facts.clock + 1)) in
    let keys = expired_keys cluster.facts.keys (cluster.facts.clock + 1) in
    let events : c ≡ b +++ events_at (record { 0 = reset.facts.clock }) (next_expiries cluster) = told
    ∙ ap (λ (n : ℕ). b +++ events_at (record { 0 = n }) (next_expiries cluster)) at in
    let expired : Emits reset reset b c (events_of reset (next_expiries cluster)) 0 =
    subst (λ (es : Listed). Emits reset reset b es (events_of reset (next_expiries cluster)) 0) (sym events)
    (expiries-took reset holder keys b) in
    Emits-then cluster ticked after had a has (event_of cluster kinds.Tick)
    (λ t. events_then t (each reset_events t t.facts.members)
    (λ r. events_then r (events_of r (next_expiries cluster)) (λ e. each completion_events e e.facts.members)))
    1 (resets_cost + completions_cost) tick_cost first
    (Emits-then ticked reset after a b has (each reset_events ticked ticked.facts.members)
    (λ r. events_then r (events_of r (next_expiries cluster)) (λ e. each completion_events e e.facts.members))
    resets_cost completions_cost (resets_cost + completions_cost) resets
    (Emits-then reset reset after b c has (events_of reset (next_expiries cluster))
    (λ e. each completion_events e e.facts.members) 0 completions_cost completions_cost expired completions
    (omega arith))
    (omega arith)) (omega arith)
