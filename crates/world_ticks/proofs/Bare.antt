-- Ticks with which nothing ends.
use Rattle.std.proofs.Common.{◌≡◌, ℕ, ◌+◌, List, [], ◌∷◌, arith, ap, sym, subst, ◌∙◌}
use Rattle.pat_base.specs.declared.ticks.Ticks.{Ticks}
use Rattle.event_book.specs.declared.event.Event.{Event}
use Rattle.event_book.specs.declared.event.EventKind.TheVariants as kinds
use Rattle.event_list.specs.Listed.{Listed, ◌+++◌}
use Rattle.cluster_model.specs.Parts.{event_of}
use Rattle.cluster_model.specs.State.{Cluster}
use Rattle.cluster_model.specs.Ticking.{tick_events}
use Rattle.world_model.specs.Emits.{Emits}
use Rattle.world_model.specs.Idle.{NothingEnds, at_moment}
use Rattle.world_model.specs.Room.{HasRoom, tick_cost}
use Rattle.world_model.proofs.Idling.{tick-idle, ticked-idle}
use Rattle.world_model.proofs.Rooms.{HasRoom-cluster_after}
use Rattle.world_model.proofs.Taking.{Emits-weaker}

abbrev tick_at : ℕ → Event
tick_at n = record { tick = record { 0 = n }; kind = kinds.Tick }

-- it is one event, and the cluster stands at another moment
one-tick : (cluster : Cluster) (had has : Listed) → has ≡ had +++ event_of cluster kinds.Tick
    → NothingEnds (cluster.facts.clock + 1) cluster
    → Emits cluster (at_moment cluster (cluster.facts.clock + 1)) had has (event_of cluster kinds.Tick) 1
one-tick cluster had has is ends =
    let same = ticked-idle cluster (cluster.facts.clock + 1) (omega arith) ends in
    record {
      state = sym same;
      event = is;
      room = λ more room.
          subst (λ (c : Cluster). HasRoom c more) same (HasRoom-cluster_after cluster kinds.Tick more tt room);
    }

-- it is written down, and is all that the tick brings
pub bare-took : (cluster after : Cluster) (had has : Listed) (tick : Ticks)
    → after ≡ at_moment cluster (cluster.facts.clock + 1) → tick.0 ≡ after.facts.clock
    → has ≡ had +++ record { tick = tick; kind = kinds.Tick } ∷ []
    → NothingEnds (cluster.facts.clock + 1) cluster → Emits cluster after had has (tick_events cluster) tick_cost
bare-took cluster after had has tick is at noted ends =
    let moment : tick.0 ≡ cluster.facts.clock + 1 = at ∙ ap (λ (c : Cluster). c.facts.clock) is in
    let event : has ≡ had +++ event_of cluster kinds.Tick = noted ∙ ap (λ (n : ℕ). had +++ tick_at n ∷ []) moment in
    let one : Emits cluster after had has (event_of cluster kinds.Tick) 1 =
    subst (λ (c : Cluster). Emits cluster c had has (event_of cluster kinds.Tick) 1) (sym is)
    (one-tick cluster had has event ends) in
    Emits-weaker cluster after had has (tick_events cluster) 1 tick_cost
    (subst (λ (es : List Event). Emits cluster after had has es 1)
    (sym (tick-idle cluster (cluster.facts.clock + 1) (omega arith) ends)) one)
    (omega arith)
