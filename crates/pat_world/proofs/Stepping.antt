-- The steps that a world took, and those that it may take.
use Rattle.std.proofs.Common.{◌≡◌, ℕ, ◌+◌, ◌*◌, List, arith, sym, subst}
use Rattle.script_model.specs.Script.{HeadText}
use Rattle.event_book.specs.declared.event.Event.{Event}
use Rattle.event_list.specs.Listed.{Listed}
use Rattle.cluster_model.specs.Starting.{cluster_of}
use Rattle.cluster_model.specs.State.{Cluster}
use Rattle.simulation.specs.Steps.{HasStepsLeft, TookSteps, IsCounted, WorldFacts}
use Rattle.world_model.specs.Counted.{AreCounted, counted_by}
use Rattle.world_model.specs.Emits.{Emits}
use Rattle.world_model.specs.Room.{HasRoomFor, most_steps, step_cost}
use Rattle.world_model.specs.Idle.{at_moment}
use Rattle.world_model.proofs.Counting.{counted-first, counted-passed, counted-step}
use Rattle.world_model.proofs.Rooms.{HasRoom-fewer}
use Rattle.world_model.proofs.Starting.{steps-room}
use Rattle.pat_world.proofs.IdleTicks.{room-passed}

-- before the first step a world may take all of them
pub steps-left-first : (head : HeadText) (world : WorldFacts) → world.cluster ≡ cluster_of head → world.steps ≡ 0
    → HasStepsLeft world most_steps
steps-left-first head world is none = record {
  room = subst (λ (c : Cluster). HasRoomFor c most_steps) (sym is) (steps-room head);
  steps = omega (arith, none);
}

-- and nothing is counted farther
pub is-counted-first : (head : HeadText) (cluster : Cluster) → cluster ≡ cluster_of head
    → AreCounted cluster (counted_by 0)
is-counted-first head cluster is = subst (λ (c : Cluster). AreCounted c (counted_by 0)) (sym is) (counted-first head)

-- a step was taken
pub TookSteps-step : (before after : WorldFacts) (had has : Listed) (events : List Event)
    → HasStepsLeft before 1 → after.steps ≡ before.steps + 1
    → Emits before.cluster after.cluster had has events step_cost → TookSteps before after 1
TookSteps-step before after had has events left one took = record {
  steps = one;
  room = λ more has. record {
    room = took.room (step_cost * more)
        (HasRoom-fewer before.cluster (step_cost * (1 + more)) (step_cost + step_cost * more) (omega arith) has.room);
  };
  counted = λ counted. subst (λ (n : ℕ). AreCounted after.cluster (counted_by n)) (sym one)
      (counted-step before.cluster after.cluster before.steps left.steps took.room counted);
}

idle-counted : (world after : WorldFacts) (count : ℕ)
    → after.cluster ≡ at_moment world.cluster (world.cluster.facts.clock + count)
    → after.steps ≡ world.steps + count → IsCounted world → IsCounted after
idle-counted world after count is took counted =
    let passed = counted-passed world.cluster (counted_by world.steps) (counted_by (world.steps + count))
    (world.cluster.facts.clock + count) (omega arith) (omega (arith, counted.clock)) counted in
    subst (λ (n : ℕ). AreCounted after.cluster (counted_by n)) (sym took)
    (subst (λ (c : Cluster). AreCounted c (counted_by (world.steps + count))) (sym is) passed)

-- so many were taken at once, in which nothing but time passed
pub TookSteps-idle : (world after : WorldFacts) (count : ℕ)
    → after.cluster ≡ at_moment world.cluster (world.cluster.facts.clock + count)
    → after.steps ≡ world.steps + count → TookSteps world after count
TookSteps-idle world after count is took = record {
  steps = took;
  room = λ more has. subst (λ (c : Cluster). HasRoomFor c more) (sym is) (room-passed world.cluster count more has);
  counted = idle-counted world after count is took;
}
