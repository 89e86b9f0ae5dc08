use Rattle.std.proofs.Common.{◌-◌, length}
use Rattle.cluster_model.specs.Messages.{wake_events}
use Rattle.world_model.specs.Room.{input_cost}
use Rattle.world_model.proofs.Rest.{EachLeft}
use Rattle.world_acts.specs.Asleep.{AreAsleep}
use Rattle.world_acts.proofs.wakes.wakes.Given as goal

-- the agents of the members from this place on are still to be woken
abbrev pub invariant-loop-place : goal.invariant-loop-place
invariant-loop-place l = record {
  left : EachLeft wake_events input_cost l.fn.stage l.stage l.fn.events l.events l.fn.stage.facts.members l.place;
  asleep : AreAsleep l.asleep l.stage;
}

abbrev pub decreases-loop-place : goal.decreases-loop-place
decreases-loop-place l = length l.fn.stage.facts.members - l.place
