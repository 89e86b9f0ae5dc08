use Rattle.cluster_model.specs.Ticking.{reset_events}
use Rattle.world_model.proofs.Rest.{EachLeft}
use Rattle.world_ticks.proofs.ticks.resets.Given as goal

-- the machines of the members from this place on are still to be reset
abbrev pub invariant-loop-place : goal.invariant-loop-place
invariant-loop-place l =
    EachLeft reset_events 1 l.fn.stage l.stage l.fn.events l.events l.fn.stage.facts.members l.place
