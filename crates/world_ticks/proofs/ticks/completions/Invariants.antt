use Rattle.cluster_model.specs.Ticking.{completion_events}
use Rattle.world_model.specs.Room.{beginning_cost}
use Rattle.world_model.proofs.Rest.{EachLeft}
use Rattle.world_ticks.proofs.ticks.completions.Given as goal

-- the starts and stops of the servers of the members from this place on are still to be completed
abbrev pub invariant-loop-place : goal.invariant-loop-place
invariant-loop-place l =
    EachLeft completion_events beginning_cost l.fn.stage l.stage l.fn.events l.events l.fn.stage.facts.members l.place
