use Rattle.cluster_model.specs.Next.{receive_events_of}
use Rattle.world_model.specs.Room.{streaming_cost}
use Rattle.world_model.proofs.Rest.{EachLeft}
use Rattle.world_ticks.proofs.receiving.each_receives.Given as goal

-- the servers of the members from this place on are still to receive
abbrev pub invariant-loop-place : goal.invariant-loop-place
invariant-loop-place l =
    EachLeft receive_events_of streaming_cost l.fn.stage l.stage l.fn.events l.events l.fn.stage.facts.members l.place
