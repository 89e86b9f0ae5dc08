use Rattle.cluster_model.specs.Next.{acknowledge_events}
use Rattle.world_model.proofs.Rest.{EachLeft}
use Rattle.world_stage.proofs.stage.Stage.acknowledge_all.Given as goal

-- the commits of the servers of the members from this place on are still to be acknowledged
abbrev pub invariant-loop-place : goal.invariant-loop-place
invariant-loop-place l =
    EachLeft acknowledge_events 0 l.fn.self l.self l.fn.events l.events l.fn.self.facts.members l.place
