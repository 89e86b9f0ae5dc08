use Rattle.std.specs.Prelude.{slice_get}
use Rattle.cluster_model.specs.Next.{acknowledge_events}
use Rattle.world_stage.proofs.Acknowledgements.{waiting_at}
use Rattle.world_model.proofs.Rest.{Left}
use Rattle.world_stage.proofs.stage.Stage.acknowledge.Given as goal

-- the commits that may be acknowledged now are still to be
abbrev pub invariant-loop-commit : goal.invariant-loop-commit
invariant-loop-commit l = Left l.fn.self l.self l.fn.events l.events
    (acknowledge_events l.fn.self l.fn.member) (acknowledge_events l.self l.fn.member) 0 0

abbrev pub decreases-loop-commit : goal.decreases-loop-commit
decreases-loop-commit l = waiting_at (slice_get l.self.facts.servers l.place)
