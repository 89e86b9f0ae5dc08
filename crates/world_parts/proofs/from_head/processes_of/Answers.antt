use Rattle.world_model.proofs.Starting.{agents-more}
use Rattle.world_parts.proofs.from_head.processes_of.Goals as goal

pub loop-made-preserved : goal.loop-made-preserved
loop-made-preserved c =
    agents-more _ _ c.loop-made.made c.args.count c.loop-made-test.true c.loop-made.invariant c.in_ok-push.ensures.items
