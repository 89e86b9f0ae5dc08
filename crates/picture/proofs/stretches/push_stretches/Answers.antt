use Rattle.std.proofs.Common.{◌∙◌, string_bytes}
use Rattle.picture.proofs.Steps.{stretches-step}
use Rattle.picture.proofs.stretches.push_stretches.Goals as goal

pub loop-sight-preserved : goal.loop-sight-preserved
loop-sight-preserved c =
    stretches-step c.args.frame.end c.args.height c.loop-sight.last c.tick-last.result c.loop-sight.sight-index
    c.args.sights.now c.sight-item.result (string_bytes c.loop-sight.out) (string_bytes c.push_stretch_if.new.out)
    c.loop-sight-test.true c.sight-item.is c.in_ok-push_stretch_if.ensures c.tick-last.ensures
    ∙ c.loop-sight.invariant
