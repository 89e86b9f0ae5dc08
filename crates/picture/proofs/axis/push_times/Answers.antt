use Rattle.std.proofs.Common.{◌∙◌, string_bytes}
use Rattle.picture.proofs.Steps.{times-step}
use Rattle.picture.proofs.axis.push_times.Goals as goal

pub loop-sight-preserved : goal.loop-sight-preserved
loop-sight-preserved c =
    times-step c.args.frame.end c.args.y c.loop-sight.free c.in_ok-free.free c.loop-sight.sight-index
    c.args.sights.now c.sight-item.result (string_bytes c.loop-sight.out) (string_bytes c.push_time_if.new.out)
    c.loop-sight-test.true c.sight-item.is c.in_ok-free.ensures.text c.in_ok-free.ensures.room
    ∙ c.loop-sight.invariant
