use Rattle.std.proofs.Common.{◌∙◌, string_bytes}
use Rattle.picture.proofs.Steps.{marks-step}
use Rattle.picture.proofs.marks.push_marks.Goals as goal

pub loop-sight-preserved : goal.loop-sight-preserved
loop-sight-preserved c =
    marks-step c.args.frame.end c.args.lane c.args.y c.loop-sight.free c.push_mark_if.new.free c.loop-sight.sight-index
    c.args.sights.now c.sight-item.result (string_bytes c.loop-sight.out) (string_bytes c.push_mark_if.new.out)
    c.loop-sight-test.true c.sight-item.is c.in_ok-push_mark_if.ensures.text c.in_ok-push_mark_if.ensures.rows
    ∙ c.loop-sight.invariant
