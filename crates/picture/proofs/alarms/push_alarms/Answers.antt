use Rattle.std.proofs.Common.{◌∙◌, string_bytes}
use Rattle.picture.proofs.Steps.{alarms-step}
use Rattle.picture.proofs.alarms.push_alarms.Goals as goal

pub loop-line-preserved : goal.loop-line-preserved
loop-line-preserved c =
    alarms-step c.args.frame.end c.args.height c.args.sights.now c.loop-line.line-index c.args.answers.now
    c.line-item.result (string_bytes c.loop-line.out)
    (string_bytes c.push_alarm_if.new.out) c.loop-line-test.true c.line-item.is c.in_ok-push_alarm_if.ensures
    ∙ c.loop-line.invariant
