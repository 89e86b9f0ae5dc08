use Rattle.std.proofs.lemmas.Result.{IfOk-weaker}
use Rattle.world_play.proofs.Changing.{told-now}
use Rattle.world_play.proofs.ctl.told_at.Goals as goal

pub returns : goal.returns
returns c = IfOk-weaker c.ctl_answer.result _ _
    (λ answer is. told-now c.args.stage.now _ _ _ c.in_ok-seen.ensures is) c.ctl_answer.ensures
