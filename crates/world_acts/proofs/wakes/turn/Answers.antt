use Rattle.std.proofs.Common.{◌≡◌, ◌∙◌, true, sym}
use Rattle.std.proofs.lemmas.Result.{on_ok_weaker}
use Rattle.cluster_model.specs.Inputs.{may_act}
use Rattle.world_acts.proofs.Waking.{turn-took}
use Rattle.world_acts.proofs.wakes.turn.Goals as goal

pub returns : goal.returns
returns c =
    let process = c.in-Some.process in
    let ready : may_act process ≡ true = sym c.may_act.ensures ∙ c.if-not-may_act.false in
    on_ok_weaker c.awaken.result
    (λ took. turn-took c.args.stage.now c.awaken.new.stage c.args.member process c.args.events.now c.awaken.new.events
    (sym c.process.ensures ∙ c.in-Some.is) ready took)
    c.awaken.ensures
