use Rattle.std.proofs.Common.{◌∙◌, string_bytes}
use Rattle.picture.proofs.Steps.{answers-step}
use Rattle.picture.proofs.legend.push_answers.Goals as goal

pub loop-place-preserved : goal.loop-place-preserved
loop-place-preserved c =
    answers-step c.loop-place.place c.args.y c.args.answers.now c.index-answers-place.result
    (string_bytes c.loop-place.out)
    (string_bytes c.push_answer.new.out) c.loop-place-test.true c.index-answers-place.is c.in_ok-push_answer.ensures
    ∙ c.loop-place.invariant
