use Rattle.std.proofs.Common.{◌≡◌, ℕ, ap, ◌∙◌, arith}
use Rattle.agent_model.specs.Answers.{first_answered}
use Rattle.agent_turn.proofs.asking.all_answered.Goals as goal
use Rattle.pat_base.specs.declared.member_id.TheConstants.{MOST_MEMBERS}

pub returns : goal.returns
returns c =
    let all : c.loop-number.number ≡ MOST_MEMBERS =
    omega (arith, c.loop-number-test.false, c.loop-number.auto.number-end) in
    c.loop-number.invariant ∙ ap (λ (n : ℕ). first_answered c.args.who.now c.args.answers.now n) all
