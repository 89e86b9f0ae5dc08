use Rattle.std.proofs.Common.{◌≡◌, ℕ, ap, ◌∙◌, arith}
use Rattle.agent_model.specs.Answers.{asking_first}
use Rattle.agent_turn.proofs.asking.ask_all.Goals as goal
use Rattle.pat_base.specs.declared.member_id.TheConstants.{MOST_MEMBERS}

pub returns-clause-out : goal.returns-clause-out
returns-clause-out c =
    let all : c.loop-number.number ≡ MOST_MEMBERS =
    omega (arith, c.loop-number-test.false, c.loop-number.auto.number-end) in
    c.loop-number.invariant.0 ∙ ap (λ (n : ℕ). asking_first c.args.who.now c.args.sequence n c.args.out.now.outputs) all
