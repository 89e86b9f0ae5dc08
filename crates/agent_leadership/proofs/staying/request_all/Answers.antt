use Rattle.std.proofs.Common.{◌≡◌, ℕ, ap, ◌∙◌, arith}
use Rattle.agent_model.specs.StayingPrimary.{requesting_first}
use Rattle.agent_leadership.proofs.staying.request_all.Goals as goal
use Rattle.pat_base.specs.declared.member_id.TheConstants.{MOST_MEMBERS}

pub returns-clause-out : goal.returns-clause-out
returns-clause-out c =
    let all : c.loop-number.number ≡ MOST_MEMBERS =
    omega (arith, c.loop-number-test.false, c.loop-number.auto.number-end) in
    c.loop-number.invariant.0
    ∙ ap (λ (n : ℕ). requesting_first c.args.members c.args.sequence c.args.ttl n c.args.out.now.outputs) all
