use Rattle.std.proofs.Common.{◌≡◌, ℕ, ap, ◌∙◌, arith}
use Rattle.failsafe.specs.Listing.{present_below}
use Rattle.failsafe.proofs.listing.present_in.Goals as goal
use Rattle.pat_base.specs.declared.member_id.TheConstants.{MOST_MEMBERS}

pub returns : goal.returns
returns c =
    let all : c.loop-number.number ≡ MOST_MEMBERS =
    omega (arith, c.loop-number-test.false, c.loop-number.auto.number-end) in
    c.loop-number.invariant ∙ ap (λ (n : ℕ). present_below c.args.seen.now n) all
