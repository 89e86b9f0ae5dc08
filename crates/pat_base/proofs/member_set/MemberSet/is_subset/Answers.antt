use Rattle.std.proofs.Common.{◌≡◌, ℕ, bit_and, arith, nat_eq, true}
use Rattle.std.proofs.lemmas.Bool.Decides.{nat_tests}
use Rattle.pat_base.proofs.MemberBits.{within_both, both_within}
use Rattle.pat_base.proofs.member_set.MemberSet.is_subset.Goals as goal

to-eq : (a b : ℕ) → nat_eq a b ≡ true → a ≡ b
to-eq a b h = grind (arith, nat_tests)

of-eq : (a b : ℕ) → a ≡ b → nat_eq a b ≡ true
of-eq a b h = grind (arith, nat_tests)

pub returns : goal.returns
returns c =
    let a : ℕ = c.args.self.bits in
    let b : ℕ = c.args.other.bits in
    (λ is. within_both a b (to-eq (bit_and a b) a is), λ all. of-eq (bit_and a b) a (both_within a b all))
