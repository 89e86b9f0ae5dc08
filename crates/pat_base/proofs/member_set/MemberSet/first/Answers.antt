use Rattle.std.proofs.Common.{w16, arith}
use Rattle.std.proofs.lemmas.Nat.Bits.{bit_at-trailing_zeros}
use Rattle.pat_base.proofs.MemberBits.{first-inside, first-before}
use Rattle.pat_base.proofs.member_set.MemberSet.first.Goals as goal

pub returns-else-self-eq0-clause-inside : goal.returns-else-self-eq0-clause-inside
returns-else-self-eq0-clause-inside c =
    first-inside c.new.result _ _ c.new.ensures.value
    (bit_at-trailing_zeros w16 c.args.self.bits (omega arith) (omega arith)).1

pub returns-else-self-eq0-clause-before : goal.returns-else-self-eq0-clause-before
returns-else-self-eq0-clause-before c =
    first-before c.new.result _ _ c.new.ensures.value
    (bit_at-trailing_zeros w16 c.args.self.bits (omega arith) (omega arith)).2
