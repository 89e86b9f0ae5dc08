use Rattle.std.proofs.Common.{w16, arith}
use Rattle.std.proofs.lemmas.Nat.Bits.{bit_at_clear_same}
use Rattle.pat_base.proofs.MemberBits.{clear_other, clear_less}
use Rattle.pat_base.proofs.member_set.MemberSet.without.Goals as goal

pub returns-clause-same : goal.returns-clause-same
returns-clause-same c = bit_at_clear_same w16 c.args.self.bits c.args.member.number c.args.member.below

pub returns-clause-others : goal.returns-clause-others
returns-clause-others c = clear_other c.args.self.bits c.args.member.number (omega arith) c.args.member.below

pub returns-clause-less : goal.returns-clause-less
returns-clause-less c = clear_less c.args.self.bits _ c.args.member.number
    (bit_at_clear_same w16 c.args.self.bits c.args.member.number c.args.member.below)
