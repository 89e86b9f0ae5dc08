use Rattle.std.proofs.Common.{w16}
use Rattle.std.proofs.lemmas.Nat.Bits.{bit_at_set_same, bit_at_set_other}
use Rattle.pat_base.proofs.member_set.MemberSet.with.Goals as goal

pub returns-clause-same : goal.returns-clause-same
returns-clause-same c = bit_at_set_same w16 c.args.self.bits c.args.member.number c.args.member.below

pub returns-clause-others : goal.returns-clause-others
returns-clause-others c = bit_at_set_other w16 c.args.self.bits c.args.member.number c.args.member.below
