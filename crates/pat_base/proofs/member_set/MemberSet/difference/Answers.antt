use Rattle.std.proofs.Common.{arith}
use Rattle.pat_base.proofs.MemberBits.{bit_at-difference}
use Rattle.pat_base.proofs.member_set.MemberSet.difference.Goals as goal

pub returns : goal.returns
returns c = bit_at-difference c.args.self.bits c.args.other.bits (omega arith) (omega arith)
