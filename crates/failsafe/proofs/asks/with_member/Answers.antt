use Rattle.failsafe.proofs.Members.{with-is}
use Rattle.failsafe.proofs.asks.with_member.Goals as goal

pub returns : goal.returns
returns c = with-is c.args.set c.with.result c.args.member c.with.ensures.same c.with.ensures.others
