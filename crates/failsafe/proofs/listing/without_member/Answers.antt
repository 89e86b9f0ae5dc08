use Rattle.failsafe.proofs.Present.{without-is}
use Rattle.failsafe.proofs.listing.without_member.Goals as goal

pub returns : goal.returns
returns c = without-is c.args.set c.without.result c.args.member c.without.ensures.same c.without.ensures.others
