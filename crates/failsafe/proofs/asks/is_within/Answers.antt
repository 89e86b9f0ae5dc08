use Rattle.failsafe.proofs.Members.{within-is}
use Rattle.failsafe.proofs.asks.is_within.Goals as goal

pub returns : goal.returns
returns c = within-is c.args.one c.args.other c.is_subset.result c.is_subset.ensures
