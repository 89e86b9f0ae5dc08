use Rattle.sync_state.proofs.SetBits.{both-is}
use Rattle.sync_state.proofs.member_sets.both.Goals as goal

pub returns : goal.returns
returns c = both-is c.args.one c.args.other c.intersection.result c.intersection.ensures
