use Rattle.sync_state.proofs.SetBits.{within-is}
use Rattle.sync_state.proofs.member_sets.is_within.Goals as goal

pub returns : goal.returns
returns c = within-is c.args.one c.args.other c.is_subset.result c.is_subset.ensures
