use Rattle.sync_state.proofs.SetBits.{either-is}
use Rattle.sync_state.proofs.member_sets.either.Goals as goal

pub returns : goal.returns
returns c = either-is c.args.one c.args.other c.union.result c.union.ensures
