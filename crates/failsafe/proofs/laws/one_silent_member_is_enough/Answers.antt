use Rattle.failsafe.proofs.Hearing.{silent-enough, silent-found}
use Rattle.failsafe.proofs.laws.one_silent_member_is_enough.Goals as goal

pub returns : goal.returns
returns c members made hearings = (silent-found members made hearings, silent-enough members made hearings)
