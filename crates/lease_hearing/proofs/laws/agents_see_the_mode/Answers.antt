use Rattle.lease_hearing.proofs.SeenModes.{step-sees}
use Rattle.lease_hearing.proofs.laws.agents_see_the_mode.Goals as goal

pub returns : goal.returns
returns c = step-sees
