use Rattle.live_owing.proofs.Apart.{apart}
use Rattle.live_owing.proofs.laws.members_are_apart.Goals as goal

pub returns : goal.returns
returns c = apart
