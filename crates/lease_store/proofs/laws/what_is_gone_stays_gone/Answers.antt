use Rattle.lease_store.proofs.Fences.{stays_gone}
use Rattle.lease_store.proofs.laws.what_is_gone_stays_gone.Goals as goal

pub returns : goal.returns
returns c = stays_gone
