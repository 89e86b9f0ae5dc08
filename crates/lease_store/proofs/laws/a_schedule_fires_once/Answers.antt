use Rattle.lease_store.proofs.Fences.{fires_once}
use Rattle.lease_store.proofs.laws.a_schedule_fires_once.Goals as goal

pub returns : goal.returns
returns c = fires_once
