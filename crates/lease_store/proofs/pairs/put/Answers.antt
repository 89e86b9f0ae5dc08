use Rattle.lease_store.proofs.Placing.{put_over}
use Rattle.lease_store.proofs.pairs.put.Goals as goal

pub returns-in-Ok-clause-pairs : goal.returns-in-Ok-clause-pairs
returns-in-Ok-clause-pairs c = put_over _ _ _ _ _ c.deref.ensures.value c.in-Ok.ensures.found
