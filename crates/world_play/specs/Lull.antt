-- What is known to be at rest in a cluster.
use Rattle.cluster_model.specs.State.{Cluster}
use Rattle.world_model.specs.Idle.{IfSettled}
use Rattle.world_acts.specs.Asleep.{AreAsleep}
use Rattle.world_play.specs.declared.lull.Lull.{Lull}

-- what is known to be at rest is so
pub record IsLull (lull : Lull) (cluster : Cluster) : Type 0 where
  pub settled : IfSettled lull.settled cluster
  pub asleep : AreAsleep lull.asleep cluster
