use Rattle.world_model.proofs.Idling.{next-idle}
use Rattle.world_model.proofs.laws.idle_steps_bring_their_ticks.Goals as goal

pub returns : goal.returns
returns c step cluster later h idle = next-idle step cluster later h idle
