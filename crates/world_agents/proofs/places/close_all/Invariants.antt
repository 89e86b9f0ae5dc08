use Rattle.std.specs.Prelude.{vec_len}
use Rattle.world_agents.proofs.places.close_all.Given as goal

abbrev pub decreases-loop-slot : goal.decreases-loop-slot
decreases-loop-slot l = vec_len l.agents
