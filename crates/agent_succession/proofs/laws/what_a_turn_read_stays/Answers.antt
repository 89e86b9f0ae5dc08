use Rattle.agent_succession.proofs.TurnReads.{step-keeps}
use Rattle.agent_succession.proofs.laws.what_a_turn_read_stays.Goals as goal

pub returns : goal.returns
returns c now points heard o = step-keeps now points heard o
