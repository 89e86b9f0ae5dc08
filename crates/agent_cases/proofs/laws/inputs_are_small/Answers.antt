use Rattle.agent_cases.proofs.Bounds.{step-small}
use Rattle.agent_cases.proofs.laws.inputs_are_small.Goals as goal

pub returns : goal.returns
returns c now points heard o = step-small now points heard o
