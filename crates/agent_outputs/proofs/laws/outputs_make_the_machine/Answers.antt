use Rattle.agent_outputs.proofs.Orders.{step-carried-out}
use Rattle.agent_outputs.proofs.laws.outputs_make_the_machine.Goals as goal

pub returns : goal.returns
returns c now points heard role knows machine = step-carried-out now points heard role knows machine
