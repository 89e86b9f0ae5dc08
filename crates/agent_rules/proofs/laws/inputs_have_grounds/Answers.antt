use Rattle.agent_rules.proofs.InputGrounds.{input-has-grounds}
use Rattle.agent_rules.proofs.laws.inputs_have_grounds.Goals as goal

pub returns : goal.returns
returns c now points heard role knows machine sound = input-has-grounds now points heard role knows machine sound
