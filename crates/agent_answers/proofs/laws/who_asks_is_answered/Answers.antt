use Rattle.agent_answers.proofs.Replying.{step-replies}
use Rattle.agent_answers.proofs.laws.who_asks_is_answered.Goals as goal

pub returns : goal.returns
returns c now points heard role knows machine = step-replies now points heard role knows machine
