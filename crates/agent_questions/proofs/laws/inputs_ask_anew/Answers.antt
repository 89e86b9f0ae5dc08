use Rattle.agent_questions.proofs.Questions.{step-asks-anew}
use Rattle.agent_questions.proofs.laws.inputs_ask_anew.Goals as goal

pub returns : goal.returns
returns c now points heard role knows machine = step-asks-anew now points heard role knows machine
