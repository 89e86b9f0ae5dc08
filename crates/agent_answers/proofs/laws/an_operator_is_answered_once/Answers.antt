use Rattle.agent_answers.proofs.OperatorAnswers.{step-right}
use Rattle.agent_answers.proofs.laws.an_operator_is_answered_once.Goals as goal

pub returns-clause-answers : goal.returns-clause-answers
returns-clause-answers c now points heard role knows machine = (step-right now points heard role knows machine).answers

pub returns-clause-waits : goal.returns-clause-waits
returns-clause-waits c now points heard role knows machine = (step-right now points heard role knows machine).waits
