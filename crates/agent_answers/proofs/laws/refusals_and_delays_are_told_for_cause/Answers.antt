use Rattle.std.proofs.Common.{[]}
use Rattle.agent_model.specs.Agents.{outcome_from}
use Rattle.agent_model.specs.Table.{step}
use Rattle.agent_answers.proofs.OperatorAnswers.{right-causes, step-decides, step-right}
use Rattle.agent_answers.proofs.laws.refusals_and_delays_are_told_for_cause.Goals as goal

pub returns-clause-causes : goal.returns-clause-causes
returns-clause-causes c now points heard role knows machine =
    right-causes now heard (outcome_from role knows machine [])
    (step now points heard (outcome_from role knows machine [])) (step-right now points heard role knows machine)

pub returns-clause-decisions : goal.returns-clause-decisions
returns-clause-decisions c now points heard role knows machine = step-decides now points heard role knows machine
