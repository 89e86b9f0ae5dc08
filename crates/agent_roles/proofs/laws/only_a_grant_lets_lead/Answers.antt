use Rattle.agent_roles.proofs.Bringing.{operated-brings, wake-brings, read-brings, refusal-brings, asked-brings, answered-brings, failsafe-asked-brings, failsafe-answered-brings}
use Rattle.agent_roles.proofs.laws.only_a_grant_lets_lead.Goals as goal

pub returns-clause-wake : goal.returns-clause-wake
returns-clause-wake c now points o = wake-brings now o

pub returns-clause-read : goal.returns-clause-read
returns-clause-read c now points sequence snapshot o = read-brings now points sequence snapshot o

pub returns-clause-refusal : goal.returns-clause-refusal
returns-clause-refusal c now points sequence key found o = refusal-brings now sequence o

pub returns-clause-ask : goal.returns-clause-ask
returns-clause-ask c now points from incarnation sequence o = asked-brings now from incarnation sequence o

pub returns-clause-answer : goal.returns-clause-answer
returns-clause-answer c now points sequence answer o = answered-brings now sequence answer o

pub returns-clause-failsafe_ask : goal.returns-clause-failsafe_ask
returns-clause-failsafe_ask c now points from incarnation sequence ttl o =
    failsafe-asked-brings now from incarnation sequence ttl o

pub returns-clause-failsafe_answer : goal.returns-clause-failsafe_answer
returns-clause-failsafe_answer c now points from sequence accepted sent o =
    failsafe-answered-brings now from sequence accepted sent o

pub returns-clause-action : goal.returns-clause-action
returns-clause-action c now points action o = operated-brings now action o
