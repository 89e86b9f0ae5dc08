use Rattle.agent_roles.proofs.Acknowledging.{answer-leaves, operated-leaves, request-leaves, wake-leaves}
use Rattle.agent_roles.proofs.Leaving.{read-leaves, refusal-leaves, asked-leaves, answered-leaves}
use Rattle.agent_roles.proofs.laws.only_a_grant_sets_deadlines.Goals as goal

pub returns-clause-wake : goal.returns-clause-wake
returns-clause-wake c now points o = wake-leaves now o

pub returns-clause-read : goal.returns-clause-read
returns-clause-read c now points sequence snapshot o = read-leaves now points sequence snapshot o

pub returns-clause-refusal : goal.returns-clause-refusal
returns-clause-refusal c now points sequence key found o = refusal-leaves now sequence o

pub returns-clause-ask : goal.returns-clause-ask
returns-clause-ask c now points from incarnation sequence o = asked-leaves now from incarnation sequence o

pub returns-clause-answer : goal.returns-clause-answer
returns-clause-answer c now points sequence answer o = answered-leaves now sequence answer o

pub returns-clause-failsafe_ask : goal.returns-clause-failsafe_ask
returns-clause-failsafe_ask c now points from incarnation sequence ttl o =
    request-leaves now from incarnation sequence ttl o

pub returns-clause-failsafe_answer : goal.returns-clause-failsafe_answer
returns-clause-failsafe_answer c now points from sequence accepted sent o =
    answer-leaves now from sequence accepted sent o

pub returns-clause-action : goal.returns-clause-action
returns-clause-action c now points action o = operated-leaves now action o
