use Rattle.agent_rules.proofs.OutOfReach.{leader-ends, refused-leader-ends, step-waits, unacknowledged-leader-ends}
use Rattle.agent_rules.proofs.laws.a_leader_out_of_reach_ends_its_server.Goals as goal

pub returns-clause-ends : goal.returns-clause-ends
returns-clause-ends c now points revision o is = leader-ends now revision points o is

pub returns-clause-unacknowledged : goal.returns-clause-unacknowledged
returns-clause-unacknowledged c now points revision o is = unacknowledged-leader-ends now revision points o is

pub returns-clause-refused : goal.returns-clause-refused
returns-clause-refused c now points revision sequence from sent o is =
    refused-leader-ends now revision sequence points from sent o is

pub returns-clause-waits : goal.returns-clause-waits
returns-clause-waits c now points heard o = step-waits now points heard o
