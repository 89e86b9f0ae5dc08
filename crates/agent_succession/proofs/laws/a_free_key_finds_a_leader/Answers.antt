use Rattle.agent_succession.proofs.Beginning.{step-asks, step-begins, step-wins}
use Rattle.agent_succession.proofs.laws.a_free_key_finds_a_leader.Goals as goal

pub returns-clause-free_key : goal.returns-clause-free_key
returns-clause-free_key c now points heard o = step-asks now points heard o

pub returns-clause-won_race : goal.returns-clause-won_race
returns-clause-won_race c now points heard o = step-wins now points heard o

pub returns-clause-granted_key : goal.returns-clause-granted_key
returns-clause-granted_key c now points heard o = step-begins now points heard o
