use Rattle.agent_rules.proofs.Turning.{input-reads}
use Rattle.agent_rules.proofs.laws.a_due_turn_reads.Goals as goal

pub returns : goal.returns
returns c now points heard o = input-reads now points heard o
