use Rattle.agent_rules.proofs.Pauses.{input-restrained}
use Rattle.agent_rules.proofs.laws.in_a_pause_servers_are_left_alone.Goals as goal

pub returns : goal.returns
returns c now points heard role knows machine = input-restrained now points heard role knows machine
