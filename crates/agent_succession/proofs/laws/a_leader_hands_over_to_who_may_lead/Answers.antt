use Rattle.agent_succession.proofs.Handovers.{hands-right}
use Rattle.agent_succession.proofs.laws.a_leader_hands_over_to_who_may_lead.Goals as goal

pub returns : goal.returns
returns c now revision candidate o = hands-right now revision candidate o
