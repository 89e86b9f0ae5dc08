use Rattle.agent_succession.proofs.FreeKey.{late-won, late-lost}
use Rattle.agent_succession.proofs.laws.late_answers_are_not_waited_for.Goals as goal

pub returns-clause-won : goal.returns-clause-won
returns-clause-won c now points waited o runs is = late-won now waited o runs is

pub returns-clause-lost : goal.returns-clause-lost
returns-clause-lost c now points waited bar o runs is = late-lost now waited bar o runs is
