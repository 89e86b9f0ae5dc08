use Rattle.agent_model.specs.Reconciling.{reconciled}
use Rattle.agent_succession.proofs.FreeKey.{last-won, last-lost}
use Rattle.agent_succession.proofs.laws.the_last_answer_decides.Goals as goal

pub returns-clause-won : goal.returns-clause-won
returns-clause-won c now points waited sequence answer o hears is =
    last-won now waited sequence answer (reconciled now o) hears is

pub returns-clause-lost : goal.returns-clause-lost
returns-clause-lost c now points waited sequence answer bar o hears is =
    last-lost now waited sequence answer bar (reconciled now o) hears is
