use Rattle.agent_model.specs.Reconciling.{reconciled}
use Rattle.agent_model.specs.Operators.{looked}
use Rattle.agent_succession.proofs.FreeKey.{barred-out}
use Rattle.agent_succession.proofs.laws.who_is_barred_stays_out.Goals as goal

pub returns : goal.returns
returns c now points sequence snapshot bar o hears down is =
    barred-out now points sequence snapshot bar (looked sequence snapshot (reconciled now o)) hears down is
