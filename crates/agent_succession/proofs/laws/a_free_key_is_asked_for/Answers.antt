use Rattle.agent_model.specs.Reconciling.{reconciled}
use Rattle.agent_model.specs.Operators.{looked}
use Rattle.agent_succession.proofs.FreeKey.{free-asks, free-alone}
use Rattle.agent_succession.proofs.laws.a_free_key_is_asked_for.Goals as goal

pub returns-clause-others : goal.returns-clause-others
returns-clause-others c now points sequence snapshot o hears is others =
    free-asks now points sequence snapshot (looked sequence snapshot (reconciled now o)) hears is others

pub returns-clause-alone : goal.returns-clause-alone
returns-clause-alone c now points sequence snapshot o hears is alone =
    free-alone now points sequence snapshot (looked sequence snapshot (reconciled now o)) hears is alone
