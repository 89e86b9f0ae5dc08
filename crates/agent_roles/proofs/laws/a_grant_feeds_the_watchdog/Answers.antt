use Rattle.agent_model.specs.Reconciling.{reconciled}
use Rattle.agent_roles.proofs.Fitting.{before-fits}
use Rattle.agent_roles.proofs.Granting.{any-granted-may}
use Rattle.agent_roles.proofs.laws.a_grant_feeds_the_watchdog.Goals as goal

pub returns : goal.returns
returns c now points sequence grant snapshot o =
    any-granted-may now sequence grant snapshot (reconciled now o) (before-fits now o)
