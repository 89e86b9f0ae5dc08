use Rattle.sync_state.proofs.Changing.{publishes-wanted, publishes-required, publishes-connected, publishes-confirmed, publishes-tags}
use Rattle.sync_state.proofs.laws.who_is_published.Goals as goal

pub returns-clause-wanted : goal.returns-clause-wanted
returns-clause-wanted c = publishes-wanted

pub returns-clause-required : goal.returns-clause-required
returns-clause-required c = publishes-required

pub returns-clause-connected : goal.returns-clause-connected
returns-clause-connected c = publishes-connected

pub returns-clause-confirmed : goal.returns-clause-confirmed
returns-clause-confirmed c = publishes-confirmed

pub returns-clause-tags : goal.returns-clause-tags
returns-clause-tags c = publishes-tags
