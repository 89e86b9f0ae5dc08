use Rattle.lease_law.proofs.LocalActions.{local-shown, tick-shown, loss-shown}
use Rattle.lease_law.proofs.laws.local_action_is_shown.Goals as goal

pub returns : goal.returns
returns c = record { local = local-shown; tick = tick-shown; loss = loss-shown }
