use Rattle.lease_hearing.proofs.InputHears.{heard-well}
use Rattle.lease_hearing.proofs.laws.messages_are_heard_well.Goals as goal

pub returns : goal.returns
returns c = heard-well
