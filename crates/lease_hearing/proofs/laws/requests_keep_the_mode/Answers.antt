use Rattle.lease_hearing.proofs.ModeRequests.{asked-mode}
use Rattle.lease_hearing.proofs.laws.requests_keep_the_mode.Goals as goal

pub returns : goal.returns
returns c = asked-mode
