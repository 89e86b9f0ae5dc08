use Rattle.lease_law.proofs.Timely.{transition-allowed, front-timely}
use Rattle.lease_law.proofs.laws.feeds_in_time.Goals as goal

pub returns : goal.returns
returns c = record { transition = transition-allowed; front = front-timely }
