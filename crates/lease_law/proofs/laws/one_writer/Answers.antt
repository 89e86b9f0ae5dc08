use Rattle.lease_law.proofs.Runs.{one, one-at}
use Rattle.lease_law.proofs.Timely.{one-timely}
use Rattle.lease_law.proofs.laws.one_writer.Goals as goal

pub returns : goal.returns
returns c = record { timely = one-timely; whole = one; at = one-at }
