use Rattle.summary_law.proofs.Measuring.{one-lateness}
use Rattle.summary_law.proofs.laws.lateness_is_determined.Goals as goal

pub returns : goal.returns
returns c = one-lateness
