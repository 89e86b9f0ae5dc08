use Rattle.summary_law.proofs.Guarding.{guarded}
use Rattle.summary_law.proofs.laws.premises_guard_writers.Goals as goal

pub returns : goal.returns
returns c = guarded
