use Rattle.summary_law.proofs.Guarding.{commits-guarded}
use Rattle.summary_law.proofs.laws.premises_guard_commits.Goals as goal

pub returns : goal.returns
returns c = commits-guarded
