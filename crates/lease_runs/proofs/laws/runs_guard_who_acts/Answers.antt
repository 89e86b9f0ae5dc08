use Rattle.lease_runs.proofs.EveryRun.{runs-guarded}
use Rattle.lease_runs.proofs.laws.runs_guard_who_acts.Goals as goal

pub returns : goal.returns
returns c = runs-guarded
