use Rattle.lease_runs.proofs.EveryRun.{runs-keep-mode}
use Rattle.lease_runs.proofs.laws.runs_keep_failsafe_mode.Goals as goal

pub returns : goal.returns
returns c = runs-keep-mode
