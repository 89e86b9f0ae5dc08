use Rattle.commit_runs.proofs.EveryRun.{runs-in-order}
use Rattle.commit_runs.proofs.laws.runs_keep_sync_order.Goals as goal

pub returns : goal.returns
returns c = λ head steps is. runs-in-order head is steps
