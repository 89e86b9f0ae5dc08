use Rattle.commit_runs.proofs.LossRuns.{runs-tell}
use Rattle.commit_runs.proofs.laws.runs_tell_losses.Goals as goal

pub returns : goal.returns
returns c = λ head steps is. runs-tell head is steps
