use Rattle.commit_runs.proofs.EveryRun.{runs-keep}
use Rattle.commit_runs.proofs.laws.runs_keep_commits.Goals as goal

pub returns : goal.returns
returns c = λ head steps is. runs-keep head is steps
