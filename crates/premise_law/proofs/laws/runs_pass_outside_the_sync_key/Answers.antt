use Rattle.premise_law.proofs.EveryRun.{runs-pass}
use Rattle.premise_law.proofs.laws.runs_pass_outside_the_sync_key.Goals as goal

pub returns : goal.returns
returns c = λ head is steps. runs-pass head is steps
