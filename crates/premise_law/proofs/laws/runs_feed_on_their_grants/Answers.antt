use Rattle.premise_law.proofs.EveryRun.{runs-feed}
use Rattle.premise_law.proofs.laws.runs_feed_on_their_grants.Goals as goal

pub returns : goal.returns
returns c = λ head is steps. runs-feed head is steps
