use Rattle.commit_law.proofs.Noting.{noted-by}
use Rattle.commit_law.proofs.laws.growth_is_noted.Goals as goal

pub returns : goal.returns
returns c = noted-by
