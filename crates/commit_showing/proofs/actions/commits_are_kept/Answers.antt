use Rattle.commit_showing.proofs.Fronts.{kept-book}
use Rattle.commit_showing.proofs.actions.commits_are_kept.Goals as goal

pub returns : goal.returns
returns c = kept-book
