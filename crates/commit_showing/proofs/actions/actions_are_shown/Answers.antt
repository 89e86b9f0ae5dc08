use Rattle.commit_showing.proofs.Showing.{actions-are-shown}
use Rattle.commit_showing.proofs.actions.actions_are_shown.Goals as goal

pub returns : goal.returns
returns c = actions-are-shown
