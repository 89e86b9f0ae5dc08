use Rattle.ctl_command.proofs.ForceAtEnd.{force-at-end}
use Rattle.ctl_command.proofs.laws.force_changes_nothing.Goals as goal

pub returns : goal.returns
returns c = force-at-end
