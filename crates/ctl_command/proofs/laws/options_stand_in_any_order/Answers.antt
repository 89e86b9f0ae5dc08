use Rattle.ctl_command.proofs.OptionOrder.{any-order}
use Rattle.ctl_command.proofs.laws.options_stand_in_any_order.Goals as goal

pub returns : goal.returns
returns c = any-order
