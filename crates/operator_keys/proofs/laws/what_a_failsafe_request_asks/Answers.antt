use Rattle.std.specs.Option.{option_copied}
use Rattle.operator_keys.proofs.Holds.{hold-asked}
use Rattle.operator_keys.proofs.laws.what_a_failsafe_request_asks.Goals as goal

pub returns : goal.returns
returns c view bytes request seen passed is = hold-asked view.me (option_copied view.seen) bytes request seen is passed
