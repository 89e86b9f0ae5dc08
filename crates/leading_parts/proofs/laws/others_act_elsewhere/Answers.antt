use Rattle.leading_parts.proofs.Others.{hear-elsewhere, wake-elsewhere}
use Rattle.leading_parts.proofs.laws.others_act_elsewhere.Goals as goal

pub returns : goal.returns
returns c = record { wakes = wake-elsewhere; hears = hear-elsewhere }
