use Rattle.lease_law.proofs.Unpaused.{pauses-first, pauses-by}
use Rattle.lease_law.proofs.laws.nobody_pauses.Goals as goal

pub returns : goal.returns
returns c = record { first = pauses-first; each = pauses-by }
