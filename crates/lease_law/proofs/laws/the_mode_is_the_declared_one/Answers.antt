use Rattle.lease_law.proofs.Modes.{mode-first, mode-by}
use Rattle.lease_law.proofs.laws.the_mode_is_the_declared_one.Goals as goal

pub returns : goal.returns
returns c = record { first = mode-first; each = mode-by }
