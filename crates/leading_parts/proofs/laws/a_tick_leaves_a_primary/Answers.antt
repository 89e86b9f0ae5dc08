use Rattle.leading_parts.proofs.Ticked.{tick-leaves}
use Rattle.leading_parts.proofs.laws.a_tick_leaves_a_primary.Goals as goal

pub returns : goal.returns
returns c = record { same = tick-leaves }
