use Rattle.std.proofs.Common.{length, arith, ap}
use Rattle.run_printing.proofs.watches.first_summary.Goals as goal

pub new-requires : goal.new-requires
new-requires c = omega (arith, ap length c.deref.ensures.value, c.in_ok-watches.ensures.few)
