use Rattle.std.proofs.Common.{arith}
use Rattle.pat_base.proofs.Digits.{hex_fits}
use Rattle.pat_base.proofs.lsn.hex_value.Goals as goal

pub overflow_mul-value : goal.overflow_mul-value
overflow_mul-value c = omega (
  arith,
  hex_fits c.loop-digit.value c.loop-digit.digit-index 0 c.loop-digit.invariant.small (omega arith) (omega arith),
)

pub overflow_add-value : goal.overflow_add-value
overflow_add-value c = omega (
  arith,
  hex_fits c.loop-digit.value c.loop-digit.digit-index c.hex_digit.result c.loop-digit.invariant.small
      (omega arith) c.hex_digit.ensures.below,
)
