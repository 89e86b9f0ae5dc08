use Rattle.std.proofs.Common.{arith, ◌∙◌, sym}
use Rattle.pat_base.proofs.Digits.{too_great}
use Rattle.pat_base.proofs.size.number_up_to.Goals as goal

pub returns-in_err-checked_mul : goal.returns-in_err-checked_mul
returns-in_err-checked_mul c =
    c.from_residual.ensures
    ∙ sym (too_great c.args.digits.now c.loop-digit.digit-index c.loop-digit.number c.args.most c.loop-digit.invariant
    (omega arith) (omega (arith, c.in_err-checked_mul.ensures, c.ranges.most.fits)))

pub returns-in_err-number : goal.returns-in_err-number
returns-in_err-number c =
    c.from_residual-in_err-number.ensures
    ∙ sym (too_great c.args.digits.now c.loop-digit.digit-index c.loop-digit.number c.args.most c.loop-digit.invariant
    (omega arith)
    (omega
    (arith, c.in_err-number.ensures, c.in_ok-checked_mul.ensures, c.decimal_digit.ensures.value, c.ranges.most.fits)))
