use Rattle.pat_base.proofs.Digits.{HasReadDecimal}
use Rattle.pat_base.proofs.size.number_up_to.Given as goal

abbrev pub invariant-loop-digit : goal.invariant-loop-digit
invariant-loop-digit l = HasReadDecimal l.digits l.digit-index l.number
