use Rattle.std.proofs.Common.{sym, arith, refl}
use Rattle.script_model.proofs.RangeLaws.{delay_of-Some, delay_of-None}
use Rattle.script_model.proofs.ranges.Delay.new.Goals as goal

pub returns-then-number-gt-LONGEST_DELAY-clause-by_number :
    goal.returns-then-number-gt-LONGEST_DELAY-clause-by_number
returns-then-number-gt-LONGEST_DELAY-clause-by_number c = sym (delay_of-None c.args.number (λ most. omega arith))

pub returns-else-number-gt-LONGEST_DELAY-clause-by_number :
    goal.returns-else-number-gt-LONGEST_DELAY-clause-by_number
returns-else-number-gt-LONGEST_DELAY-clause-by_number c = sym (delay_of-Some c.args.number _ refl)
