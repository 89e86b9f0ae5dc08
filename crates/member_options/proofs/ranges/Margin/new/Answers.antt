use Rattle.std.proofs.Common.{sym, arith, refl}
use Rattle.member_options.proofs.RangeLaws.{margin_of-Some, margin_of-None}
use Rattle.member_options.proofs.ranges.Margin.new.Goals as goal

pub returns-then-number-gt-LONGEST_MARGIN-clause-by_number :
    goal.returns-then-number-gt-LONGEST_MARGIN-clause-by_number
returns-then-number-gt-LONGEST_MARGIN-clause-by_number c = sym (margin_of-None c.args.number (λ most. omega arith))

pub returns-else-number-gt-LONGEST_MARGIN-clause-by_number :
    goal.returns-else-number-gt-LONGEST_MARGIN-clause-by_number
returns-else-number-gt-LONGEST_MARGIN-clause-by_number c = sym (margin_of-Some c.args.number _ refl)
