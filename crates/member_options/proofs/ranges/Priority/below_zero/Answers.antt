use Rattle.std.proofs.Common.{sym, arith}
use Rattle.std.proofs.lemmas.Int.{ints}
use Rattle.member_options.proofs.PriorityLaws.{priority_below_zero-is, priority_below_zero-None}
use Rattle.member_options.proofs.ranges.Priority.below_zero.Goals as goal

pub returns-then-number-gt-GREATEST_PRIORITY : goal.returns-then-number-gt-GREATEST_PRIORITY
returns-then-number-gt-GREATEST_PRIORITY c = sym (priority_below_zero-None c.args.number (λ some few. omega arith))

pub returns-else-number-gt-GREATEST_PRIORITY : goal.returns-else-number-gt-GREATEST_PRIORITY
returns-else-number-gt-GREATEST_PRIORITY c =
    sym (priority_below_zero-is c.args.number _ (omega arith) (omega (arith, ints)))
