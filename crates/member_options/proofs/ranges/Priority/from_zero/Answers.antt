use Rattle.std.proofs.Common.{sym, arith}
use Rattle.std.proofs.lemmas.Int.{ints}
use Rattle.member_options.proofs.PriorityLaws.{priority_from_zero-Some, priority_from_zero-None}
use Rattle.member_options.proofs.ranges.Priority.from_zero.Goals as goal

pub returns-then-number-gt-GREATEST_PRIORITY : goal.returns-then-number-gt-GREATEST_PRIORITY
returns-then-number-gt-GREATEST_PRIORITY c = sym (priority_from_zero-None c.args.number (λ few. omega arith))

pub returns-else-number-gt-GREATEST_PRIORITY : goal.returns-else-number-gt-GREATEST_PRIORITY
returns-else-number-gt-GREATEST_PRIORITY c = sym (priority_from_zero-Some c.args.number _ (omega (arith, ints)))
