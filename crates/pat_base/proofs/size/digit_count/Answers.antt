use Rattle.pat_base.proofs.Digits.{digit_count-None}
use Rattle.pat_base.proofs.size.digit_count.Goals as goal

pub returns-in-None-clause-count : goal.returns-in-None-clause-count
returns-in-None-clause-count c = digit_count-None _ c.in-None.ensures
