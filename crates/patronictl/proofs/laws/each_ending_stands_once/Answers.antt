use Rattle.patronictl.proofs.Lines.{endings-count, line-of-ending}
use Rattle.patronictl.proofs.laws.each_ending_stands_once.Goals as goal

pub returns-clause-lines : goal.returns-clause-lines
returns-clause-lines c = line-of-ending

pub returns-clause-no_others : goal.returns-clause-no_others
returns-clause-no_others c = endings-count
