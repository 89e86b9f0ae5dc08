use Rattle.patronictl.proofs.Rounding.{told-are-nearest}
use Rattle.patronictl.proofs.laws.lags_are_to_the_nearest.Goals as goal

pub returns-clause-not_above : goal.returns-clause-not_above
returns-clause-not_above c = λ bytes. (told-are-nearest bytes).not_above

pub returns-clause-not_below : goal.returns-clause-not_below
returns-clause-not_below c = λ bytes. (told-are-nearest bytes).not_below

pub returns-clause-even_above : goal.returns-clause-even_above
returns-clause-even_above c = λ bytes. (told-are-nearest bytes).even_above

pub returns-clause-even_below : goal.returns-clause-even_below
returns-clause-even_below c = λ bytes. (told-are-nearest bytes).even_below
