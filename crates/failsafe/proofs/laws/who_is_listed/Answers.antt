use Rattle.failsafe.proofs.Present.{present-has, without-has}
use Rattle.failsafe.proofs.laws.who_is_listed.Goals as goal

pub returns-clause-present : goal.returns-clause-present
returns-clause-present c = present-has

pub returns-clause-others : goal.returns-clause-others
returns-clause-others c = without-has
