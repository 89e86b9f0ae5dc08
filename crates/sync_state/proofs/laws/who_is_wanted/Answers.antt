use Rattle.sync_state.proofs.Wanting.{wanted-most, wanted-candidate, wanted-first, wanted-published}
use Rattle.sync_state.proofs.laws.who_is_wanted.Goals as goal

pub returns-clause-most : goal.returns-clause-most
returns-clause-most c = wanted-most

pub returns-clause-candidates : goal.returns-clause-candidates
returns-clause-candidates c = wanted-candidate

pub returns-clause-first : goal.returns-clause-first
returns-clause-first c = wanted-first

pub returns-clause-published : goal.returns-clause-published
returns-clause-published c = wanted-published
