use Rattle.lease_store.proofs.Fences.{kept_first, kept_states}
use Rattle.lease_store.proofs.laws.stores_are_kept.Goals as goal

pub returns-clause-first : goal.returns-clause-first
returns-clause-first c = kept_first

pub returns-clause-calls : goal.returns-clause-calls
returns-clause-calls c = kept_states
