use Rattle.lease_law.proofs.SameStore.{same-first, same-by}
use Rattle.lease_law.proofs.Deciding.{outcome-decision_if}
use Rattle.lease_law.proofs.laws.same_store.Goals as goal

pub returns : goal.returns
returns c = record { first = same-first; each = same-by; decided = outcome-decision_if }
