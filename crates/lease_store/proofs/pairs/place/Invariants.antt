use Rattle.lease_store.proofs.Placing.{Passed}
use Rattle.lease_store.proofs.pairs.place.Given as goal

abbrev pub invariant-loop-at : goal.invariant-loop-at
invariant-loop-at l = Passed l.key l.pairs l.at
