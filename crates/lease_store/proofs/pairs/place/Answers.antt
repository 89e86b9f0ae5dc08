use Rattle.lease_store.proofs.Placing.{gap_here, place_here}
use Rattle.lease_store.proofs.pairs.place.Goals as goal

pub returns-in-Less-clause-gap : goal.returns-in-Less-clause-gap
returns-in-Less-clause-gap c =
    gap_here _ _ _ _ c.loop-at-test.true c.index-pairs-at.is c.in-Less.ensures c.loop-at.invariant

pub returns-in-Equal-clause-found : goal.returns-in-Equal-clause-found
returns-in-Equal-clause-found c =
    place_here _ _ _ _ c.loop-at-test.true c.index-pairs-at.is c.in-Equal.ensures c.loop-at.invariant
