use Rattle.std.proofs.Common.{◌≡◌, ◌++◌, take, drop}
use Rattle.lease_store.specs.Expiries.{expiries_with}
use Rattle.lease_store.proofs.expiries.place.Given as goal

-- those so far stay in front
abbrev pub invariant-loop-at : goal.invariant-loop-at
invariant-loop-at l =
    expiries_with l.added l.expiries ≡ take l.at l.expiries ++ expiries_with l.added (drop l.at l.expiries)
