use Rattle.std.proofs.Common.{◌≡◌, ◌++◌, take, drop}
use Rattle.lease_store.specs.Expiries.{expiries_without}
use Rattle.lease_store.proofs.expiries.place_of.Given as goal

-- those so far stay
abbrev pub invariant-loop-at : goal.invariant-loop-at
invariant-loop-at l =
    expiries_without l.key l.expiries ≡ take l.at l.expiries ++ expiries_without l.key (drop l.at l.expiries)
