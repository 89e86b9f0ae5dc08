use Rattle.std.proofs.Common.{◌≡◌, None, drop}
use Rattle.lease_store.specs.InKeyOrder.{rises_behind}
use Rattle.lease_store.proofs.sorting.rises.Given as goal

-- what is left rises behind the last key exactly where all do
abbrev pub invariant-loop-pair : goal.invariant-loop-pair
invariant-loop-pair l = rises_behind l.last (drop l.pair-index l.pairs) ≡ rises_behind None l.pairs
