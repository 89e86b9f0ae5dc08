use Rattle.std.proofs.Common.{◌≡◌, ℕ, take}
use Rattle.std.specs.BTreeSet.{contains}
use Rattle.std.specs.Ordering.{nat_cmp}
use Rattle.wal_model.specs.Lacking.{has_serial}
use Rattle.wal_model.proofs.lacking.serials_of.Given as goal

abbrev pub invariant-loop-place : goal.invariant-loop-place
invariant-loop-place l = (q : ℕ) → contains nat_cmp l.serials q ≡ has_serial (take l.place l.log) q
