use Rattle.std.proofs.Common.{◌≡◌, take}
use Rattle.wal_model.proofs.pieces.Pieces.try_clone.Given as goal

abbrev pub invariant-loop-each : goal.invariant-loop-each
invariant-loop-each l = l.placed.items ≡ take l.each-index l.each-items
