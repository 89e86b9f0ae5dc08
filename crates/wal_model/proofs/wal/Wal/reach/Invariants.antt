use Rattle.std.proofs.Common.{◌≡◌, take}
use Rattle.wal_model.specs.Pieces.{Grows}
use Rattle.wal_model.proofs.wal.Wal.reach.Given as goal

abbrev pub invariant-loop-place : goal.invariant-loop-place
invariant-loop-place l = (l.self ≡ take l.place l.from) × Grows l.fn.self l.self l.from l.until
