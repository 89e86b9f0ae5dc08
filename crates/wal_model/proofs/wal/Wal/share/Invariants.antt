use Rattle.wal_model.specs.Pieces.{Grows}
use Rattle.wal_model.proofs.wal.Wal.share.Given as goal

abbrev pub invariant-loop-entry : goal.invariant-loop-entry
invariant-loop-entry l = Grows l.fn.self l.self l.from l.until
