use Rattle.std.proofs.Common.{◌≡◌, drop}
use Rattle.wal_model.specs.Lacking.{lacks_in}
use Rattle.wal_model.specs.Serials.{serials_in}
use Rattle.wal_model.proofs.lacking.lacks.Given as goal

abbrev pub invariant-loop-run : goal.invariant-loop-run
invariant-loop-run l = lacks_in l.log (serials_in (drop l.run-index l.runs)) ≡ lacks_in l.log l.acknowledged
