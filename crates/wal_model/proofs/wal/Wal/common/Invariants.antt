use Rattle.std.proofs.Common.{◌-◌}
use Rattle.wal_model.proofs.Runs.{IsCommonSoFar}
use Rattle.wal_model.proofs.wal.Wal.common.Given as goal

abbrev pub invariant-loop-place : goal.invariant-loop-place
invariant-loop-place l = IsCommonSoFar l.self l.other l.place

abbrev pub decreases-loop-place : goal.decreases-loop-place
decreases-loop-place l = l.most - l.place
