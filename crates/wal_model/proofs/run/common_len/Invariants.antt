use Rattle.std.proofs.Common.{◌≡◌, ◌++◌, take, drop}
use Rattle.wal_model.specs.Log.{common_of}
use Rattle.wal_model.proofs.run.common_len.Given as goal

abbrev pub invariant-loop-place : goal.invariant-loop-place
invariant-loop-place l =
    take l.place l.mine ++ common_of (drop l.place l.mine) (drop l.place l.theirs) ≡ common_of l.mine l.theirs
