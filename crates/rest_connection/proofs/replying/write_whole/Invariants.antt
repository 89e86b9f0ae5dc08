use Rattle.std.proofs.Common.{◌-◌, length}
use Rattle.rest_connection.proofs.Writing.{Written}
use Rattle.rest_connection.proofs.replying.write_whole.Given as goal

abbrev pub invariant-loop-at : goal.invariant-loop-at
invariant-loop-at g l = Written g.D.Door l.fn.door l.door l.bytes l.at

abbrev pub decreases-loop-at : goal.decreases-loop-at
decreases-loop-at g l = length l.bytes - l.at
