use Rattle.std.proofs.Common.{◌-◌, vec_len}
use Rattle.pat_outside.proofs.Contents.{HasRead}
use Rattle.pat_outside.proofs.transfer.read_at_most.Given as goal

-- what has been read, and the promise of the source
pub record Reading (Was Is had : Type 0) : Type 0 where
  pub read : had
  pub reliable : Was → Is

abbrev pub invariant-loop-bytes : goal.invariant-loop-bytes
invariant-loop-bytes g l = Reading (g.S.Source.is_reliable l.fn.input) (g.S.Source.is_reliable l.input)
    (HasRead (g.S.Source.rest l.fn.input) (g.S.Source.rest l.input) (g.S.Source.faults l.fn.input)
    (g.S.Source.faults l.input) l.bytes.items l.most)

abbrev pub decreases-loop-bytes : goal.decreases-loop-bytes
decreases-loop-bytes g l = l.most - vec_len l.bytes
