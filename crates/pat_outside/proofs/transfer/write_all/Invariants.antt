use Rattle.std.proofs.Common.{ℕ, ◌≤◌, ◌-◌, length, take, List}
use Rattle.pat_outside.specs.declared.outside.Sink.{Ghosts}
use Rattle.pat_outside.specs.Outside.{Grew}
use Rattle.pat_outside.proofs.transfer.write_all.Given as goal

-- the front up to a place has been written
pub record Written {K : Type 0} (sink : Ghosts K) (before after : K) (bytes : List ℕ) (at : ℕ) : Type 0 where
  pub within : at ≤ length bytes
  pub grew : Grew (sink.content before) (sink.content after) (take at bytes)
  pub grows : sink.faults before ≤ sink.faults after
  pub room : (n : ℕ) → sink.can_take before n → length bytes ≤ n → sink.can_take after (n - at)

abbrev pub invariant-loop-at : goal.invariant-loop-at
invariant-loop-at g l = Written g.K.Sink l.fn.sink l.sink l.bytes l.at

abbrev pub decreases-loop-at : goal.decreases-loop-at
decreases-loop-at g l = length l.bytes - l.at
