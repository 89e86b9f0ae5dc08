-- What a call that writes some bytes says of its sink.
use Rattle.std.specs.Prelude.{ℕ, ◌≡◌, ◌≢◌, ◌≤◌, ◌-◌, List, length, Result, OnOk, OnErr, IsErrOf, MatchResult}
use Rattle.pat_outside.specs.declared.outside.Failed.{Failed}
use Rattle.pat_outside.specs.declared.outside.Sink.{Ghosts}
use Rattle.pat_outside.specs.Outside.{Rose, Grew, GrewByPrefix}

-- the error of a write
abbrev pub failed : Failed
failed = record {}

-- a call was to write these bytes on a sink; by the error `fault` it says that a write failed
pub record Prints {K X E : Type 0} (sink : Ghosts K) (before after : K) (fault : E) (result : Result X E)
    (bytes : List ℕ) : Type 0 where
  -- all of them were written, or a front of them
  pub ok : OnOk result (Grew (sink.content before) (sink.content after) bytes)
  pub part : OnErr result (GrewByPrefix (sink.content before) (sink.content after) bytes)
  pub write : IsErrOf result fault → Rose (sink.faults before) (sink.faults after)
  pub grows : sink.faults before ≤ sink.faults after
  -- where the sink can take them all, no write fails
  pub room : (n : ℕ) → sink.can_take before n → length bytes ≤ n
      → MatchResult result (λ _. sink.can_take after (n - length bytes)) (λ error. error ≢ fault)
