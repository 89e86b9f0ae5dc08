-- How far a member lags, in bytes, and how far it may.
use Rattle.std.specs.Prelude.{ℕ, ◌-◌, nat_le, Bool, true, false, List, Option, Some, None, option_and_then}
use Rattle.pat_base.specs.declared.lsn.Lsn.{Lsn}
use Rattle.pat_base.specs.SizeText.{size_of}
use Rattle.cluster_view.specs.KeyValues.{status_in}
use Rattle.cluster_view.specs.Snapshots.{SnapshotFacts}

-- the limit that the value of a parameter lag sets: none where there is no parameter, or it is no size
abbrev pub limit_of : Option (List ℕ) → Option ℕ
limit_of lag = option_and_then size_of lag

-- where the leader's log ends, as the newest snapshot has it
abbrev pub status_on : Option SnapshotFacts → Option Lsn
status_on seen = option_and_then status_in seen

-- a log lags no further than this: the end that the leader told minus its own end is at most the limit. A log that
-- ends further on lags by nothing, and so does each where the leader told nothing; no log lies below every end
abbrev pub is_within : ℕ → Option Lsn → Option Lsn → Bool
is_within limit None end = true
is_within limit (Some status) None = false
is_within limit (Some status) (Some end) = nat_le (status.position - end.position) limit

-- it lags no further than the limit, if there is one
abbrev pub is_within_limit : Option ℕ → Option Lsn → Option Lsn → Bool
is_within_limit None status end = true
is_within_limit (Some limit) status end = is_within limit status end
