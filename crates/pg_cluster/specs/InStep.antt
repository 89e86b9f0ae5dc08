-- Replicas that are known to be in step with their upstream.
use Rattle.std.specs.Prelude.{◌≡◌, ℕ, ◌==◌, Bool, true, false, List, Option, Some, None, length, slice_get, slice_set}
use Rattle.pg_model.specs.declared.answers.Streamed.{Streamed}
use Rattle.pg_model.specs.Facts.{ServerFacts}
use Rattle.pg_model.specs.CatchingUp.{LogPosition, log_position_of, IsBehind, CatchesUp}

-- whether this is the number of the server at a place
abbrev pub is_place : ℕ → Option ℕ → Bool
is_place place None = false
is_place place (Some number) = number == place

-- it follows one of these servers, and is behind it
pub record IsInStep (servers : List LogPosition) (s : LogPosition) : Type 0 where
  pub number : ℕ
  pub follows : s.upstream ≡ Some number
  pub leader : LogPosition
  pub found : slice_get servers number ≡ Some leader
  pub behind : IsBehind s leader

-- each server has a mark, and is in step where the mark is set
pub record MarksHold (marks : List Bool) (servers : List LogPosition) : Type 0 where
  pub one_each : length marks ≡ length servers
  pub in_step : (place : ℕ) (s : LogPosition) → slice_get marks place ≡ Some true
      → slice_get servers place ≡ Some s → IsInStep servers s

-- no mark is set but what was set, and none at a place or at a server that follows it
pub record Forgets (old new : List Bool) (servers : List LogPosition) (place : ℕ) : Type 0 where
  pub one_each : length new ≡ length old
  pub kept : (k : ℕ) → slice_get new k ≡ Some true → slice_get old k ≡ Some true
  pub own : slice_get new place ≡ Some true → ⊥
  pub followers : (k : ℕ) (s : LogPosition) → slice_get new k ≡ Some true → slice_get servers k ≡ Some s
      → is_place place s.upstream ≡ false

-- where it is said, the marks at a place and of its followers are cleared, and then the one at the place is this
abbrev pub Renews : Bool → Bool → List Bool → List Bool → List LogPosition → ℕ → Type 0
Renews false mark old new servers place = new ≡ old
Renews true mark old new servers place =
    (cleared : List Bool) × Forgets old cleared servers place × (new ≡ slice_set cleared place mark)

-- the one at a place heard of the one at another place, and the others are as they were
abbrev pub CatchesUpAt : List ServerFacts → List ServerFacts → ℕ → ℕ → ℕ → Option Streamed → Bool → Type 0
CatchesUpAt old new place from most news received =
    (s upstream : ServerFacts) → slice_get old place ≡ Some s → slice_get old from ≡ Some upstream
    → (after : ServerFacts) × (new ≡ slice_set old place after) × CatchesUp s upstream most after news received

-- of these servers, the one at the first place is behind the one at the second
abbrev pub AreInStep : List ServerFacts → ℕ → ℕ → Type 0
AreInStep servers place from = (s upstream : ServerFacts) → slice_get servers place ≡ Some s
    → slice_get servers from ≡ Some upstream → IsBehind (log_position_of s) (log_position_of upstream)
