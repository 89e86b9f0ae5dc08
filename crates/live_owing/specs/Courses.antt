-- What has happened at a member so far, and who waits for its agent by that.
use Rattle.std.specs.Prelude.{ℕ, ◌+◌, ◌<◌, ◌≡◌, ◌≢◌, ◌==◌, Bool, true, false, cond, List, [], ◌∷◌, ◌++◌, Option, Some, None}
use Rattle.std.specs.List.{All, count_by}
use Rattle.live_owing.specs.declared.waiting.Owner.{Owner}
use Rattle.live_owing.specs.declared.waiting.Owner.TheVariants as owners
use Rattle.live_owing.specs.declared.waiting.Debt.{Debt}
use Rattle.live_owing.specs.declared.waiting.Outcome.{Outcome}
use Rattle.live_owing.specs.declared.waiting.Outcome.TheVariants as outcomes
use Rattle.live_owing.specs.Owed.{Asked, Happening, Left, Replied, Ticked, given, most_waiting, owed_after}

-- what is owed after all this, one after another
abbrev pub owed_behind : Option Debt → List Happening → Option Debt
owed_behind owed [] = owed
owed_behind owed (first ∷ more) = owed_behind (owed_after owed first) more

abbrev pub is_tick : Happening → Bool
is_tick Ticked = true
is_tick happening = false

-- who waits goes on waiting: nobody else asks in vain, no reply comes, and it doesn't leave
abbrev pub GoesOnWaiting : Owner → Happening → Type 0
GoesOnWaiting owner (Asked asker true) = Unit {0}
GoesOnWaiting owner (Asked asker false) = ⊥
GoesOnWaiting owner Replied = ⊥
GoesOnWaiting owner Ticked = Unit {0}
GoesOnWaiting owner (Left client) = owner ≢ owners.Client client

-- a client waits for fewer ticks than the most, a line for any number
abbrev pub MayWait : Owner → ℕ → Type 0
MayWait (owners.Client client) ticks = ticks < most_waiting
MayWait owner ticks = Unit {0}

-- Of all that has happened at a member: this one asked it, and wasn't replied to in the same step. Since then so many
-- ticks have passed, and nothing ended its wait.
pub record IsWaiting (owner : Owner) (ticks : ℕ) (course : List Happening) : Type 0 where
  pub before : List Happening
  pub since : List Happening
  pub asked : course ≡ before ++ Asked owner false ∷ since
  pub goes_on : All (GoesOnWaiting owner) since
  pub passed : count_by is_tick since ≡ ticks
  pub in_time : MayWait owner ticks

-- whether two owners are the same
abbrev pub is_same : Owner → Owner → Bool
is_same (owners.Client client) (owners.Client other) = client == other
is_same (owners.Line client) (owners.Line other) = client == other
is_same owners.Script owners.Script = true
is_same owner other = false

-- whether this one asks
abbrev pub asks : Owner → Happening → Bool
asks owner (Asked asker replied) = is_same owner asker
asks owner happening = false

-- whether what comes is to this one
abbrev pub is_to : Owner → Option Outcome → Bool
is_to owner None = false
is_to owner (Some (outcomes.Reply other)) = is_same owner other
is_to owner (Some (outcomes.NoResult client)) = is_same owner (owners.Client client)

-- how often something comes to this one
abbrev pub answers_to : Owner → Option Debt → List Happening → ℕ
answers_to owner owed [] = 0
answers_to owner owed (first ∷ more) =
    cond (is_to owner (given owed first)) 1 0 + answers_to owner (owed_after owed first) more
