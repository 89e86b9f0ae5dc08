-- What is heard of the members that a leader asks, one answer after another.
use Rattle.std.specs.Prelude.{ℕ, ◌≡◌, ◌⊎◌, ◌≤◌, ◌==◌, ◌&&◌, if◌then◌else◌, Bool, true, List, [], ◌∷◌, Option, Some, None}
use Rattle.pat_base.specs.declared.member_id.MemberId.{MemberId}
use Rattle.pat_base.specs.declared.member_set.MemberSet.{MemberSet}
use Rattle.pat_base.specs.declared.ticks.Ticks.{Ticks}
use Rattle.failsafe.specs.declared.asks.Ask.{Ask}
use Rattle.failsafe.specs.Asks.{has, asked, heard, moment_of_all}

-- a member's answer, and when it was heard
pub record Hearing : Type 0 where
  pub member : MemberId
  pub accepted : Bool
  pub at : Ticks

-- what is known of a request after these answers
abbrev pub heard_all : Ask → List Hearing → Ask
heard_all ask [] = ask
heard_all ask (hearing ∷ later) = heard_all (heard ask hearing.member hearing.accepted hearing.at) later

-- this answer is the yes of the member of that number
abbrev pub is_yes_of : ℕ → Hearing → Bool
is_yes_of k hearing = hearing.accepted && hearing.member.number == k

-- when the member of this number first said yes, if it did
abbrev pub first_yes : ℕ → List Hearing → Option Ticks
first_yes k [] = None
first_yes k (hearing ∷ later) = if is_yes_of k hearing then Some hearing.at else first_yes k later

-- each member that was asked said yes, none of them first before this moment, and
-- one of them at it; or nobody was asked, and this is the moment of the request
pub record AllSaidYes (members : MemberSet) (made : Ticks) (hearings : List Hearing) (moment : Ticks) : Type 0 where
  pub each : (k : ℕ) → has members k ≡ true → (at : Ticks) × (first_yes k hearings ≡ Some at) × (moment.0 ≤ at.0)
  pub one : ((k : ℕ) × (has members k ≡ true) × (first_yes k hearings ≡ Some moment))
      ⊎ (((k : ℕ) → has members k ≡ true → ⊥) × (moment ≡ made))
