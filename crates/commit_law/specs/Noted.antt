-- What leaders noted of their logs when their required lists grew.
use Rattle.std.specs.Prelude.{ℕ, ◌≡◌, ◌⊎◌, ◌≤◌, Bool, true, false, List, Option, Some}
use Rattle.wal_model.specs.declared.entry.Entry.{Entry}
use Rattle.wal_model.specs.Log.{end_of}
use Rattle.pg_model.specs.Facts.{entries_of}
use Rattle.commit_actions.specs.Keys.{Confirmers, Nobody, All}
use Rattle.commit_actions.specs.States.{Agent, Machine}

-- commits wait for this member by name, and for each other one that is so
abbrev pub lists : Confirmers → ℕ → Bool
lists (All members) n = members n
lists _ n = false

-- a machine, and where its log ended when its required list last grew, or 0 where that has named nobody since:
-- while the server is live its log reaches that, and so does what its agent has noted, where that leads
pub record IsNoted (x : Machine) (grown : ℕ) : Type 0 where
  pub none : x.required ≡ Nobody → grown ≡ 0
  pub within : x.live ≡ true → grown ≤ end_of (entries_of x.log)
  pub noted : (agent : Agent) → x.live ≡ true → x.agent ≡ Some agent → agent.leads ≡ true → grown ≤ agent.noted

-- so it is of each member
abbrev pub AreNoted : (ℕ → Machine) → (ℕ → ℕ) → Type 0
AreNoted members grown = (m : ℕ) → IsNoted (members m) (grown m)

-- how that position follows a required list, and a log, from the first to
-- the second: the list stays, names nobody, names nobody new, or grows
pub data Follows (before after : Confirmers) (log later : Option (List Entry)) (old new : ℕ) : Type 0 where
  Stays : (same : new ≡ old) → (list : after ≡ before) → Follows before after log later old new
  Empties : (is : new ≡ 0) → Follows before after log later old new
  Shrinks : (same : new ≡ old) → (some : after ≡ Nobody → ⊥) → Follows before after log later old new
  Grows : (more : ((n : ℕ) → lists after n ≡ true → lists before n ≡ true) → ⊥) → (some : after ≡ Nobody → ⊥)
      → (is : (new ≡ end_of (entries_of log)) ⊎ (new ≡ end_of (entries_of later)))
      → Follows before after log later old new

-- so it does of each member
abbrev pub AllFollow : (ℕ → Machine) → (ℕ → Machine) → (ℕ → ℕ) → (ℕ → ℕ) → Type 0
AllFollow members later old new =
    (m : ℕ) → Follows (members m).required (later m).required (members m).log (later m).log (old m) (new m)
