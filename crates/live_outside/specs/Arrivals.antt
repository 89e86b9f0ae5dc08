-- What is said of the outside of a live cluster.
use Rattle.std.specs.Prelude.{ℕ, ◌+◌, ◌==◌, ◌≡◌, Bool, if◌then◌else◌, List, [], ◌∷◌, ◌++◌, Option, Some}
use Rattle.live_outside.specs.declared.arrival.Arrival.{Arrival}

-- what was done for a client: it was sent these bytes, and nothing more behind the last ones, or it was hung up
pub data DeedText : Type 0 where
  Sent : ℕ → List ℕ → Bool → DeedText
  HungUp : ℕ → DeedText

-- a deed, and how many arrivals had come before it
pub record DoneText : Type 0 where
  pub behind : ℕ
  pub deed : DeedText

-- the arrivals still to come, how many came, and what was done, in order
pub record OutsideFacts : Type 0 where
  pub coming : List Arrival
  pub came : ℕ
  pub done : List DoneText

-- what holds of the facts, where they are told
abbrev pub Tells : Option OutsideFacts → (OutsideFacts → Type 0) → Type 0
Tells told P = (facts : OutsideFacts) → told ≡ Some facts → P facts

-- the facts after one more arrival came, where these are the others
abbrev pub after_next : List Arrival → OutsideFacts → OutsideFacts
after_next rest facts = record facts { coming = rest; came = facts.came + 1 }

-- the facts after this was done
abbrev pub after_deed : DeedText → OutsideFacts → OutsideFacts
after_deed deed facts = record facts { done = facts.done ++ record { behind = facts.came; deed = deed } ∷ [] }

-- the bytes that a deed sends to this client
abbrev pub sent_by : ℕ → DeedText → List ℕ
sent_by client (Sent to bytes last) = if client == to then bytes else []
sent_by client (HungUp of) = []

-- all bytes that this client was sent
abbrev pub sent_to : ℕ → List DoneText → List ℕ
sent_to client [] = []
sent_to client (done ∷ more) = sent_by client done.deed ++ sent_to client more
