-- What is said of doors.
use Rattle.std.specs.Prelude.{ℕ, ◌+◌, List, [], ◌∷◌, ◌++◌, ◌≡◌, drop, Option, Some, None, option_map}

-- the connections still to be accepted, with their bytes; the bytes still to come on the present one,
-- and none where none is accepted; and what was answered on each that was accepted, the present one last
pub record DoorFacts : Type 0 where
  pub coming : List (List ℕ)
  pub here : Option (List ℕ)
  pub answered : List (List ℕ)

-- what holds of the facts, where they are told
abbrev pub Tells : Option DoorFacts → (DoorFacts → Type 0) → Type 0
Tells told P = (facts : DoorFacts) → told ≡ Some facts → P facts

-- the bytes still to come on the present connection, where they are told
abbrev pub bytes_here : Option DoorFacts → Option (List ℕ)
bytes_here None = None
bytes_here (Some facts) = facts.here

-- the facts after the first of these connections was accepted, and as they were where there is none
abbrev pub accept_first : List (List ℕ) → DoorFacts → DoorFacts
accept_first [] facts = facts
accept_first (first ∷ rest) facts = record { coming = rest; here = Some first; answered = facts.answered ++ [] ∷ [] }

-- the facts after a connection was accepted: the first that was to come, with an empty answer
abbrev pub after_accept : DoorFacts → DoorFacts
after_accept facts = accept_first facts.coming facts

-- the facts after so many bytes were read on the present connection
abbrev pub after_read : ℕ → DoorFacts → DoorFacts
after_read count facts = record facts { here = option_map (drop count) facts.here }

-- a list and the lists that follow, with bytes at the end of the last
abbrev pub grow_last_from : List ℕ → List ℕ → List (List ℕ) → List (List ℕ)
grow_last_from bytes first [] = (first ++ bytes) ∷ []
grow_last_from bytes first (second ∷ more) = first ∷ grow_last_from bytes second more

-- the lists, with bytes at the end of the last
abbrev pub grow_last : List ℕ → List (List ℕ) → List (List ℕ)
grow_last bytes [] = []
grow_last bytes (first ∷ more) = grow_last_from bytes first more

-- the facts after these bytes were answered on the present connection
abbrev pub after_write : List ℕ → DoorFacts → DoorFacts
after_write bytes facts = record facts { answered = grow_last bytes facts.answered }

-- the facts after the present connection ended
abbrev pub after_hang_up : DoorFacts → DoorFacts
after_hang_up facts = record facts { here = None }

-- what a door was called for: it was opened at this address, the next connection
-- was accepted, or a read or a write of the present connection failed
pub data DoorCall : Type 0 where
  Opened : List ℕ → DoorCall
  Accepted : DoorCall
  Failed : DoorCall

-- how many bytes were read of a connection, and how many of them before the last read of it
pub record ReadCounts : Type 0 where
  pub all : ℕ
  pub before : ℕ

-- nothing was read yet
abbrev pub none_read : ReadCounts
none_read = record { all = 0; before = 0 }

-- the counts after one more read, of so many bytes
abbrev pub read_more : ℕ → ReadCounts → ReadCounts
read_more count counts = record { all = counts.all + count; before = counts.all }
