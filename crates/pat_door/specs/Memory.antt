-- What a door in memory holds.
use Rattle.std.specs.Prelude.{ℕ, ◌≡◌, ◌+◌, ◌-◌, ◌^◌, ◌<◌, ◌≤◌, List, [], ◌∷◌, take, drop, min}
use Rattle.pat_door.specs.Doors.{DoorCall, DoorFacts, ReadCounts}

-- the connections and the answers, the room left for answers, the numbers
-- of the calls that are to fail, and how many calls and faults there were
pub record DoorState : Type 0 where
  pub facts : DoorFacts
  pub room : ℕ
  pub fails : List ℕ
  pub calls : ℕ
  pub door_faults : ℕ
  pub connection_faults : ℕ
  -- how many bytes were read of the connection that was accepted last, and how many of them before the last read
  pub read : ℕ
  pub read_before : ℕ
  -- what it was called for
  pub heard : List DoorCall

-- the answers so far, the room left for their bytes, and how many more may begin
pub record AnswerState : Type 0 where
  pub answers : List (List ℕ)
  pub room : ℕ
  pub unbegun : ℕ

-- the bytes from one place to the next of these places, from that to the one after it, and from the last to the end
abbrev pub cut_from : ℕ → List ℕ → List ℕ → List (List ℕ)
cut_from start [] bytes = drop start bytes ∷ []
cut_from start (next ∷ more) bytes = take (next - start) (drop start bytes) ∷ cut_from next more bytes

-- the bytes from each of these places to the next, and from the last to the end
abbrev pub cut_at : List ℕ → List ℕ → List (List ℕ)
cut_at [] bytes = []
cut_at (start ∷ more) bytes = cut_from start more bytes

-- from this place on no place lies before the one that it follows, and none past the end
abbrev pub AreInOrderFrom : ℕ → List ℕ → ℕ → Type 0
AreInOrderFrom start [] end = start ≤ end
AreInOrderFrom start (next ∷ more) end = (start ≤ next) × AreInOrderFrom next more end

-- none of the places lies before the one that it follows, and none past the end
abbrev pub AreInOrder : List ℕ → ℕ → Type 0
AreInOrder [] end = Unit {0}
AreInOrder (start ∷ more) end = AreInOrderFrom start more end

-- these are the counts of what was read, as far as a counter goes
abbrev pub ReadSo : DoorState → ReadCounts → Type 0
ReadSo state counts = counts.all < 2 ^ 64 → (state.read ≡ counts.all) × (state.read_before ≡ counts.before)

-- the counters after one more read, of so many bytes
abbrev pub counted_read : ℕ → DoorState → DoorState
counted_read count state = record state { read = min (state.read + count) (2 ^ 64 - 1); read_before = state.read }
