-- Bytes that are written on a connection piece by piece.
use Rattle.std.proofs.Common.{ℕ, ◌≡◌, ◌≤◌, ◌<◌, ◌+◌, ◌-◌, List, [], ◌++◌, length, take, drop, Option, Some, IsSome, arith, refl, ap, sym, ◌∙◌, take-add, length-drop, take-append-drop, take_all}
use Rattle.pat_outside.proofs.Contents.{slice_rest}
use Rattle.pat_door.specs.Doors.{DoorCall, DoorFacts, ReadCounts, Tells, after_write}
use Rattle.pat_door.specs.declared.door.Door.{Ghosts}
use Rattle.pat_door.proofs.Growing.{after_write-nothing, after_write-twice}
use Rattle.rest_connection.specs.Answers.{WritesFront}

-- the front up to a place has been written
pub record Written {D : Type 0} (door : Ghosts D) (before after : D) (bytes : List ℕ) (at : ℕ) : Type 0 where
  pub within : at ≤ length bytes
  pub grew : Tells (door.told before) (λ facts. door.told after ≡ Some (after_write (take at bytes) facts))
  pub present : 0 < at → Tells (door.told before) (λ facts. IsSome facts.here)
  pub grows : door.connection_faults before ≤ door.connection_faults after
  pub calm : door.door_faults after ≡ door.door_faults before
  pub served : (n : ℕ) → door.serves before n → door.serves after n
  pub room : (n : ℕ) → door.takes before n → length bytes ≤ n → door.takes after (n - at)
  pub spare : (n : ℕ) → door.has_room before n → door.has_room after (n - at)
  pub heard : (calls : List DoorCall) → door.heard before calls → door.heard after calls
  pub counts : (counts : ReadCounts) → door.has_read before counts → door.has_read after counts

pub written-nothing : (before : Option DoorFacts) → Tells before (λ facts. before ≡ Some (after_write [] facts))
written-nothing before facts is = is ∙ ap Some (sym (after_write-nothing facts))

-- a front, and some of what follows it
longer-front : (bytes : List ℕ) (at n : ℕ)
    → take at bytes ++ take n (take (length bytes - at) (drop at bytes)) ≡ take (at + n) bytes
longer-front bytes at n = ap (λ t. take at bytes ++ take n t) (slice_rest at bytes) ∙ sym (take-add at n bytes)

pub written-more : (before mid after : Option DoorFacts) (bytes : List ℕ) (at n : ℕ)
    → Tells before (λ facts. mid ≡ Some (after_write (take at bytes) facts))
    → Tells mid (λ facts. after ≡ Some (after_write (take n (take (length bytes - at) (drop at bytes))) facts))
    → Tells before (λ facts. after ≡ Some (after_write (take (at + n) bytes) facts))
written-more before mid after bytes at n had more facts is =
    more (after_write (take at bytes) facts) (had facts is)
    ∙ ap Some (after_write-twice facts (take at bytes) (take n (take (length bytes - at) (drop at bytes))))
    ∙ ap (λ t. Some (after_write t facts)) (longer-front bytes at n)

pub written-front : (before mid after : Option DoorFacts) (bytes : List ℕ) (at : ℕ)
    → Tells before (λ facts. mid ≡ Some (after_write (take at bytes) facts)) → after ≡ mid
    → WritesFront before after bytes
written-front before mid after bytes at had same facts is =
    (take at bytes, drop at bytes, take-append-drop at bytes, same ∙ had facts is)

pub written-all : (before after : Option DoorFacts) (bytes : List ℕ) (at : ℕ) → length bytes ≤ at
    → Tells before (λ facts. after ≡ Some (after_write (take at bytes) facts))
    → Tells before (λ facts. after ≡ Some (after_write bytes facts))
written-all before after bytes at all had facts is =
    had facts is ∙ ap (λ t. Some (after_write t facts)) (take_all at bytes all)

-- the rest of the bytes fits where all of them do
pub rest-fits : (bytes : List ℕ) (at n : ℕ) → length bytes ≤ n
    → length (take (length bytes - at) (drop at bytes)) ≤ n - at
rest-fits bytes at n h = rw (slice_rest at bytes) (omega (arith, length-drop at bytes))

pub front-nothing : (before : Option DoorFacts) (bytes : List ℕ) → WritesFront before before bytes
front-nothing before bytes facts is = ([], bytes, refl, written-nothing before facts is)
