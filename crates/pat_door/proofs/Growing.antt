-- Answers that grow piece by piece, and connections that are read piece by piece.
use Rattle.std.proofs.Common.{ℕ, ◌≡◌, ◌+◌, List, [], ◌∷◌, ◌++◌, drop, Option, Some, None, option_map, refl, ap, append_assoc, append-nil, drop-drop}
use Rattle.pat_door.specs.Doors.{DoorFacts, grow_last, grow_last_from, after_read, after_write}

-- a piece goes to the end of the last answer, and the others stay
pub grow_last_from-last : (piece first : List ℕ) (more : List (List ℕ)) (answer : List ℕ)
    → grow_last_from piece first (more ++ answer ∷ []) ≡ first ∷ (more ++ (answer ++ piece) ∷ [])
grow_last_from-last piece first [] answer = refl
grow_last_from-last piece first (second ∷ more) answer =
    ap (λ t. first ∷ t) (grow_last_from-last piece second more answer)

pub grow_last-last : (piece : List ℕ) (earlier : List (List ℕ)) (answer : List ℕ)
    → grow_last piece (earlier ++ answer ∷ []) ≡ earlier ++ (answer ++ piece) ∷ []
grow_last-last piece [] answer = refl
grow_last-last piece (first ∷ more) answer = grow_last_from-last piece first more answer

pub after_write-last : (facts : DoorFacts) (piece : List ℕ) (earlier : List (List ℕ)) (answer : List ℕ)
    → facts.answered ≡ earlier ++ answer ∷ [] → (after_write piece facts).answered ≡ earlier ++ (answer ++ piece) ∷ []
after_write-last facts piece earlier answer is = rw is (grow_last-last piece earlier answer)

-- a piece of nothing changes nothing
pub grow_last_from-nothing : (first : List ℕ) (more : List (List ℕ)) → grow_last_from [] first more ≡ first ∷ more
grow_last_from-nothing first [] = ap (λ t. t ∷ []) (append-nil first)
grow_last_from-nothing first (second ∷ more) = ap (λ t. first ∷ t) (grow_last_from-nothing second more)

pub grow_last-nothing : (answers : List (List ℕ)) → grow_last [] answers ≡ answers
grow_last-nothing [] = refl
grow_last-nothing (first ∷ more) = grow_last_from-nothing first more

pub after_write-nothing : (facts : DoorFacts) → after_write [] facts ≡ facts
after_write-nothing facts = ap (λ t. record facts { answered = t }) (grow_last-nothing facts.answered)

-- two pieces are as good as one
pub grow_last_from-twice : (piece then first : List ℕ) (more : List (List ℕ))
    → grow_last then (grow_last_from piece first more) ≡ grow_last_from (piece ++ then) first more
grow_last_from-twice piece then first [] = ap (λ t. t ∷ []) (append_assoc first piece then)
grow_last_from-twice piece then first (second ∷ []) = ap (λ t. first ∷ t ∷ []) (append_assoc second piece then)
grow_last_from-twice piece then first (second ∷ (third ∷ more)) =
    ap (λ t. first ∷ t) (grow_last_from-twice piece then second (third ∷ more))

pub grow_last-twice : (piece then : List ℕ) (answers : List (List ℕ))
    → grow_last then (grow_last piece answers) ≡ grow_last (piece ++ then) answers
grow_last-twice piece then [] = refl
grow_last-twice piece then (first ∷ more) = grow_last_from-twice piece then first more

pub after_write-twice : (facts : DoorFacts) (piece then : List ℕ)
    → after_write then (after_write piece facts) ≡ after_write (piece ++ then) facts
after_write-twice facts piece then = ap (λ t. record facts { answered = t }) (grow_last-twice piece then facts.answered)

-- two reads are as good as one
pub drop-twice : (here : Option (List ℕ)) (count more : ℕ)
    → option_map (drop more) (option_map (drop count) here) ≡ option_map (drop (count + more)) here
drop-twice None count more = refl
drop-twice (Some bytes) count more = ap Some (drop-drop more count bytes)

pub after_read-twice : (facts : DoorFacts) (count more : ℕ)
    → after_read more (after_read count facts) ≡ after_read (count + more) facts
after_read-twice facts count more = ap (λ t. record facts { here = t }) (drop-twice facts.here count more)
