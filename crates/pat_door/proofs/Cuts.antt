-- Bytes that are cut at places, as answers are held.
use Rattle.std.proofs.Common.{ℕ, zero, suc, ◌≡◌, ◌≤◌, ◌+◌, ◌-◌, List, [], ◌∷◌, ◌++◌, length, take, drop, Some, None, slice_get, unwrap_or, arith, refl, sym, ◌∙◌, ap, subst, length-drop, add-one}
use Rattle.std.proofs.lemmas.List.{drop_all, drop-append-le, take-append-le}
use Rattle.pat_outside.proofs.Contents.{slice_rest}
use Rattle.pat_door.specs.Doors.{grow_last}
use Rattle.pat_door.specs.Memory.{cut_from, cut_at, AreInOrder, AreInOrderFrom}

-- the end may move on
pub ordered_from-further : (start : ℕ) (more : List ℕ) (end further : ℕ) → end ≤ further
    → AreInOrderFrom start more end → AreInOrderFrom start more further
ordered_from-further start [] end further h order = omega (arith, h, order)
ordered_from-further start (next ∷ more) end further h order =
    (order.0, ordered_from-further next more end further h order.1)

pub ordered-further : (starts : List ℕ) (end further : ℕ) → end ≤ further → AreInOrder starts end
    → AreInOrder starts further
ordered-further [] end further h order = tt
ordered-further (start ∷ more) end further h order = ordered_from-further start more end further h order

-- the end is a place too
pub ordered_from-end : (start : ℕ) (more : List ℕ) (end : ℕ) → AreInOrderFrom start more end
    → AreInOrderFrom start (more ++ end ∷ []) end
ordered_from-end start [] end order = (order, omega arith)
ordered_from-end start (next ∷ more) end order = (order.0, ordered_from-end next more end order.1)

pub ordered-end : (starts : List ℕ) (end : ℕ) → AreInOrder starts end → AreInOrder (starts ++ end ∷ []) end
ordered-end [] end order = omega arith
ordered-end (start ∷ more) end order = ordered_from-end start more end order

-- no place lies past the end
pub ordered_from-within : (start : ℕ) (more : List ℕ) (end : ℕ) → AreInOrderFrom start more end → start ≤ end
ordered_from-within start [] end order = order
ordered_from-within start (next ∷ more) end order = omega (arith, order.0, ordered_from-within next more end order.1)

-- a cut at the end begins a part of nothing
pub cut_from-end : (start : ℕ) (more bytes : List ℕ) → AreInOrderFrom start more (length bytes)
    → cut_from start (more ++ length bytes ∷ []) bytes ≡ cut_from start more bytes ++ [] ∷ []
cut_from-end start [] bytes order =
    ap (λ t. t ∷ drop (length bytes) bytes ∷ []) (slice_rest start bytes)
    ∙ ap (λ t. drop start bytes ∷ t ∷ []) (drop_all (length bytes) bytes (omega arith))
cut_from-end start (next ∷ more) bytes order =
    ap (λ t. take (next - start) (drop start bytes) ∷ t) (cut_from-end next more bytes order.1)

pub cut_at-end : (starts bytes : List ℕ) → AreInOrder starts (length bytes)
    → cut_at (starts ++ length bytes ∷ []) bytes ≡ cut_at starts bytes ++ [] ∷ []
cut_at-end [] bytes order = ap (λ t. t ∷ []) (drop_all (length bytes) bytes (omega arith))
cut_at-end (start ∷ more) bytes order = cut_from-end start more bytes order

-- what is added to the bytes is added to the last part
pub cut_from-more : (start : ℕ) (more bytes piece : List ℕ) → AreInOrderFrom start more (length bytes)
    → cut_from start more (bytes ++ piece) ≡ grow_last piece (cut_from start more bytes)
cut_from-more start [] bytes piece order = ap (λ t. t ∷ []) (drop-append-le start bytes piece order)
cut_from-more start (next ∷ []) bytes piece order =
    let within : next - start ≤ length (drop start bytes) = omega (arith, length-drop start bytes, order.1) in
    let first : start ≤ length bytes = omega (arith, order.0, order.1) in
    ap (λ t. take (next - start) t ∷ drop next (bytes ++ piece) ∷ []) (drop-append-le start bytes piece first)
    ∙ ap (λ t. t ∷ drop next (bytes ++ piece) ∷ []) (take-append-le (next - start) (drop start bytes) piece within)
    ∙ ap (λ t. take (next - start) (drop start bytes) ∷ t ∷ []) (drop-append-le next bytes piece order.1)
cut_from-more start (next ∷ (third ∷ more)) bytes piece order =
    let above : next ≤ length bytes = ordered_from-within next (third ∷ more) (length bytes) order.1 in
    let within : next - start ≤ length (drop start bytes) = omega (arith, length-drop start bytes, above) in
    let first : start ≤ length bytes = omega (arith, order.0, above) in
    ap (λ t. take (next - start) t ∷ cut_from next (third ∷ more) (bytes ++ piece))
    (drop-append-le start bytes piece first)
    ∙ ap (λ t. t ∷ cut_from next (third ∷ more) (bytes ++ piece))
    (take-append-le (next - start) (drop start bytes) piece within)
    ∙ ap (λ t. take (next - start) (drop start bytes) ∷ t) (cut_from-more next (third ∷ more) bytes piece order.1)

pub cut_at-more : (starts bytes piece : List ℕ) → AreInOrder starts (length bytes)
    → cut_at starts (bytes ++ piece) ≡ grow_last piece (cut_at starts bytes)
cut_at-more [] bytes piece order = refl
cut_at-more (start ∷ more) bytes piece order = cut_from-more start more bytes piece order

-- the n-th part lies between these places
pub record IsPart (starts bytes : List ℕ) (n start end : ℕ) : Type 0 where
  pub ordered : start ≤ end
  pub within : end ≤ length bytes
  pub is : slice_get (cut_at starts bytes) n ≡ Some (take (end - start) (drop start bytes))

pub cut_from-part : (first : ℕ) (more bytes : List ℕ) (n start end : ℕ)
    → AreInOrderFrom first more (length bytes) → slice_get (first ∷ more) n ≡ Some start
    → unwrap_or (slice_get more n) (length bytes) ≡ end → IsPart (first ∷ more) bytes n start end
cut_from-part first [] bytes zero start end order here next =
    let e : first ≡ start = cc in
    subst (λ (k : ℕ). IsPart (first ∷ []) bytes 0 start k) next
    (subst (λ (k : ℕ). IsPart (first ∷ []) bytes 0 k (length bytes)) e
    (record { ordered = order; within = omega arith; is = ap Some (sym (slice_rest first bytes)) }))
cut_from-part first [] bytes (suc n) start end order here next = cc
cut_from-part first (second ∷ more) bytes zero start end order here next =
    let e : first ≡ start = cc in
    subst (λ (k : ℕ). IsPart (first ∷ second ∷ more) bytes 0 start k) next
    (subst (λ (k : ℕ). IsPart (first ∷ second ∷ more) bytes 0 k second) e
    (record { ordered = order.0; within = ordered_from-within second more (length bytes) order.1; is = refl }))
cut_from-part first (second ∷ more) bytes (suc n) start end order here next =
    let p = cut_from-part second more bytes n start end order.1 here next in
    record { ordered = p.ordered; within = p.within; is = p.is }

pub cut_at-part : (starts bytes : List ℕ) (n start end : ℕ) → AreInOrder starts (length bytes)
    → slice_get starts n ≡ Some start → unwrap_or (slice_get starts (n + 1)) (length bytes) ≡ end
    → IsPart starts bytes n start end
cut_at-part [] bytes n start end order here next = cc
cut_at-part (first ∷ more) bytes n start end order here next =
    cut_from-part first more bytes n start end order here (rw add-one at next)

-- there are as many parts as places
pub cut_from-none : (start : ℕ) (more bytes : List ℕ) (n : ℕ) → slice_get (start ∷ more) n ≡ None
    → slice_get (cut_from start more bytes) n ≡ None
cut_from-none start [] bytes zero none = cc
cut_from-none start [] bytes (suc n) none = refl
cut_from-none start (next ∷ more) bytes zero none = cc
cut_from-none start (next ∷ more) bytes (suc n) none = cut_from-none next more bytes n none

pub cut_at-none : (starts bytes : List ℕ) (n : ℕ) → slice_get starts n ≡ None → slice_get (cut_at starts bytes) n ≡ None
cut_at-none [] bytes n none = refl
cut_at-none (start ∷ more) bytes n none = cut_from-none start more bytes n none
