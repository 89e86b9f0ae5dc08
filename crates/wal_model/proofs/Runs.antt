-- Parts of logs that lie together.
use Rattle.std.proofs.Common.{◌≡◌, ℕ, ◌+◌, ◌-◌, ◌≤◌, ◌<◌, ◌==◌, Bool, true, false, IsTrue, cond, List, [], ◌∷◌, ◌++◌, length, take, drop, zero, suc, min, refl, sym, ap, ◌∙◌, arith, append_assoc, append-nil, length-append, ◌⊎◌, inl, inr}
use Rattle.std.specs.Prelude.{slice_get}
use Rattle.std.proofs.lemmas.Bool.Decides.{nat_tests}
use Rattle.std.proofs.lemmas.List.{take_rest, take_min, take_all, take-append-le, drop-append-le, drop-drop, drop_min, length-drop, length-take, length-take-le}
use Rattle.std.proofs.lemmas.Option.{slice_get_past}
use Rattle.std.proofs.Math.Seq.{take-add, take-append-add, drop-append-add}
use Rattle.wal_model.specs.declared.entry.Entry.{Entry}
use Rattle.wal_model.specs.declared.placed.Placed.{Placed}
use Rattle.wal_model.specs.Log.{IsPrefixOf, is_same, is_prefix, common_of, end_of}
use Rattle.wal_model.specs.Pieces.{Holds}
use Rattle.wal_model.specs.Sealed.{IsLog}
use Rattle.wal_model.proofs.Chains.{end_of-split}
use Rattle.wal_model.proofs.Entries.{common-first, common-prefix, prefix-common, is_prefix-to, is_prefix-from}

-- the rest of a piece from a place on
pub run-of-piece : (p : Placed) (log : List Entry) (place : ℕ) → Holds p log place
    → IsPrefixOf (take (length p.piece - (place - p.before)) (drop (place - p.before) p.piece)) (drop place log)
run-of-piece p log place h =
    let n = place - p.before in
    let at : place ≡ length h.first + n = omega (arith, h.before, h.reached) in
    record {
      rest = h.rest;
      whole =
          ap (drop place) h.whole
          ∙ ap (λ (k : ℕ). drop k (h.first ++ (p.piece ++ h.rest))) at
          ∙ drop-append-add h.first (p.piece ++ h.rest) n
          ∙ drop-append-le n p.piece h.rest (omega (arith, h.within, h.reached))
          ∙ ap (λ t. t ++ h.rest) (sym (take_rest p.piece n));
    }

-- the rest of a tail from a place on
pub run-of-tail : (front tail : List Entry) (place n : ℕ) → length front ≤ place
    → n ≡ min (place - length front) (length tail)
    → IsPrefixOf (take (length tail - n) (drop n tail)) (drop place (front ++ tail))
run-of-tail front tail place n past is =
    let at : place ≡ length front + (place - length front) = omega (arith, past) in
    record {
      rest = [];
      whole =
          ap (λ (k : ℕ). drop k (front ++ tail)) at
          ∙ drop-append-add front tail (place - length front)
          ∙ sym (drop_min (place - length front) tail)
          ∙ ap (λ (k : ℕ). drop k tail) (sym is)
          ∙ sym (take_rest tail n)
          ∙ sym (append-nil (take (length tail - n) (drop n tail)));
    }

-- the entry at a place is the first one of the part that begins there
pub first-of-run : (log run : List Entry) (place : ℕ) → IsPrefixOf run (drop place log)
    → (place < length log → 0 < length run) → slice_get run 0 ≡ slice_get log place
first-of-run log [] place p some = sym (slice_get_past log place (past (length log) place (λ h. omega (arith, some h))))
  where
    past : (n m : ℕ) → (m < n → ⊥) → n ≤ m
    past n m h = grind (arith, h)
first-of-run log (e ∷ run) place p some =
    ap (λ (t : List Entry). slice_get t 0) (sym p.whole) ∙ slice_get-drop log place
  where
    slice_get-drop : (xs : List Entry) (n : ℕ) → slice_get (drop n xs) 0 ≡ slice_get xs n
    slice_get-drop [] zero = refl
    slice_get-drop [] (suc n) = refl
    slice_get-drop (x ∷ xs) zero = refl
    slice_get-drop (x ∷ xs) (suc n) = slice_get-drop xs n

-- what two logs have in common so far
pub record IsCommonSoFar (x y : List Entry) (place : ℕ) : Type 0 where
  pub within : place ≤ length x
  pub common : take place x ++ common_of (drop place x) (drop place y) ≡ common_of x y

common-split : (r s rs ss : List Entry)
    → common_of (r ++ rs) (s ++ ss)
    ≡ common_of r s ++ common_of (drop (length (common_of r s)) (r ++ rs)) (drop (length (common_of r s)) (s ++ ss))
common-split [] s rs ss = refl
common-split (x ∷ r) [] rs ss = refl
common-split (x ∷ r) (y ∷ s) rs ss = by-test (is_same x y) refl (common-split r s rs ss)
  where
    by-test : (b : Bool) → is_same x y ≡ b
        → common_of (r ++ rs) (s ++ ss)
        ≡ common_of r s ++ common_of (drop (length (common_of r s)) (r ++ rs)) (drop (length (common_of r s)) (s ++ ss))
        → cond b (x ∷ common_of (r ++ rs) (s ++ ss)) []
        ≡ cond b (x ∷ common_of r s) [] ++ common_of (drop (length (cond b (x ∷ common_of r s) [])) (x ∷ (r ++ rs)))
        (drop (length (cond b (x ∷ common_of r s) [])) (y ∷ (s ++ ss)))
    by-test true e more = ap (λ t. x ∷ t) more
    by-test false e more = sym (ap (λ (b : Bool). cond b (x ∷ common_of (r ++ rs) (s ++ ss)) []) e)

none-common : (r s rs ss : List Entry) → 0 < length r → 0 < length s → common_of r s ≡ []
    → common_of (r ++ rs) (s ++ ss) ≡ []
none-common [] s rs ss hr hs none = absurd (omega (arith, hr))
none-common (x ∷ r) [] rs ss hr hs none = absurd (omega (arith, hs))
none-common (x ∷ r) (y ∷ s) rs ss hr hs none = by-test (is_same x y) none
  where
    by-test : (b : Bool) → cond b (x ∷ common_of r s) [] ≡ [] → cond b (x ∷ common_of (r ++ rs) (s ++ ss)) [] ≡ []
    by-test true e = absurd (never e)
      where
        never : x ∷ common_of r s ≡ [] → ⊥
        never e = cc
    by-test false e = refl

-- both logs have the common part of two of their runs in common, too
pub common-further : (x y r s : List Entry) (place same : ℕ) → IsCommonSoFar x y place → IsPrefixOf r (drop place x)
    → IsPrefixOf s (drop place y) → take same r ≡ common_of r s → same ≤ length r → IsCommonSoFar x y (place + same)
common-further x y r s place same far p q is within =
    let long : length (common_of r s) ≡ same = ap length (sym is) ∙ length-take-le same r within in
    let split : common_of (drop place x) (drop place y)
    ≡ take same r ++ common_of (drop (place + same) x) (drop (place + same) y) =
    ap (λ t. common_of t (drop place y)) p.whole
    ∙ ap (λ t. common_of (r ++ p.rest) t) q.whole
    ∙ common-split r s p.rest q.rest
    ∙ ap (λ (n : ℕ). common_of r s ++ common_of (drop n (r ++ p.rest)) (drop n (s ++ q.rest))) long
    ∙ ap (λ t. t ++ common_of (drop same (r ++ p.rest)) (drop same (s ++ q.rest))) (sym is)
    ∙ ap (λ t. take same r ++ common_of (drop same t) (drop same (s ++ q.rest))) (sym p.whole)
    ∙ ap (λ t. take same r ++ common_of (drop same (drop place x)) (drop same t)) (sym q.whole)
    ∙ ap (λ t. take same r ++ common_of t (drop same (drop place y))) (drop-drop same place x)
    ∙ ap (λ t. take same r ++ common_of (drop (place + same) x) t) (drop-drop same place y) in
    let front : take (place + same) x ≡ take place x ++ take same r =
    take-add place same x ∙ ap (λ t. take place x ++ take same t) p.whole
    ∙ ap (λ t. take place x ++ t) (take-append-le same r p.rest within) in
    record {
      within = omega (arith, far.within, within, length-drop place x, ap length p.whole, length-append r p.rest);
      common =
          ap (λ t. t ++ common_of (drop (place + same) x) (drop (place + same) y)) front
          ∙ append_assoc (take place x) (take same r) (common_of (drop (place + same) x) (drop (place + same) y))
          ∙ ap (λ t. take place x ++ t) (sym split)
          ∙ far.common;
    }

-- two runs that begin differently end what both logs have in common
pub common-parted : (x y r s : List Entry) (place same : ℕ) → IsCommonSoFar x y place
    → IsPrefixOf r (drop place x) → IsPrefixOf s (drop place y) → 0 < length r → 0 < length s
    → take same r ≡ common_of r s → same ≡ 0 → take place x ≡ common_of x y
common-parted x y r s place same far p q hr hs is none =
    let empty : common_of r s ≡ [] = sym is ∙ ap (λ (n : ℕ). take n r) none in
    let ends : common_of (drop place x) (drop place y) ≡ [] =
    ap (λ t. common_of t (drop place y)) p.whole ∙ ap (λ t. common_of (r ++ p.rest) t) q.whole
    ∙ none-common r s p.rest q.rest hr hs empty in
    sym (append-nil (take place x)) ∙ ap (λ t. take place x ++ t) (sym ends) ∙ far.common

-- a log is a prefix of another one exactly where what they have in common is as long as the log
pub prefix-counted : (x y : List Entry) (n : ℕ) → n ≡ length (common_of x y) → n ≡ length x → IsPrefixOf x y
prefix-counted x y n count whole =
    let p = common-first x y in
    let all : p.rest ≡ [] =
    none p.rest (omega (arith, count, whole, ap length p.whole, length-append (common_of x y) p.rest)) in
    prefix-common x y (sym (append-nil (common_of x y)) ∙ ap (λ t. common_of x y ++ t) (sym all) ∙ sym p.whole)
  where
    none : (xs : List Entry) → length xs ≡ 0 → xs ≡ []
    none [] e = refl
    none (x ∷ xs) e = absurd (omega (arith, e))

pub counted-prefix : (x y : List Entry) (n : ℕ) → n ≡ length (common_of x y) → IsPrefixOf x y → n ≡ length x
counted-prefix x y n count p = count ∙ ap length (common-prefix x y p)

equal : (n m : ℕ) → IsTrue (n == m) → n ≡ m
equal n m h = grind (arith, nat_tests)

equal-test : (n m : ℕ) → n ≡ m → IsTrue (n == m)
equal-test n m h = grind (arith, nat_tests)

pub counted-to : (x y : List Entry) (n m : ℕ) → n ≡ length (common_of x y) → m ≡ length x → IsTrue (n == m)
    → IsPrefixOf x y
counted-to x y n m count whole h = prefix-counted x y n count (equal n m h ∙ whole)

pub counted-from : (x y : List Entry) (n m : ℕ) → n ≡ length (common_of x y) → m ≡ length x → IsPrefixOf x y
    → IsTrue (n == m)
counted-from x y n m count whole p = equal-test n m (counted-prefix x y n count p ∙ sym whole)

same-tests : (a b : Bool) → (a ≡ true → b ≡ true) → (b ≡ true → a ≡ true) → a ≡ b
same-tests true true f g = refl
same-tests true false f g = sym (f refl)
same-tests false true f g = g refl
same-tests false false f g = refl

pub counted-test : (x y : List Entry) (n m : ℕ) → n ≡ length (common_of x y) → m ≡ length x → (n == m) ≡ is_prefix x y
counted-test x y n m count whole =
    same-tests (n == m) (is_prefix x y) (λ h. is_prefix-from x y (counted-to x y n m count whole h))
    (λ h. counted-from x y n m count whole (is_prefix-to x y h))

-- the first entries of a front and a tail
pub take-both : (n : ℕ) (front tail : List Entry)
    → take (min n (length front)) front ++ take (n - length front) tail ≡ take n (front ++ tail)
take-both n front tail = by-place (place n (length front))
  where
    place : (a b : ℕ) → (a ≤ b) ⊎ (b ≤ a)
    place a b = grind arith

    by-place : (n ≤ length front) ⊎ (length front ≤ n)
        → take (min n (length front)) front ++ take (n - length front) tail ≡ take n (front ++ tail)
    by-place (inl h) =
        let none : n - length front ≡ 0 = omega (arith, h) in
        ap (λ t. t ++ take (n - length front) tail) (take_min n front)
        ∙ ap (λ (k : ℕ). take n front ++ take k tail) none
        ∙ append-nil (take n front)
        ∙ sym (take-append-le n front tail h)
    by-place (inr h) =
        let at : n ≡ length front + (n - length front) = omega (arith, h) in
        ap (λ t. t ++ take (n - length front) tail) (take_min n front ∙ take_all n front h)
        ∙ sym (take-append-add front tail (n - length front))
        ∙ ap (λ (k : ℕ). take k (front ++ tail)) (sym at)

pub drop-tail : (n : ℕ) (front tail : List Entry) → length front ≤ n
    → drop n (front ++ tail) ≡ drop (n - length front) tail
drop-tail n front tail h =
    let at : n ≡ length front + (n - length front) = omega (arith, h) in
    ap (λ (k : ℕ). drop k (front ++ tail)) at ∙ drop-append-add front tail (n - length front)

-- where a log ends without the rest of its tail
pub end-before-rest : (front tail run : List Entry) (entries sealed bytes position : ℕ)
    → IsLog front tail position → run ≡ tail → sealed ≡ length front → sealed ≤ entries
    → bytes ≡ end_of (take (length run - (entries - sealed)) (drop (entries - sealed) run))
    → bytes + end_of (take entries (front ++ tail)) ≡ position
end-before-rest front tail run entries sealed bytes position log same count within is =
    let rest : bytes ≡ end_of (drop entries (front ++ tail)) =
    is
    ∙ ap end_of (take_rest run (entries - sealed))
    ∙ ap (λ t. end_of (drop (entries - sealed) t)) same
    ∙ ap (λ (k : ℕ). end_of (drop (entries - k) tail)) count
    ∙ ap end_of (sym (drop-tail entries front tail (omega (arith, within, count)))) in
    omega (arith, rest, log.end, end_of-split entries (front ++ tail))

-- a log cut within its front, or within its tail
pub cut-log : (front tail : List Entry) (n position : ℕ) → IsLog front tail position → (p : ℕ)
    → p ≡ end_of (take n (front ++ tail)) → IsLog (take (min n (length front)) front) (take (n - length front) tail) p
cut-log front tail n position log p is = record {
  end = is ∙ ap end_of (sym (take-both n front tail));
  short = omega (arith, length-take (n - length front) tail, log.short);
}
