-- Of a list of things in an order, those that fewer than so many come before.
use Rattle.std.proofs.Common.{◌≡◌, ℕ, zero, suc, ◌+◌, ◌<◌, ◌≤◌, Bool, true, false, List, [], ◌∷◌, length, get_or, count_by, refl, ap, ◌⊎◌, inl, inr, arith}
use Rattle.std.proofs.lemmas.List.Sums.{sum_by-cons}
use Rattle.sync_state.proofs.SetBits.{bit_where}

-- ---- counts
pub count-cons : {X : Type 0} (p : X → Bool) (x : X) (xs : List X)
    → count_by p (x ∷ xs) ≡ bit_where (p x) + count_by p xs
count-cons p x xs = sum_by-cons (λ y. bit_where (p y)) x xs

less-or-same : (t u : Bool) → (t ≡ true → u ≡ true) → bit_where t ≤ bit_where u
less-or-same true u h = let e : bit_where u ≡ 1 = ap bit_where (h refl) in omega (arith, e)
less-or-same false u h = omega arith

pub count-le : {X : Type 0} (p q : X → Bool) (xs : List X) → ((x : X) → p x ≡ true → q x ≡ true)
    → count_by p xs ≤ count_by q xs
count-le p q [] h = omega arith
count-le p q (x ∷ xs) h =
    let rest = count-le p q xs h in
    let here = less-or-same (p x) (q x) (h x) in
    omega (arith, count-cons p x xs, count-cons q x xs, rest, here)

-- one of them is counted by the second test alone
pub count-lt : {X : Type 0} (p q : X → Bool) (xs : List X) (i : ℕ) (d : X) → ((x : X) → p x ≡ true → q x ≡ true)
    → i < length xs → p (get_or xs i d) ≡ false → q (get_or xs i d) ≡ true → count_by p xs < count_by q xs
count-lt p q [] i d h within out is = absurd (omega (arith, within))
count-lt p q (x ∷ xs) zero d h within out is =
    let rest = count-le p q xs h in
    let here : bit_where (p x) ≡ 0 = ap bit_where out in
    let there : bit_where (q x) ≡ 1 = ap bit_where is in
    omega (arith, count-cons p x xs, count-cons q x xs, rest, here, there)
count-lt p q (x ∷ xs) (suc i) d h within out is =
    let rest = count-lt p q xs i d h (omega (arith, within)) out is in
    let here = less-or-same (p x) (q x) (h x) in
    omega (arith, count-cons p x xs, count-cons q x xs, rest, here)

-- what passes one of two tests is counted by one of them
pub count-either : {X : Type 0} (p q r : X → Bool) (xs : List X)
    → ((x : X) → p x ≡ true → (q x ≡ true) ⊎ (r x ≡ true)) → count_by p xs ≤ count_by q xs + count_by r xs
count-either p q r [] h = omega arith
count-either p q r (x ∷ xs) h =
    let rest = count-either p q r xs h in
    let here = parts (p x) (q x) (r x) (h x) in
    omega (arith, count-cons p x xs, count-cons q x xs, count-cons r x xs, rest, here)
  where
    parts : (t u v : Bool) → (t ≡ true → (u ≡ true) ⊎ (v ≡ true)) → bit_where t ≤ bit_where u + bit_where v
    parts false u v h = omega arith
    parts true u v h = elim (h refl) [
      | inl e ↦ let f : bit_where u ≡ 1 = ap bit_where e in omega (arith, f)
      | inr e ↦ let f : bit_where v ≡ 1 = ap bit_where e in omega (arith, f)
    ]

pub count-none : {X : Type 0} (p : X → Bool) (xs : List X) (d : X)
    → ((i : ℕ) → i < length xs → p (get_or xs i d) ≡ false) → count_by p xs ≡ 0
count-none p [] d h = refl
count-none p (x ∷ xs) d h =
    let rest = count-none p xs d (λ i within. h (suc i) (omega (arith, within))) in
    let here : bit_where (p x) ≡ 0 = ap bit_where (h 0 (omega arith)) in
    omega (arith, count-cons p x xs, rest, here)

-- no two places pass
abbrev pub IsSingle : {X : Type 0} → (X → Bool) → List X → X → Type 0
IsSingle p xs d =
    (i j : ℕ) → i < length xs → j < length xs → p (get_or xs i d) ≡ true → p (get_or xs j d) ≡ true → i ≡ j

false-if : (t : Bool) → (t ≡ true → ⊥) → t ≡ false
false-if true h = absurd (h refl)
false-if false h = refl

zero-suc : (i : ℕ) → 0 ≡ suc i → ⊥
zero-suc i e = omega (arith, e)

single-by : {X : Type 0} (p : X → Bool) (x : X) (xs : List X) (d : X) (t : Bool) → p x ≡ t
    → IsSingle p (x ∷ xs) d → count_by p xs ≤ 1 → count_by p (x ∷ xs) ≤ 1
single-by p x xs d true is h rest =
    let none = count-none p xs d
    (λ i within. false-if (p (get_or xs i d))
    (λ passing. zero-suc i (h 0 (suc i) (omega arith) (omega (arith, within)) is passing))) in
    let here : bit_where (p x) ≡ 1 = ap bit_where is in
    omega (arith, count-cons p x xs, none, here)
single-by p x xs d false is h rest =
    let here : bit_where (p x) ≡ 0 = ap bit_where is in
    omega (arith, count-cons p x xs, rest, here)

-- where no two places pass, at most one thing is counted
pub count-single : {X : Type 0} (p : X → Bool) (xs : List X) (d : X) → IsSingle p xs d → count_by p xs ≤ 1
count-single p [] d h = omega arith
count-single p (x ∷ xs) d h =
    single-by p x xs d (p x) refl h
    (count-single p xs d
    (λ i j within within' a b. let e = h (suc i) (suc j) (omega (arith, within)) (omega (arith, within')) a b in
    omega (arith, e)))
