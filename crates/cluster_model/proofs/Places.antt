-- Lists by members of which one item changes.
use Rattle.std.proofs.Common.{ℕ, ◌≡◌, ◌≢◌, ◌<◌, ◌==◌, Bool, true, false, cond, List, length, slice_get, slice_set, Option, Some, None, option_map, refl, ◌∙◌, ap, sym, arith, inl, inr}
use Rattle.std.proofs.lemmas.Option.{slice_get-get_or, slice_get_cases, slice_get_within, slice_get_past}
use Rattle.std.proofs.lemmas.Bool.Decides.{nat_tests}
use Rattle.std.proofs.lemmas.List.{get_or-set_same, get_or-set_other}
use Rattle.std.proofs.Math.ListN.{length-set}
use Rattle.pat_base.specs.Changes.{changed_at, with_changed}

length-found : {A : Type 0} (xs : List A) (k : ℕ) (change : A → A) (found : Option A)
    → length (changed_at xs k change found) ≡ length xs
length-found xs k change None = refl
length-found xs k change (Some x) = length-set xs k (change x)

-- as many are left
pub length-changed : {A : Type 0} (xs : List A) (k : ℕ) (change : A → A) → length (with_changed xs k change) ≡ length xs
length-changed xs k change = length-found xs k change (slice_get xs k)

same-number : (m k : ℕ) → (m == k) ≡ true → m ≡ k
same-number m k e = grind (arith, nat_tests)

other-number : (m k : ℕ) → (m == k) ≡ false → m ≢ k
other-number m k e = grind (arith, nat_tests)

set-same : {A : Type 0} (xs : List A) (k : ℕ) (x : A) → k < length xs → slice_get (slice_set xs k x) k ≡ Some x
set-same xs k x small =
    slice_get-get_or (slice_set xs k x) k x (rw (length-set xs k x) small) ∙ ap Some (get_or-set_same xs k x x small)

set-other : {A : Type 0} (xs : List A) (k m : ℕ) (x : A) → m ≢ k → slice_get (slice_set xs k x) m ≡ slice_get xs m
set-other xs k m x other = elim (slice_get_cases xs m).1 [
  | inl found ↦ slice_get-get_or (slice_set xs k x) m x (rw (length-set xs k x) found.1)
      ∙ ap Some (get_or-set_other xs k m x x other) ∙ sym (slice_get-get_or xs m x found.1)
  | inr past ↦ slice_get_past (slice_set xs k x) m (rw (length-set xs k x) past.0) ∙ sym past.1
]

get-found : {A : Type 0} (xs : List A) (k m : ℕ) (change : A → A) (found : Option A) (same : Bool)
    → slice_get xs k ≡ found → (m == k) ≡ same
    → slice_get (changed_at xs k change found) m ≡ cond same (option_map change (slice_get xs m)) (slice_get xs m)
get-found xs k m change None true is e =
    let none : slice_get xs m ≡ None = ap (slice_get xs) (same-number m k e) ∙ is in
    none ∙ sym (ap (option_map change) none)
get-found xs k m change None false is e = refl
get-found xs k m change (Some x) true is e =
    let here : m ≡ k = same-number m k e in
    ap (slice_get (slice_set xs k (change x))) here ∙ set-same xs k (change x) (slice_get_within xs k x is)
    ∙ sym (ap (option_map change) (ap (slice_get xs) here ∙ is))
get-found xs k m change (Some x) false is e = set-other xs k m (change x) (other-number m k e)

-- what stands at a place then
pub get-changed : {A : Type 0} (xs : List A) (k m : ℕ) (change : A → A)
    → slice_get (with_changed xs k change) m ≡ cond (m == k) (option_map change (slice_get xs m)) (slice_get xs m)
get-changed xs k m change = get-found xs k m change (slice_get xs k) (m == k) refl refl

-- there is an item at each place within a list
pub there : {A : Type 0} (xs : List A) (m : ℕ) → m < length xs → (x : A) × (slice_get xs m ≡ Some x)
there xs m small =
    elim (slice_get_cases xs m).1 [ inl found ↦ (found.0, found.2) | inr past ↦ absurd (omega (arith, small, past.0)) ]

pub eq-self : (k : ℕ) → (k == k) ≡ true
eq-self k = grind (arith, nat_tests)

eq-other : (m k : ℕ) → m ≢ k → (m == k) ≡ false
eq-other m k other = grind (arith, nat_tests)

-- at the place that changes
pub get-here : {A : Type 0} (xs : List A) (k : ℕ) (change : A → A)
    → slice_get (with_changed xs k change) k ≡ option_map change (slice_get xs k)
get-here xs k change =
    get-changed xs k k change ∙ ap (λ b. cond b (option_map change (slice_get xs k)) (slice_get xs k)) (eq-self k)

-- and elsewhere
pub get-elsewhere : {A : Type 0} (xs : List A) (k m : ℕ) (change : A → A) → m ≢ k
    → slice_get (with_changed xs k change) m ≡ slice_get xs m
get-elsewhere xs k m change other = get-changed xs k m change
    ∙ ap (λ b. cond b (option_map change (slice_get xs m)) (slice_get xs m)) (eq-other m k other)
