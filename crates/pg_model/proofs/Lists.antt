-- What is read from a list of which one element was set.
use Rattle.std.proofs.Common.{◌≡◌, ℕ, ◌<◌, List, [], ◌∷◌, length, zero, suc, Some, refl, ap, arith}
use Rattle.std.specs.Prelude.{slice_get, slice_set}

pub got-set_same : {X : Type 0} (xs : List X) (i : ℕ) (y : X) → i < length xs → slice_get (slice_set xs i y) i ≡ Some y
got-set_same [] i y h = absurd (omega (arith, h))
got-set_same (x ∷ xs) zero y h = refl
got-set_same (x ∷ xs) (suc i) y h = got-set_same xs i y (omega (arith, h))

pub got-set_other : {X : Type 0} (xs : List X) (i k : ℕ) (y : X) → (k ≡ i → ⊥)
    → slice_get (slice_set xs i y) k ≡ slice_get xs k
got-set_other [] i k y h = refl
got-set_other (x ∷ xs) zero zero y h = absurd (h refl)
got-set_other (x ∷ xs) zero (suc k) y h = refl
got-set_other (x ∷ xs) (suc i) zero y h = refl
got-set_other (x ∷ xs) (suc i) (suc k) y h = got-set_other xs i k y (λ e. h (ap suc e))
