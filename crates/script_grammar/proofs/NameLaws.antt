-- Names among different names.
use Rattle.std.proofs.Common.{◌≡◌, ℕ, ◌+◌, ◌⊎◌, inl, inr, Bool, true, false, cond, List, [], ◌∷◌, ◌++◌, length, slice_get, Option, Some, None, refl, ◌∙◌, ap, sym, zero, suc, arith}
use Rattle.std.specs.Str.{bytes_eq}
use Rattle.std.proofs.lemmas.Slice.Eq.{bytes_eq-Decides}
use Rattle.pat_base.specs.Name.{name_bytes}
use Rattle.pat_base.specs.declared.name.Name.{Name}
use Rattle.pat_base.proofs.Names.{name_bytes-injective}
use Rattle.script_words.specs.Lines.{one_more}
use Rattle.script_grammar.specs.Members.{place_of}
use Rattle.script_model.specs.Script.{AreDifferent}
use Rattle.script_words.proofs.Outcomes.{some_is, none_is}

-- a name that has no place stands nowhere
none-step : (t : Bool) (m name : Name) (members : List Name) (o : Option ℕ) (i : ℕ)
    → bytes_eq (name_bytes m) (name_bytes name) ≡ t → ((k : ℕ) → o ≡ None → slice_get members k ≡ Some name → ⊥)
    → cond t (Some 0) (one_more o) ≡ None → slice_get (m ∷ members) i ≡ Some name → ⊥
none-step true m name members o i is rest e at = cc
none-step false m name members None zero is rest e at =
    let same : m ≡ name = some_is m name at in
    let t : bytes_eq (name_bytes m) (name_bytes name) ≡ true =
    (bytes_eq-Decides (name_bytes m) (name_bytes name)).1 (ap name_bytes same) in
    cc
none-step false m name members None (suc i) is rest e at = rest i refl at
none-step false m name members (Some k) i is rest e at = cc

pub place_of-None : (members : List Name) (name : Name) (i : ℕ) → place_of members name ≡ None
    → slice_get members i ≡ Some name → ⊥
place_of-None [] name i e at = cc
place_of-None (m ∷ members) name i e at =
    none-step (bytes_eq (name_bytes m) (name_bytes name)) m name members (place_of members name) i refl
    (λ k h. place_of-None members name k h) e at

some-step : (t : Bool) (m name : Name) (members : List Name) (o : Option ℕ) (i : ℕ)
    → bytes_eq (name_bytes m) (name_bytes name) ≡ t → ((k : ℕ) → o ≡ Some k → slice_get members k ≡ Some name)
    → cond t (Some 0) (one_more o) ≡ Some i → slice_get (m ∷ members) i ≡ Some name
some-step true m name members o i is rest e =
    let z : i ≡ 0 = sym (some_is 0 i e) in
    rw z (ap Some (name_bytes-injective m name ((bytes_eq-Decides (name_bytes m) (name_bytes name)).0 is)))
some-step false m name members None i is rest e = absurd (none_is i e)
some-step false m name members (Some k) i is rest e =
    let z : i ≡ suc k = omega (arith, some_is (k + 1) i e) in
    rw z (rest k refl)

-- a name stands at its place
pub place_of-Some : (members : List Name) (name : Name) (i : ℕ) → place_of members name ≡ Some i
    → slice_get members i ≡ Some name
place_of-Some [] name i e = absurd (none_is i e)
place_of-Some (m ∷ members) name i e =
    some-step (bytes_eq (name_bytes m) (name_bytes name)) m name members (place_of members name) i refl
    (λ k h. place_of-Some members name k h) e

pub slice_get-push : {X : Type 0} (xs : List X) (y x : X) (i : ℕ) → slice_get (xs ++ y ∷ []) i ≡ Some x
    → (slice_get xs i ≡ Some x) ⊎ ((i ≡ length xs) × (y ≡ x))
slice_get-push [] y x zero e = inr (refl, some_is y x e)
slice_get-push [] y x (suc i) e = absurd (none_is x e)
slice_get-push (z ∷ xs) y x zero e = inl e
slice_get-push (z ∷ xs) y x (suc i) e =
    elim (slice_get-push xs y x i e) [ inl p ↦ inl p | inr p ↦ inr (omega (arith, p.0), p.1) ]

apart : (members : List Name) (name x : Name) (i : ℕ) → place_of members name ≡ None
    → slice_get members i ≡ Some x → name ≡ x → ⊥
apart members name x i none at same = place_of-None members name i none (at ∙ ap Some (sym same))

pub AreDifferent-push : (members : List Name) (name : Name) → AreDifferent members
    → place_of members name ≡ None → AreDifferent (members ++ name ∷ [])
AreDifferent-push members name h none i j x p q =
    elim (slice_get-push members name x i p) [
      | inl a ↦ elim (slice_get-push members name x j q) [
        | inl b ↦ h i j x a b
        | inr b ↦ absurd (apart members name x i none a b.1)
      ]
      | inr a ↦ elim (slice_get-push members name x j q) [
        | inl b ↦ absurd (apart members name x j none b a.1)
        | inr b ↦ a.0 ∙ sym b.0
      ]
    ]
