-- Two servers of a cluster, in two parts of the list.
use Rattle.std.proofs.Common.{◌≡◌, ℕ, ◌-◌, Bool, List, [], ◌∷◌, ◌++◌, length, zero, suc, Option, Some, None, refl, sym, ap, subst, ◌∙◌, arith}
use Rattle.std.specs.Prelude.{slice_get, slice_set}
use Rattle.std.proofs.lemmas.List.{set-append_left, set-append_right}
use Rattle.std.proofs.lemmas.Option.{same_Some, slice_get_within}
use Rattle.pg_model.specs.declared.answers.Streamed.{Streamed}
use Rattle.pg_model.specs.Facts.{ServerFacts}
use Rattle.pg_model.specs.CatchingUp.{CatchesUp}
use Rattle.pg_cluster.specs.InStep.{CatchesUpAt}

got-append_left : {X : Type 0} (xs ys : List X) (k : ℕ) (x : X) → slice_get xs k ≡ Some x
    → slice_get (xs ++ ys) k ≡ Some x
got-append_left [] ys k x e = absurd (none x e)
  where
    none : {X : Type 0} (x : X) → None ≡ Some x → ⊥
    none x e = cc
got-append_left (y ∷ xs) ys zero x e = e
got-append_left (y ∷ xs) ys (suc k) x e = got-append_left xs ys k x e

got-append_right : {X : Type 0} (xs ys : List X) → slice_get (xs ++ ys) (length xs) ≡ slice_get ys 0
got-append_right [] ys = refl
got-append_right (x ∷ xs) ys = got-append_right xs ys

pub got-low : (xs low high : List ServerFacts) (place : ℕ) (x : ServerFacts) → xs ≡ low ++ high
    → slice_get low place ≡ Some x → slice_get xs place ≡ Some x
got-low xs low high place x whole found =
    ap (λ (t : List ServerFacts). slice_get t place) whole ∙ got-append_left low high place x found

pub got-high : (xs low high : List ServerFacts) (place : ℕ) (x : ServerFacts) → xs ≡ low ++ high
    → length low ≡ place → slice_get high 0 ≡ Some x → slice_get xs place ≡ Some x
got-high xs low high place x whole long found =
    ap (λ (t : List ServerFacts). slice_get t place) whole ∙ ap (slice_get (low ++ high)) (sym long)
    ∙ got-append_right low high ∙ found

hears : (xs ys : List ServerFacts) (place from most : ℕ) (s upstream s' : ServerFacts) (news : Option Streamed)
    (received : Bool) → slice_get xs place ≡ Some s → slice_get xs from ≡ Some upstream → ys ≡ slice_set xs place s'
    → CatchesUp s upstream most s' news received → CatchesUpAt xs ys place from most news received
hears xs ys place from most s upstream s' news received at_place at_from is caught_up = λ t u found found'.
    let first : s ≡ t = same_Some s t (sym at_place ∙ found) in
    let second : upstream ≡ u = same_Some upstream u (sym at_from ∙ found') in (
      s',
      is,
      subst (λ (a : ServerFacts). CatchesUp a u most s' news received) first
          (subst (λ (b : ServerFacts). CatchesUp s b most s' news received) second caught_up),
    )

-- the replica is in the first part, and its upstream begins the second
pub hears-low : (xs low high : List ServerFacts) (place from most : ℕ) (s upstream s' : ServerFacts)
    (news : Option Streamed) (received : Bool) → xs ≡ low ++ high → length low ≡ from
    → slice_get low place ≡ Some s → slice_get high 0 ≡ Some upstream → CatchesUp s upstream most s' news received
    → CatchesUpAt xs (slice_set low place s' ++ high) place from most news received
hears-low xs low high place from most s upstream s' news received whole long at_place at_from caught_up =
    hears xs (slice_set low place s' ++ high) place from most s upstream s' news received
    (got-low xs low high place s whole at_place) (got-high xs low high from upstream whole long at_from)
    (sym (ap (λ (t : List ServerFacts). slice_set t place s') whole
    ∙ set-append_left low high place s' (slice_get_within low place s at_place)))
    caught_up

-- the replica begins the second part, and its upstream is in the first
pub hears-high : (xs low high : List ServerFacts) (place from most : ℕ) (s upstream s' : ServerFacts)
    (news : Option Streamed) (received : Bool) → xs ≡ low ++ high → length low ≡ place
    → slice_get high 0 ≡ Some s → slice_get low from ≡ Some upstream → CatchesUp s upstream most s' news received
    → CatchesUpAt xs (low ++ slice_set high 0 s') place from most news received
hears-high xs low high place from most s upstream s' news received whole long at_place at_from caught_up =
    let none : place - place ≡ 0 = omega arith in
    hears xs (low ++ slice_set high 0 s') place from most s upstream s' news received
    (got-high xs low high place s whole long at_place) (got-low xs low high from upstream whole at_from)
    (sym (ap (λ (t : List ServerFacts). slice_set t place s') whole
    ∙ set-append_right low high place place s' long (omega arith) ∙ ap (λ k. low ++ slice_set high k s') none))
    caught_up
