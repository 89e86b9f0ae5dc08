-- Sets of numbers.
use Rattle.std.proofs.Common.{◌≡◌, ◌<◌, ℕ, ◌||◌, Bool, true, false, refl, ap, sym, ◌∙◌, subst, cond}
use Rattle.std.specs.BTreeMap.{is_at}
use Rattle.std.specs.Ordering.{nat_cmp, is_eq, MatchOrdering}
use Rattle.std.specs.declared.cmp.Ordering.{Ordering}
use Rattle.std.specs.declared.cmp.Ordering.TheVariants.{Less, Equal, Greater}
use Rattle.std.proofs.lemmas.Cmp.{ranked}

no-yes : false ≡ true → ⊥
no-yes e = cc

pub same-number : (n k : ℕ) (test : Bool) → is_at (nat_cmp n) k ≡ test → test ≡ true → n ≡ k
same-number n k test is passes = by_equal (nat_cmp n k) (ranked n k (nat_cmp n k) refl) (is ∙ passes)
  where
    by_equal : (o : Ordering) → MatchOrdering o (n < k) (n ≡ k) (k < n) → is_eq o ≡ true → n ≡ k
    by_equal Less m e = absurd (no-yes e)
    by_equal Equal m e = m
    by_equal Greater m e = absurd (no-yes e)

flip-if : (a b : ℕ) (test : Bool) → is_at (nat_cmp b) a ≡ test → is_at (nat_cmp a) b ≡ false → test ≡ false
flip-if a b true is differs =
    let same = same-number b a true is refl in
    absurd (no-yes (sym (subst (λ (n : ℕ). is_at (nat_cmp n) b ≡ false) (sym same) differs)
    ∙ subst (λ (n : ℕ). is_at (nat_cmp b) n ≡ true) (sym same) is))
flip-if a b false is differs = refl

-- numbers differ both ways
pub flip-false : (a b : ℕ) → is_at (nat_cmp a) b ≡ false → is_at (nat_cmp b) a ≡ false
flip-false a b differs = flip-if a b (is_at (nat_cmp b) a) refl differs

-- what isn't there after one is added wasn't before, and isn't the one
pub record IsOut (at here : Bool) : Type 0 where
  pub other : at ≡ false
  pub before : here ≡ false

pub added-out : (at here after : Bool) → after ≡ cond at true here → after ≡ false → IsOut at here
added-out true here after is out = absurd (no-yes (sym out ∙ is))
added-out false here after is out = record { other = refl; before = sym is ∙ out }

pub or-false : (a b : Bool) → a ≡ false → b ≡ false → (a || b) ≡ false
or-false a b first second = ap (λ x. x || b) first ∙ second
