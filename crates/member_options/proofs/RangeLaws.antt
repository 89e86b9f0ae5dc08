-- Margins and their numbers.
use Rattle.std.proofs.Common.{◌≡◌, ℕ, ◌≤◌, nat_le, Bool, true, false, Some, None, refl, ap, sym, subst, arith}
use Rattle.std.proofs.lemmas.Bool.{leb-true}
use Rattle.std.proofs.lemmas.Bool.Decides.{nat_tests}
use Rattle.std.proofs.Math.Bridge.{le_prop}
use Rattle.script_words.proofs.Outcomes.{some_is, none_is}
use Rattle.member_options.specs.Margins.{longest_margin, unsaid_margin}
use Rattle.member_options.specs.Ranges.{margin_by, margin_of, default_margin}
use Rattle.member_options.specs.declared.ranges.Margin.{Margin}

pub not_within : (a b : ℕ) → nat_le a b ≡ false → a ≤ b → ⊥
not_within a b is within = grind (arith, nat_tests)

-- a margin is its number
pub same_margin : (a b : Margin) → a.seconds ≡ b.seconds → a ≡ b
same_margin a b e =
    subst
    (λ (n : ℕ). (most : n ≤ longest_margin) → ◌≡◌ {A = Margin} a (record { seconds = n; most = most }))
    e
    (λ most. ap (λ (x : a.seconds ≤ longest_margin). record { seconds = a.seconds; most = x }) (le_prop a.most most))
    b.most

some-margin : (n : ℕ) (margin : Margin) (high : Bool) (most : nat_le n longest_margin ≡ high)
    → margin.seconds ≡ n → margin_by n high most ≡ Some margin
unfolding margin_by
some-margin n margin true most e = ap Some (same_margin _ margin (sym e))
some-margin n margin false most e =
    absurd (not_within n longest_margin most (subst (λ (k : ℕ). k ≤ longest_margin) e margin.most))

no-margin : (n : ℕ) (high : Bool) (most : nat_le n longest_margin ≡ high) → (n ≤ longest_margin → ⊥)
    → margin_by n high most ≡ None
unfolding margin_by
no-margin n true most out = absurd (out (leb-true n longest_margin most))
no-margin n false most out = refl

margin-seconds : (n : ℕ) (margin : Margin) (high : Bool) (most : nat_le n longest_margin ≡ high)
    → margin_by n high most ≡ Some margin → margin.seconds ≡ n
unfolding margin_by
margin-seconds n margin true most e = ap (λ (x : Margin). x.seconds) (sym (some_is _ margin e))
margin-seconds n margin false most e = absurd (none_is margin e)

pub margin_of-Some : (n : ℕ) (margin : Margin) → margin.seconds ≡ n → margin_of n ≡ Some margin
unfolding margin_of
margin_of-Some n margin e = some-margin n margin (nat_le n longest_margin) refl e

pub margin_of-None : (n : ℕ) → (n ≤ longest_margin → ⊥) → margin_of n ≡ None
unfolding margin_of
margin_of-None n out = no-margin n (nat_le n longest_margin) refl out

pub margin_of-seconds : (n : ℕ) (margin : Margin) → margin_of n ≡ Some margin → margin.seconds ≡ n
unfolding margin_of
margin_of-seconds n margin e = margin-seconds n margin (nat_le n longest_margin) refl e

pub default-seconds : default_margin.seconds ≡ unsaid_margin
unfolding default_margin
default-seconds = refl
