-- A member is its number.
use Rattle.std.proofs.Common.{◌≡◌, ℕ, ◌<◌, nat_lt, Bool, true, false, Option, Some, arith, refl, ap, sym, subst}
use Rattle.std.proofs.lemmas.Bool.Decides.{nat_tests}
use Rattle.std.proofs.Math.Bridge.{le_prop}
use Rattle.pat_base.specs.MemberId.{member_by, member_of}
use Rattle.pat_base.specs.declared.member_id.MemberId.{MemberId}
use Rattle.pat_base.specs.declared.member_id.TheConstants.{MOST_MEMBERS}

-- members of the same number are one
pub number-injective : (a b : MemberId) → a.number ≡ b.number → a ≡ b
number-injective a b e =
    subst
    (λ (n : ℕ). (below : n < MOST_MEMBERS) → ◌≡◌ {A = MemberId} a (record { number = n; below = below }))
    e
    (λ below. ap (λ (x : a.number < MOST_MEMBERS). record { number = a.number; below = x }) (le_prop a.below below))
    b.below

found : (m : MemberId) (test : Bool) (is : nat_lt m.number MOST_MEMBERS ≡ test) → member_by m.number test is ≡ Some m
found m true is = ap Some (number-injective _ m refl)
found m false is = let below : m.number < MOST_MEMBERS = m.below in absurd (grind (arith, nat_tests))

-- a member is the one of its number
pub member_of-number : (m : MemberId) → member_of m.number ≡ Some m
member_of-number m = found m (nat_lt m.number MOST_MEMBERS) refl

some-is : (a b : MemberId) → ◌≡◌ {A = Option MemberId} (Some a) (Some b) → a ≡ b
some-is a b e = cc

numbered : (n : ℕ) (test : Bool) (is : nat_lt n MOST_MEMBERS ≡ test) (m : MemberId)
    → member_by n test is ≡ Some m → m.number ≡ n
numbered n true is m e = ap (λ (x : MemberId). x.number) (sym (some-is _ m e))
numbered n false is m e = cc

-- the member of a number has it
pub number-member_of : (n : ℕ) (m : MemberId) → member_of n ≡ Some m → m.number ≡ n
number-member_of n m e = numbered n (nat_lt n MOST_MEMBERS) refl m e
