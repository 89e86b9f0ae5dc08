-- Members in and out of a set of 16 bits.
use Rattle.std.proofs.Common.{◌≡◌, ◌≢◌, ℕ, ◌<◌, ◌≤◌, ◌*◌, ◌-◌, ◌%◌, ◌^◌, min, arith, bit_and, w16, sym, ◌∙◌, ap, inl, inr, Option, Some, None, IfSome}
use Rattle.std.specs.Int.{bit_at, bit_not}
use Rattle.std.proofs.lemmas.Bool.{cases_lt}
use Rattle.std.proofs.lemmas.Nat.{and_le_l}
use Rattle.std.proofs.lemmas.Nat.Bits.{bit_at-lt, bit_at_and, bit_at_not, bit_at_clear_other, bit_at_above, same_from_bits}
use Rattle.pat_base.specs.declared.member_id.MemberId.{MemberId}

-- taking one member out leaves the others
pub clear_other : (n k : ℕ) → n < 2 ^ 16 → k < 16 → (i : ℕ) → i ≢ k
    → bit_at (bit_and n (bit_not w16 (1 * 2 ^ k % 2 ^ 16))) i ≡ bit_at n i
clear_other n k small within i other =
    let mask : ℕ = bit_not w16 (1 * 2 ^ k % 2 ^ 16) in
    elim (cases_lt i 16) [
      | inl lt ↦ bit_at_clear_other w16 n k within i lt other
      | inr ge ↦
          bit_at_above (bit_and n mask) 16 i (omega (arith, and_le_l n mask)) ge ∙ sym (bit_at_above n 16 i small ge)
    ]

-- the members of one set that aren't in the other
min-not : (x y : ℕ) → x < 2 → y < 2 → min x (1 - y) ≡ x - y
min-not x y one other = omega arith

pub bit_at-difference : (n m : ℕ) → n < 2 ^ 16 → m < 2 ^ 16 → (k : ℕ)
    → bit_at (bit_and n (bit_not w16 m)) k ≡ bit_at n k - bit_at m k
bit_at-difference n m small other k =
    elim (cases_lt k 16) [
      | inl lt ↦
          bit_at_and n (bit_not w16 m) k ∙ ap (λ t. min (bit_at n k) t) (bit_at_not w16 m k other lt)
          ∙ min-not (bit_at n k) (bit_at m k) (bit_at-lt n k) (bit_at-lt m k)
      | inr ge ↦
          let both = bit_at_above (bit_and n (bit_not w16 m)) 16 k (omega (arith, and_le_l n (bit_not w16 m))) ge in
          let one = bit_at_above n 16 k small ge in
          omega (arith, both, one)
    ]

-- a set without one of its members is less as a number
pub clear_less : (n m k : ℕ) → bit_at (bit_and n m) k ≡ 0 → bit_at n k ≡ 1 → bit_and n m < n
clear_less n m k out is =
    let le : bit_and n m ≤ n = and_le_l n m in
    let other : bit_and n m ≢ n = λ e. differ (bit_at (bit_and n m) k) (bit_at n k) out is (ap (λ t. bit_at t k) e) in
    omega arith
  where
    differ : (a b : ℕ) → a ≡ 0 → b ≡ 1 → a ≡ b → ⊥
    differ a b p q r = omega arith

min-le : (a b : ℕ) → min a b ≡ a → a ≤ b
min-le a b e = omega arith

pub within_both : (a b : ℕ) → bit_and a b ≡ a → (k : ℕ) → bit_at a k ≤ bit_at b k
within_both a b e k = min-le (bit_at a k) (bit_at b k) (sym (bit_at_and a b k) ∙ ap (λ t. bit_at t k) e)

pub both_within : (a b : ℕ) → ((k : ℕ) → bit_at a k ≤ bit_at b k) → bit_and a b ≡ a
both_within a b h = same_from_bits (bit_and a b) a (λ k. bit_at_and a b k ∙ smaller (bit_at a k) (bit_at b k) (h k))
  where
    smaller : (x y : ℕ) → x ≤ y → min x y ≡ x
    smaller x y h = omega arith

pub first-inside : (r : Option MemberId) (n z : ℕ) → IfSome r (λ m. m.number ≡ z) → bit_at n z ≡ 1
    → IfSome r (λ m. bit_at n m.number ≡ 1)
first-inside None n z h is = tt
first-inside (Some m) n z h is = ap (bit_at n) h ∙ is

pub first-before : (r : Option MemberId) (n z : ℕ) → IfSome r (λ m. m.number ≡ z)
    → ((k : ℕ) → k < z → bit_at n k ≡ 0) → IfSome r (λ m. (k : ℕ) → k < m.number → bit_at n k ≡ 0)
first-before None n z h is = tt
first-before (Some m) n z h is = λ k lt. is k (omega (arith, h))
