-- Digits as numbers, read from the left.
use Rattle.std.proofs.Common.{◌≡◌, ℕ, ◌+◌, ◌*◌, ◌^◌, ◌<◌, ◌≤◌, nat_lt, Bool, true, false, not, IsTrue, List, [], ◌∷◌, length, drop, get_or, arith, refl, Option, Some, None, cond, option_and_then}
use Rattle.std.specs.List.{list_all, position, position_or_len}
use Rattle.std.specs.Char.{digit_value, is_ascii_digit, is_ascii_hexdigit}
use Rattle.std.specs.Str.Parse.{digits_value, digits_value_after}
use Rattle.std.proofs.lemmas.Bool.Decides.{nat_tests}
use Rattle.std.proofs.Math.Nat.{pow-le-pow_right}
use Rattle.std.proofs.lemmas.List.{drop_more}
use Rattle.std.proofs.lemmas.List.Sums.{prefix_len-le-length, take_while-cons}
use Rattle.pat_base.specs.LsnText.{at_most}
use Rattle.pat_base.specs.SizeText.{is_no_digit, digits_of, size_number_of}

-- a front of the digits has been read
pub record HasReadHex (digits : List ℕ) (at value : ℕ) : Type 0 where
  pub value_is : digits_value_after 16 value (drop at digits) ≡ digits_value 16 digits
  pub small : value < 16 ^ at
  pub rest : IsTrue (list_all is_ascii_hexdigit (drop at digits))

pub record HasReadDecimal (digits : List ℕ) (at value : ℕ) : Type 0 where
  pub value_is : digits_value_after 10 value (drop at digits) ≡ digits_value 10 digits
  pub rest : IsTrue (list_all is_ascii_digit (drop at digits))

-- 8 hexadecimal digits fit 32 bits
pub hex_fits : (value at digit : ℕ) → value < 16 ^ at → at < 8 → digit < 16 → value * 16 + digit < 2 ^ 32
hex_fits value at digit small short below =
    let most : 16 ^ at ≤ 16 ^ 7 = pow-le-pow_right (omega arith) {j = 7} (omega (arith, short)) in
    omega (arith, small, most, below)

-- more digits make no smaller number
digits_value_after-le : (n : ℕ) (digits : List ℕ) → n ≤ digits_value_after 10 n digits
digits_value_after-le n [] = omega arith
digits_value_after-le n (c ∷ cs) = omega (arith, digits_value_after-le (n * 10 + digit_value c) cs)

over : (most number : ℕ) (some : Bool) → most < number
    → option_and_then (at_most most) (cond some (Some number) None) ≡ None
over most number true great = grind (arith, nat_tests)
over most number false great = refl

-- the number read so far is too great, so the whole is
pub too_great : (digits : List ℕ) (at value most : ℕ) → HasReadDecimal digits at value → at < length digits
    → most < value * 10 + digit_value (get_or digits at 0)
    → option_and_then (at_most most) (size_number_of digits) ≡ None
too_great digits at value most had within great =
    let is : digits_value_after 10 (value * 10 + digit_value (get_or digits at 0)) (drop (at + 1) digits)
    ≡ digits_value 10 digits = rw (drop_more digits at 0 within) at had.value_is in
    over most (digits_value 10 digits) (nat_lt 0 (length digits))
    (omega
    (arith, great, is, digits_value_after-le (value * 10 + digit_value (get_or digits at 0)) (drop (at + 1) digits)))

past : (b : Bool) (place length : ℕ) → nat_lt place length ≡ b
    → ◌≡◌ {A = Option ℕ} None (cond b (Some place) None) → length ≤ place
past true place length is e = absurd (clash e)
  where
    clash : ◌≡◌ {A = Option ℕ} None (Some place) → ⊥
    clash e = cc
past false place length is e = grind (arith, nat_tests)

pub digit_count-None : (bytes : List ℕ) → ◌≡◌ {A = Option ℕ} None (position is_no_digit bytes)
    → length bytes ≡ position_or_len is_no_digit bytes
digit_count-None bytes e =
    omega (
      arith,
      past (nat_lt (position_or_len is_no_digit bytes) (length bytes)) (position_or_len is_no_digit bytes)
          (length bytes) refl e,
      prefix_len-le-length (λ x. not (is_no_digit x)) bytes,
    )

with_first : (c : ℕ) (digits : List ℕ) (b : Bool) → is_ascii_digit c ≡ b → IsTrue (list_all is_ascii_digit digits)
    → IsTrue (list_all is_ascii_digit (cond (not (not b)) (c ∷ digits) []))
with_first c digits true is all = rw is all
with_first c digits false is all = refl

pub digits_of-digits : (bytes : List ℕ) → IsTrue (list_all is_ascii_digit (digits_of bytes))
digits_of-digits [] = refl
digits_of-digits (c ∷ cs) = rw (take_while-cons (λ x. not (is_no_digit x)) c cs)
    (with_first c (digits_of cs) (is_ascii_digit c) refl (digits_of-digits cs))
