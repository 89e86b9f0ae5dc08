-- Numbers as decimal digits.
use Rattle.std.specs.Prelude.{ℕ, ◌+◌, ◌-◌, ◌*◌, ◌^◌, ◌==◌, nat_lt, ◌&&◌, if◌then◌else◌, List, [], ◌∷◌, Option, Some, None, length}
use Rattle.std.specs.Char.{is_ascii_digit}
use Rattle.std.specs.Option.{option_and_then}

-- a number with one more digit, below 2 ^ 64
abbrev pub digit_on : ℕ → ℕ → Option ℕ
digit_on n b = if is_ascii_digit b && nat_lt (n * 10 + (b - 48)) (2 ^ 64) then Some (n * 10 + (b - 48)) else None

-- a number of digits, to be read on
abbrev pub digits_from : ℕ → List ℕ → Option ℕ
digits_from n [] = Some n
digits_from n (b ∷ bs) = option_and_then (λ m. digits_from m bs) (digit_on n b)

-- a number without a sign and without a leading zero, below 2 ^ 64
abbrev pub number : List ℕ → Option ℕ
number [] = None
number (b ∷ bs) = if (b == 48) && nat_lt 0 (length bs) then None else digits_from 0 (b ∷ bs)
