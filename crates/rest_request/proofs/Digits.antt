-- Decimal digits as numbers that are capped.
use Rattle.std.proofs.Common.{◌≡◌, ℕ, ◌+◌, ◌*◌, ◌<◌, min, List, length, take, get_or, arith}
use Rattle.std.specs.Char.{digit_value}
use Rattle.std.specs.Str.Parse.{digits_value}
use Rattle.std.proofs.lemmas.Int.Digits.{digits_value_more}

-- one more digit
pub capped-more : (digits : List ℕ) (at limit number : ℕ) → at < length digits
    → number ≡ min (digits_value 10 (take at digits)) limit
    → min (number * 10 + digit_value (get_or digits at 0)) limit ≡ min (digits_value 10 (take (at + 1) digits)) limit
capped-more digits at limit number within is = rw (digits_value_more 10 digits at within) (omega (arith, is))
