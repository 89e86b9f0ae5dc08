-- How great a priority is.
use Rattle.std.specs.Prelude.{ℕ, suc, ◌≡◌, ◌≤ℤ◌, nat_le, true, pos, negsuc}
use Rattle.std.proofs.Common.{arith}
use Rattle.std.proofs.lemmas.Bool.{leb-true}
use Rattle.std.proofs.lemmas.Int.{ints}

-- the greatest priority, and the lowest one without its sign
abbrev pub greatest_priority : ℕ
greatest_priority = 1000

-- the priority that no option says
abbrev pub unsaid_priority : ℕ
unsaid_priority = 1

pub from_zero-within : (number : ℕ) → nat_le number greatest_priority ≡ true
    → (negsuc 999 ≤ℤ pos number) × (pos number ≤ℤ pos 1000)
from_zero-within number few =
    let most = leb-true number greatest_priority few in (omega (arith, ints), omega (arith, ints))

pub below_zero-within : (less : ℕ) → nat_le (suc less) greatest_priority ≡ true
    → (negsuc 999 ≤ℤ negsuc less) × (negsuc less ≤ℤ pos 1000)
below_zero-within less few =
    let most = leb-true (suc less) greatest_priority few in (omega (arith, ints), omega (arith, ints))
