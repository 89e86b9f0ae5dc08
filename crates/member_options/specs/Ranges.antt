-- Numbers of options, with their ranges.
use Rattle.std.specs.Prelude.{ℕ, zero, suc, pos, negsuc, ◌≡◌, nat_le, Bool, true, false, Option, Some, None, refl}
use Rattle.std.proofs.lemmas.Bool.{leb-true}
use Rattle.member_options.specs.Margins.{longest_margin, unsaid_margin}
use Rattle.member_options.specs.Priorities.{greatest_priority, unsaid_priority, from_zero-within, below_zero-within}
use Rattle.member_options.specs.declared.ranges.Margin.{Margin}
use Rattle.member_options.specs.declared.ranges.Priority.{Priority}

-- a margin, by the test of its range
unfoldable pub margin_by : (number : ℕ) (few : Bool) → nat_le number longest_margin ≡ few → Option Margin
margin_by number true few = Some (record { seconds = number; most = leb-true number longest_margin few })
margin_by number false few = None

-- a margin of so many seconds: at most 15
unfoldable pub margin_of : ℕ → Option Margin
margin_of number = margin_by number (nat_le number longest_margin) refl

-- the margin that no option says
unfoldable pub default_margin : Margin
default_margin = record { seconds = unsaid_margin; most = leb-true unsaid_margin longest_margin refl }

-- a priority from 0 on, by the test of its range
unfoldable pub from_zero_by : (number : ℕ) (few : Bool) → nat_le number greatest_priority ≡ few → Option Priority
from_zero_by number true few = Some (record {
  number = pos number;
  lowest = (from_zero-within number few).0;
  highest = (from_zero-within number few).1;
})
from_zero_by number false few = None

-- the priority of this number: at most 1000
unfoldable pub priority_from_zero : ℕ → Option Priority
priority_from_zero number = from_zero_by number (nat_le number greatest_priority) refl

-- a priority below 0, by the test of its range
unfoldable pub below_zero_by : (less : ℕ) (few : Bool) → nat_le (suc less) greatest_priority ≡ few → Option Priority
below_zero_by less true few = Some
    (record { number = negsuc less; lowest = (below_zero-within less few).0; highest = (below_zero-within less few).1 })
below_zero_by less false few = None

-- the priority of this number with a minus sign: 1 to 1000
unfoldable pub priority_below_zero : ℕ → Option Priority
priority_below_zero zero = None
priority_below_zero (suc less) = below_zero_by less (nat_le (suc less) greatest_priority) refl

-- the priority that no option says
unfoldable pub default_priority : Priority
default_priority = record {
  number = pos unsaid_priority;
  lowest = (from_zero-within unsaid_priority refl).0;
  highest = (from_zero-within unsaid_priority refl).1;
}
