-- Priorities, their numbers and their text.
use Rattle.std.proofs.Common.{◌≡◌, ℕ, zero, suc, ℤ, pos, negsuc, neg_ℤ, ◌-ℤ◌, ◌≤◌, ◌<◌, ◌^◌, ◌==◌, ◌≤ℤ◌, nat_le, Bool, true, false, cond, List, [], ◌∷◌, Some, None, Ok, refl, ◌∙◌, ap, sym, subst, arith}
use Rattle.std.specs.Fmt.{decimal, signed_decimal}
use Rattle.std.specs.Option.{ok_or, option_and_then}
use Rattle.std.proofs.lemmas.Bool.{eqb-true, leb-true}
use Rattle.std.proofs.lemmas.Int.{ints}
use denote.Struct.Props.{props}
use Rattle.script_words.specs.Lines.{first_at}
use Rattle.script_words.specs.Numbers.{number}
use Rattle.member_options.specs.OptionReading.{no_number, priority_found, priority_in}
use Rattle.member_options.specs.Options.{is_default_priority}
use Rattle.member_options.specs.Priorities.{greatest_priority, unsaid_priority}
use Rattle.member_options.specs.Ranges.{from_zero_by, priority_from_zero, below_zero_by, priority_below_zero, default_priority}
use Rattle.member_options.specs.declared.ranges.Priority.{Priority}
use Rattle.script_words.proofs.NumberLaws.{number-is, number-decimal, first_at-append, first_at-decimal}
use Rattle.script_words.proofs.Outcomes.{some_is, none_is, ok_or-Ok, and_then-Some}
use Rattle.member_options.proofs.RangeLaws.{not_within}
use Rattle.script_words.proofs.WordLaws.{passed}

int_le-prop : (a b : ℤ) (x y : a ≤ℤ b) → x ≡ y
int_le-prop a b x y = let one : IsProp (a ≤ℤ b) = hlevel props in one x y

-- a priority is its number
pub same_priority : (a b : Priority) → a.number ≡ b.number → a ≡ b
same_priority a b e =
    subst
    (λ (z : ℤ). (lowest : negsuc 999 ≤ℤ z) (highest : z ≤ℤ pos 1000) →
    ◌≡◌ {A = Priority} a (record { number = z; lowest = lowest; highest = highest }))
    e
    (λ lowest highest. λ i. record {
      number = a.number;
      lowest = int_le-prop (negsuc 999) a.number a.lowest lowest i;
      highest = int_le-prop a.number (pos 1000) a.highest highest i;
    })
    b.lowest
    b.highest

few-from_zero : (n : ℕ) → pos n ≤ℤ pos 1000 → n ≤ greatest_priority
few-from_zero n h = omega (arith, ints)

few-below_zero : (less : ℕ) → negsuc 999 ≤ℤ negsuc less → suc less ≤ greatest_priority
few-below_zero less h = omega (arith, ints)

from-zero : (n : ℕ) (priority : Priority) (few : Bool) (is : nat_le n greatest_priority ≡ few)
    → priority.number ≡ pos n → from_zero_by n few is ≡ Some priority
unfolding from_zero_by
from-zero n priority true is e = ap Some (same_priority _ priority (sym e))
from-zero n priority false is e =
    absurd (not_within n greatest_priority is (few-from_zero n (subst (λ (z : ℤ). z ≤ℤ pos 1000) e priority.highest)))

pub priority_from_zero-Some : (n : ℕ) (priority : Priority) → priority.number ≡ pos n
    → priority_from_zero n ≡ Some priority
unfolding priority_from_zero
priority_from_zero-Some n priority e = from-zero n priority (nat_le n greatest_priority) refl e

below-zero : (less : ℕ) (priority : Priority) (few : Bool) (is : nat_le (suc less) greatest_priority ≡ few)
    → priority.number ≡ negsuc less → below_zero_by less few is ≡ Some priority
unfolding below_zero_by
below-zero less priority true is e = ap Some (same_priority _ priority (sym e))
below-zero less priority false is e =
    absurd (not_within (suc less) greatest_priority is
    (few-below_zero less (subst (λ (z : ℤ). negsuc 999 ≤ℤ z) e priority.lowest)))

pub priority_below_zero-Some : (less : ℕ) (priority : Priority) → priority.number ≡ negsuc less
    → priority_below_zero (suc less) ≡ Some priority
unfolding priority_below_zero
priority_below_zero-Some less priority e = below-zero less priority (nat_le (suc less) greatest_priority) refl e

sized : (n : ℕ) (priority : Priority) → 1 ≤ n → priority.number ≡ neg_ℤ (pos n) → priority_below_zero n ≡ Some priority
sized zero priority some e = absurd (omega (arith, some))
sized (suc less) priority some e = priority_below_zero-Some less priority e

-- the same, as the number is made
pub priority_below_zero-is : (n : ℕ) (priority : Priority) → 1 ≤ n → priority.number ≡ pos 0 -ℤ pos n
    → priority_below_zero n ≡ Some priority
priority_below_zero-is n priority some e = sized n priority some (e ∙ omega (arith, ints))

-- other numbers are none
none-from-zero : (n : ℕ) (few : Bool) (is : nat_le n greatest_priority ≡ few) → (n ≤ greatest_priority → ⊥)
    → from_zero_by n few is ≡ None
unfolding from_zero_by
none-from-zero n true is out = absurd (out (leb-true n greatest_priority is))
none-from-zero n false is out = refl

pub priority_from_zero-None : (n : ℕ) → (n ≤ greatest_priority → ⊥) → priority_from_zero n ≡ None
unfolding priority_from_zero
priority_from_zero-None n out = none-from-zero n (nat_le n greatest_priority) refl out

none-below-zero : (less : ℕ) (few : Bool) (is : nat_le (suc less) greatest_priority ≡ few)
    → (suc less ≤ greatest_priority → ⊥) → below_zero_by less few is ≡ None
unfolding below_zero_by
none-below-zero less true is out = absurd (out (leb-true (suc less) greatest_priority is))
none-below-zero less false is out = refl

pub priority_below_zero-None : (n : ℕ) → (1 ≤ n → n ≤ greatest_priority → ⊥) → priority_below_zero n ≡ None
unfolding priority_below_zero
priority_below_zero-None zero out = refl
priority_below_zero-None (suc less) out =
    none-below-zero less (nat_le (suc less) greatest_priority) refl (out (omega arith))

-- what is read is spelled so
number-from-zero : (n : ℕ) (priority : Priority) (few : Bool) (is : nat_le n greatest_priority ≡ few)
    → from_zero_by n few is ≡ Some priority → priority.number ≡ pos n
unfolding from_zero_by
number-from-zero n priority true is e = ap (λ (p : Priority). p.number) (sym (some_is _ priority e))
number-from-zero n priority false is e = absurd (none_is priority e)

text-from-zero : (n : ℕ) (priority : Priority) → priority_from_zero n ≡ Some priority
    → signed_decimal priority.number ≡ decimal n
unfolding priority_from_zero
text-from-zero n priority e = ap signed_decimal (number-from-zero n priority (nat_le n greatest_priority) refl e)

number-below-zero : (less : ℕ) (priority : Priority) (few : Bool) (is : nat_le (suc less) greatest_priority ≡ few)
    → below_zero_by less few is ≡ Some priority → priority.number ≡ negsuc less
unfolding below_zero_by
number-below-zero less priority true is e = ap (λ (p : Priority). p.number) (sym (some_is _ priority e))
number-below-zero less priority false is e = absurd (none_is priority e)

text-below-zero : (n : ℕ) (priority : Priority) → priority_below_zero n ≡ Some priority
    → signed_decimal priority.number ≡ 45 ∷ decimal n
unfolding priority_below_zero
text-below-zero zero priority e = absurd (none_is priority e)
text-below-zero (suc less) priority e =
    ap signed_decimal (number-below-zero less priority (nat_le (suc less) greatest_priority) refl e)

text-found : (b : ℕ) (bs : List ℕ) (priority : Priority) (t : Bool) → (b == 45) ≡ t
    → cond t (option_and_then priority_below_zero (number bs)) (option_and_then priority_from_zero (number (b ∷ bs)))
    ≡ Some priority
    → signed_decimal priority.number ≡ b ∷ bs
text-found b bs priority true is e =
    let p = and_then-Some priority_below_zero (number bs) priority e in
    text-below-zero p.0 priority p.2 ∙ ap (λ t. 45 ∷ t) (sym (number-is bs p.0 p.1))
    ∙ ap (λ c. c ∷ bs) (sym (eqb-true b 45 is))
text-found b bs priority false is e =
    let p = and_then-Some priority_from_zero (number (b ∷ bs)) priority e in
    text-from-zero p.0 priority p.2 ∙ sym (number-is (b ∷ bs) p.0 p.1)

found-text : (value : List ℕ) (priority : Priority) → priority_found value ≡ Some priority
    → signed_decimal priority.number ≡ value
found-text [] priority e = absurd (none_is priority e)
found-text (b ∷ bs) priority e = text-found b bs priority (b == 45) refl e

pub priority_in-Ok : (value : List ℕ) (priority : Priority) → priority_in value ≡ Ok priority
    → signed_decimal priority.number ≡ value
priority_in-Ok value priority e =
    found-text value priority (ok_or-Ok (priority_found value) (no_number value) priority e)

-- and is read again
pub fits-from-zero : (n : ℕ) → pos n ≤ℤ pos 1000 → n < 2 ^ 64
fits-from-zero n h = omega (arith, few-from_zero n h)

pub fits-below-zero : (less : ℕ) → negsuc 999 ≤ℤ negsuc less → suc less < 2 ^ 64
fits-below-zero less h = omega (arith, few-below_zero less h)

found-from-zero : (ds : List ℕ) (n : ℕ) → number ds ≡ Some n → first_at 45 ds ≡ None
    → priority_found ds ≡ priority_from_zero n
found-from-zero [] n e none = absurd (none_is n e)
found-from-zero (b ∷ bs) n e none =
    let p = passed (b == 45) (first_at 45 bs) none in
    rw (p.0, e) refl

found-again : (priority : Priority) (z : ℤ) → priority.number ≡ z → negsuc 999 ≤ℤ z → z ≤ℤ pos 1000
    → priority_found (signed_decimal z) ≡ Some priority
found-again priority (pos n) is low high =
    found-from-zero (decimal n) n (number-decimal n (fits-from-zero n high))
    (first_at-decimal 45 n (omega arith) (fits-from-zero n high))
    ∙ priority_from_zero-Some n priority is
found-again priority (negsuc less) is low high =
    ap (option_and_then priority_below_zero) (number-decimal (suc less) (fits-below-zero less low))
    ∙ priority_below_zero-Some less priority is

pub priority_in-again : (priority : Priority) → priority_in (signed_decimal priority.number) ≡ Ok priority
priority_in-again priority =
    ap (λ o. ok_or o (no_number (signed_decimal priority.number)))
    (found-again priority priority.number refl priority.lowest priority.highest)

no-blank : (z : ℤ) → negsuc 999 ≤ℤ z → z ≤ℤ pos 1000 → first_at 32 (signed_decimal z) ≡ None
no-blank (pos n) low high = first_at-decimal 32 n (omega arith) (fits-from-zero n high)
no-blank (negsuc less) low high = first_at-append 32 (45 ∷ []) (decimal (suc less)) refl
    (first_at-decimal 32 (suc less) (omega arith) (fits-below-zero less low))

pub first_at-priority : (priority : Priority) → first_at 32 (signed_decimal priority.number) ≡ None
first_at-priority priority = no-blank priority.number priority.lowest priority.highest

-- the default is known by its number
number-is-default : (z : ℤ) → is_default_priority z ≡ true → pos unsaid_priority ≡ z
number-is-default (pos n) e = ap pos (sym (eqb-true n unsaid_priority e))
number-is-default (negsuc less) e = cc

pub default-number : default_priority.number ≡ pos unsaid_priority
unfolding default_priority
default-number = refl

pub default-is : (priority : Priority) → is_default_priority priority.number ≡ true → default_priority ≡ priority
unfolding default_priority
default-is priority e = same_priority _ priority (number-is-default priority.number e)
