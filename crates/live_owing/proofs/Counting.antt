-- How often something comes to one who asks.
use Rattle.std.proofs.Common.{ℕ, ◌≡◌, ◌+◌, ◌≤◌, Bool, true, false, cond, nat_lt, List, [], ◌∷◌, arith, refl}
use Rattle.std.specs.Prelude.{if◌then◌else◌, Option, Some, None}
use Rattle.std.specs.List.{count_by}
use Rattle.std.proofs.lemmas.List.Sums.{sum_by-cons}
use Rattle.live_owing.specs.declared.waiting.Owner.{Owner}
use Rattle.live_owing.specs.declared.waiting.Owner.TheVariants as owners
use Rattle.live_owing.specs.declared.waiting.Debt.{Debt}
use Rattle.live_owing.specs.Courses.{answers_to, asks, is_same, is_to}
use Rattle.live_owing.specs.Owed.{Asked, Happening, Left, Replied, Ticked, given, is_client, most_waiting, owed_after, refusal, refusal_unless, waited_on}

-- how often a test passes: once, or not at all
abbrev pub once : Bool → ℕ
once test = cond test 1 0

-- how much is owed to this one
abbrev pub owed_to : Owner → Option Debt → ℕ
owed_to owner None = 0
owed_to owner (Some debt) = once (is_same owner debt.owner)

refused-by : (owner who : Owner) (waited : ℕ)
    → once (is_to owner (refusal (Some (record { owner = who; waited = waited })))) ≤ once (is_same owner who)
refused-by owner (owners.Client client) waited = omega arith
refused-by owner (owners.Line client) waited = omega arith
refused-by owner owners.Script waited = omega arith

refused : (owner : Owner) (owed : Option Debt) → once (is_to owner (refusal owed)) ≤ owed_to owner owed
refused owner None = omega arith
refused owner (Some debt) = refused-by owner debt.owner debt.waited

ticked-if : (owner : Owner) (client waited : ℕ) (on : Bool)
    → once (is_to owner (refusal_unless
    (if on then Some (record { owner = owners.Client client; waited = waited + 1 }) else None)
    (Some (record { owner = owners.Client client; waited = waited }))))
    + owed_to owner (if on then Some (record { owner = owners.Client client; waited = waited + 1 }) else None)
    ≤ once (is_same owner (owners.Client client))
ticked-if owner client waited true = omega arith
ticked-if owner client waited false = omega arith

ticked : (owner who : Owner) (waited : ℕ)
    → once (is_to owner (refusal_unless (waited_on who waited) (Some (record { owner = who; waited = waited }))))
    + owed_to owner (waited_on who waited) ≤ once (is_same owner who)
ticked owner (owners.Client client) waited = ticked-if owner client waited (nat_lt (waited + 1) most_waiting)
ticked owner (owners.Line client) waited = omega arith
ticked owner owners.Script waited = omega arith

left-if : (owner : Owner) (debt : Debt) (it : Bool)
    → owed_to owner (if it then None else Some debt) ≤ owed_to owner (Some debt)
left-if owner debt true = omega arith
left-if owner debt false = omega arith

one-more : (owner : Owner) (owed : Option Debt) (first : Happening)
    → once (is_to owner (given owed first)) + owed_to owner (owed_after owed first)
    ≤ once (asks owner first) + owed_to owner owed
one-more owner owed (Asked asker true) = omega arith
one-more owner owed (Asked asker false) = omega (arith, refused owner owed)
one-more owner None Replied = omega arith
one-more owner (Some debt) Replied = omega arith
one-more owner None Ticked = omega arith
one-more owner (Some debt) Ticked = omega (arith, ticked owner debt.owner debt.waited)
one-more owner None (Left client) = omega arith
one-more owner (Some debt) (Left client) = omega (arith, left-if owner debt (is_client client debt.owner))

pub no-more-than-asked : (owner : Owner) (owed : Option Debt) (course : List Happening)
    → answers_to owner owed course ≤ count_by (asks owner) course + owed_to owner owed
no-more-than-asked owner owed [] = omega arith
no-more-than-asked owner owed (first ∷ more) =
    omega (
      arith,
      sum_by-cons (λ h. once (asks owner h)) first more,
      one-more owner owed first,
      no-more-than-asked owner (owed_after owed first) more,
    )
