-- Who is owed a reply, by all that has happened.
use Rattle.std.proofs.Common.{ℕ, ◌≡◌, ◌≢◌, ◌+◌, ◌-◌, ◌<◌, ◌⊎◌, Bool, true, false, cond, nat_lt, List, [], ◌∷◌, ◌++◌, arith, refl, sym, ap, subst, ◌∙◌, inl, inr}
use Rattle.std.specs.Prelude.{◌==◌, if◌then◌else◌, ◌↔◌, Option, Some, None}
use Rattle.std.specs.List.{All, count_by}
use Rattle.std.proofs.lemmas.Bool.Decides.{nat_tests}
use Rattle.std.proofs.lemmas.List.Elements.{All-nil, All-cons, All-head, All-tail}
use Rattle.std.proofs.lemmas.List.Sums.{sum_by-cons}
use Rattle.live_owing.specs.declared.waiting.Owner.{Owner}
use Rattle.live_owing.specs.declared.waiting.Owner.TheVariants as owners
use Rattle.live_owing.specs.declared.waiting.Debt.{Debt}
use Rattle.live_owing.specs.declared.waiting.Outcome.{Outcome}
use Rattle.live_owing.specs.declared.waiting.Outcome.TheVariants as outcomes
use Rattle.live_owing.specs.Courses.{GoesOnWaiting, IsWaiting, MayWait, is_tick, owed_behind}
use Rattle.live_owing.specs.Owed.{Asked, Happening, Left, Replied, Ticked, after_leaving, after_tick, begun, is_client, most_waiting, owed_after, refusal, refusal_unless, reply_due, waited_on}

-- for how long who waited for so many ticks has waited after so many more
abbrev pub elapsed : Owner → ℕ → ℕ → ℕ
elapsed (owners.Client client) waited more = waited + more
elapsed owner waited more = waited

abbrev pub owing : Owner → ℕ → Option Debt
owing owner waited = Some (record { owner = owner; waited = waited })

-- what a happening adds to the ticks
abbrev pub tick_of : Happening → ℕ
tick_of happening = cond (is_tick happening) 1 0

abbrev pub ticks_in : List Happening → ℕ
ticks_in course = count_by is_tick course

pub more-ticks : (first : Happening) (more : List Happening) → ticks_in (first ∷ more) ≡ tick_of first + ticks_in more
more-ticks first more = sum_by-cons tick_of first more

zero-more : (n : ℕ) → 0 + n ≡ n
zero-more n = omega arith

elapsed-none : (owner : Owner) (waited : ℕ) → elapsed owner waited 0 ≡ waited
elapsed-none (owners.Client client) waited = omega arith
elapsed-none owner waited = refl

elapsed-twice : (owner : Owner) (waited first more : ℕ)
    → elapsed owner (elapsed owner waited first) more ≡ elapsed owner waited (first + more)
elapsed-twice (owners.Client client) waited first more = omega arith
elapsed-twice owner waited first more = refl

-- a client may wait for so many ticks from where it stands
may-from : (owner : Owner) (waited first more : ℕ) → MayWait owner (elapsed owner waited first + more)
    → MayWait owner (waited + (first + more))
may-from (owners.Client client) waited first more may = omega (arith, may)
may-from owner waited first more may = tt

-- each way to be owed nothing, as the test goes
other-client : (client : ℕ) (owner : Owner) → owner ≢ owners.Client client → is_client client owner ≡ false
other-client client (owners.Client number) other = grind (arith, nat_tests, other)
other-client client owner other = refl

ticks-on : (client waited : ℕ) → waited + 1 < most_waiting
    → waited_on (owners.Client client) waited ≡ owing (owners.Client client) (waited + 1)
ticks-on client waited within =
    let on : nat_lt (waited + 1) most_waiting ≡ true = grind (arith, nat_tests, within) in
    ap (λ (b : Bool). if b then owing (owners.Client client) (waited + 1) else None) on

may-first : (owner : Owner) (waited first more all : ℕ) → all ≡ first + more → MayWait owner (waited + all)
    → MayWait owner (waited + first)
may-first (owners.Client client) waited first more all is may = omega (arith, is, may)
may-first owner waited first more all is may = tt

may-on : (owner : Owner) (waited first more all : ℕ) → all ≡ first + more → MayWait owner (waited + all)
    → MayWait owner (elapsed owner waited first + more)
may-on (owners.Client client) waited first more all is may = omega (arith, is, may)
may-on owner waited first more all is may = tt

-- who waits goes on waiting, over what leaves it waiting
still-one : (first : Happening) (owner : Owner) (waited : ℕ) → GoesOnWaiting owner first
    → MayWait owner (waited + tick_of first)
    → owed_after (owing owner waited) first ≡ owing owner (elapsed owner waited (tick_of first))
still-one (Asked asker true) owner waited goes may = ap (owing owner) (sym (elapsed-none owner waited))
still-one (Asked asker false) owner waited goes may = absurd goes
still-one Replied owner waited goes may = absurd goes
still-one Ticked (owners.Client client) waited goes may = ticks-on client waited may
still-one Ticked (owners.Line client) waited goes may = refl
still-one Ticked owners.Script waited goes may = refl
still-one (Left client) owner waited goes may =
    ap (λ (b : Bool). if b then None else owing owner waited) (other-client client owner goes)
    ∙ ap (owing owner) (sym (elapsed-none owner waited))

pub still : (owner : Owner) (waited : ℕ) (since : List Happening) → All (GoesOnWaiting owner) since
    → MayWait owner (waited + ticks_in since)
    → owed_behind (owing owner waited) since ≡ owing owner (elapsed owner waited (ticks_in since))
still owner waited [] goes may = ap (owing owner) (sym (elapsed-none owner waited))
still owner waited (first ∷ more) goes may =
    let is = more-ticks first more in
    ap (λ o. owed_behind o more)
    (still-one first owner waited (All-head (GoesOnWaiting owner) first more goes)
    (may-first owner waited (tick_of first) (ticks_in more) (ticks_in (first ∷ more)) is may))
    ∙ still owner (elapsed owner waited (tick_of first)) more (All-tail (GoesOnWaiting owner) first more goes)
    (may-on owner waited (tick_of first) (ticks_in more) (ticks_in (first ∷ more)) is may)
    ∙ ap (owing owner) (elapsed-twice owner waited (tick_of first) (ticks_in more))
    ∙ ap (λ n. owing owner (elapsed owner waited n)) (sym is)

owed_behind-append : (owed : Option Debt) (before since : List Happening)
    → owed_behind owed (before ++ since) ≡ owed_behind (owed_behind owed before) since
owed_behind-append owed [] since = refl
owed_behind-append owed (first ∷ before) since = owed_behind-append (owed_after owed first) before since

-- to who waits its reply is owed
pub waits-owed : (owner : Owner) (ticks : ℕ) (course : List Happening) → IsWaiting owner ticks course
    → owed_behind None course ≡ owing owner (elapsed owner 0 ticks)
waits-owed owner ticks course waits =
    let may : MayWait owner (0 + ticks_in waits.since) =
    subst (MayWait owner) (sym waits.passed ∙ sym (zero-more (ticks_in waits.since))) waits.in_time in
    ap (owed_behind None) waits.asked
    ∙ owed_behind-append None waits.before (Asked owner false ∷ waits.since)
    ∙ still owner 0 waits.since waits.goes_on may
    ∙ ap (λ n. owing owner (elapsed owner 0 n)) waits.passed

-- and the other way round: what is owed is owed to who waits

-- a client to whom something is owed hasn't waited for too long
abbrev pub InTime : Option Debt → Type 0
InTime None = Unit {0}
InTime (Some debt) = MayWait debt.owner debt.waited

in_time-if : (client waited : ℕ) (on : Bool) → nat_lt (waited + 1) most_waiting ≡ on
    → InTime (if on then owing (owners.Client client) (waited + 1) else None)
in_time-if client waited true is = grind (arith, nat_tests, is)
in_time-if client waited false is = tt

in_time-left : (debt : Debt) (is_it : Bool) → MayWait debt.owner debt.waited
    → InTime (if is_it then None else Some debt)
in_time-left debt true may = tt
in_time-left debt false may = may

in_time-begun : (owner : Owner) → MayWait owner 0
in_time-begun (owners.Client client) = omega arith
in_time-begun owner = tt

in_time-tick : (owner : Owner) (waited : ℕ) → MayWait owner waited → InTime (waited_on owner waited)
in_time-tick (owners.Client client) waited may = in_time-if client waited (nat_lt (waited + 1) most_waiting) refl
in_time-tick owner waited may = may

in_time-after : (first : Happening) (owed : Option Debt) → InTime owed → InTime (owed_after owed first)
in_time-after (Asked asker true) owed may = may
in_time-after (Asked asker false) owed may = in_time-begun asker
in_time-after Replied owed may = tt
in_time-after Ticked None may = tt
in_time-after Ticked (Some debt) may = in_time-tick debt.owner debt.waited may
in_time-after (Left client) None may = tt
in_time-after (Left client) (Some debt) may = in_time-left debt (is_client client debt.owner) may

-- this one asked just now, or it was owed a reply before and went on waiting
abbrev pub CameBy : Option Debt → Happening → Owner → ℕ → Type 0
CameBy owed first owner waited =
    ((first ≡ Asked owner false) × (waited ≡ 0))
    ⊎ ((start : ℕ) × (owed ≡ owing owner start) × GoesOnWaiting owner first
    × (waited ≡ elapsed owner start (tick_of first)))

same-owner : (debt : Debt) (owner : Owner) (waited : ℕ) → Some debt ≡ owing owner waited → debt.owner ≡ owner
same-owner debt owner waited is = cc

same-wait : (debt : Debt) (owner : Owner) (waited : ℕ) → Some debt ≡ owing owner waited → debt.waited ≡ waited
same-wait debt owner waited is = cc

nothing-owed : (owner : Owner) (waited : ℕ) → None ≡ owing owner waited → ⊥
nothing-owed owner waited is = cc

back-if : (client waited : ℕ) (on : Bool) (owner : Owner) (after : ℕ)
    → (if on then owing (owners.Client client) (waited + 1) else None) ≡ owing owner after
    → CameBy (owing (owners.Client client) waited) Ticked owner after
back-if client waited true owner after is =
    let who = same-owner _ owner after is in
    let long = same-wait _ owner after is in
    subst (λ o. CameBy (owing (owners.Client client) waited) Ticked o after) who
    (inr (waited, refl, tt, sym long))
back-if client waited false owner after is = absurd (nothing-owed owner after is)

not-client : (client : ℕ) (owner : Owner) → is_client client owner ≡ false → owner ≢ owners.Client client
not-client client (owners.Client number) isnt = grind (arith, nat_tests, isnt)
not-client client (owners.Line number) isnt = λ is. cc
not-client client owners.Script isnt = λ is. cc

back-left : (client : ℕ) (debt : Debt) (it : Bool) (owner : Owner) (after : ℕ) → is_client client debt.owner ≡ it
    → (if it then None else Some debt) ≡ owing owner after → CameBy (Some debt) (Left client) owner after
back-left client debt true owner after it is = absurd (nothing-owed owner after is)
back-left client debt false owner after it is =
    let who = same-owner debt owner after is in
    inr (
      after,
      is,
      subst (λ o. o ≢ owners.Client client) who (not-client client debt.owner it),
      sym (elapsed-none owner after),
    )

back-tick : (who : Owner) (waited : ℕ) (owner : Owner) (after : ℕ) → waited_on who waited ≡ owing owner after
    → CameBy (owing who waited) Ticked owner after
back-tick (owners.Client client) waited owner after is =
    back-if client waited (nat_lt (waited + 1) most_waiting) owner after is
back-tick (owners.Line client) waited owner after is =
    let who = same-owner _ owner after is in
    let long = same-wait _ owner after is in
    subst (λ o. CameBy (owing (owners.Line client) waited) Ticked o after) who (inr (waited, refl, tt, sym long))
back-tick owners.Script waited owner after is =
    let who = same-owner _ owner after is in
    let long = same-wait _ owner after is in
    subst (λ o. CameBy (owing owners.Script waited) Ticked o after) who (inr (waited, refl, tt, sym long))

back : (first : Happening) (owed : Option Debt) (owner : Owner) (after : ℕ)
    → owed_after owed first ≡ owing owner after → CameBy owed first owner after
back (Asked asker true) owed owner after is = inr (after, is, tt, sym (elapsed-none owner after))
back (Asked asker false) owed owner after is =
    inl
    (ap (λ o. Asked o false) (same-owner (begun asker) owner after is), sym (same-wait (begun asker) owner after is))
back Replied owed owner after is = absurd (nothing-owed owner after is)
back Ticked None owner after is = absurd (nothing-owed owner after is)
back Ticked (Some debt) owner after is = back-tick debt.owner debt.waited owner after is
back (Left client) None owner after is = absurd (nothing-owed owner after is)
back (Left client) (Some debt) owner after is =
    back-left client debt (is_client client debt.owner) owner after refl is

-- within all this it asked last and waits, or it was owed a reply before and went on waiting
abbrev pub WaitsBy : Option Debt → List Happening → Owner → ℕ → Type 0
WaitsBy owed course owner waited =
    ((ticks : ℕ) × IsWaiting owner ticks course × (waited ≡ elapsed owner 0 ticks))
    ⊎ ((start : ℕ) × (owed ≡ owing owner start) × All (GoesOnWaiting owner) course
    × (waited ≡ elapsed owner start (ticks_in course)) × MayWait owner (start + ticks_in course))

longer : (first : Happening) (course : List Happening) (owner : Owner) (ticks : ℕ) → IsWaiting owner ticks course
    → IsWaiting owner ticks (first ∷ course)
longer first course owner ticks waits = record {
  before = first ∷ waits.before;
  since = waits.since;
  asked = ap (λ t. first ∷ t) waits.asked;
  goes_on = waits.goes_on;
  passed = waits.passed;
  in_time = waits.in_time;
}

from-here : (first : Happening) (more : List Happening) (owed : Option Debt) (owner : Owner) (start waited : ℕ)
    → CameBy owed first owner start → All (GoesOnWaiting owner) more → waited ≡ elapsed owner start (ticks_in more)
    → MayWait owner (start + ticks_in more) → WaitsBy owed (first ∷ more) owner waited
from-here first more owed owner start waited (inl asks) goes long may =
    let sum : start + ticks_in more ≡ ticks_in more = omega (arith, asks.1) in
    inl (
      ticks_in more,
      record {
        before = [];
        since = more;
        asked = ap (λ h. h ∷ more) asks.0;
        goes_on = goes;
        passed = refl;
        in_time = subst (MayWait owner) sum may;
      },
      long ∙ ap (λ n. elapsed owner n (ticks_in more)) asks.1,
    )
from-here first more owed owner start waited (inr was) goes long may =
    let sum = sym (more-ticks first more) in
    let at : MayWait owner (elapsed owner was.0 (tick_of first) + ticks_in more) =
    subst (λ n. MayWait owner (n + ticks_in more)) was.3 may in
    inr (
      was.0,
      was.1,
      All-cons (GoesOnWaiting owner) first more was.2 goes,
      long ∙ ap (λ n. elapsed owner n (ticks_in more)) was.3
          ∙ elapsed-twice owner was.0 (tick_of first) (ticks_in more) ∙ ap (elapsed owner was.0) sum,
      subst (λ n. MayWait owner (was.0 + n)) sum (may-from owner was.0 (tick_of first) (ticks_in more) at),
    )

behind-first : (first : Happening) (more : List Happening) (owed : Option Debt) (owner : Owner) (waited : ℕ)
    → WaitsBy (owed_after owed first) more owner waited → WaitsBy owed (first ∷ more) owner waited
behind-first first more owed owner waited (inl found) =
    inl (found.0, longer first more owner found.0 found.1, found.2)
behind-first first more owed owner waited (inr was) =
    from-here first more owed owner was.0 waited (back first owed owner was.0 was.1) was.2 was.3 was.4

owed-waits : (course : List Happening) (owed : Option Debt) (owner : Owner) (waited : ℕ) → InTime owed
    → owed_behind owed course ≡ owing owner waited → WaitsBy owed course owner waited
owed-waits [] owed owner waited in_time is =
    let may : MayWait owner waited = subst InTime is in_time in
    let sum : waited ≡ waited + 0 = omega arith in
    inr
    (waited, is, All-nil (GoesOnWaiting owner), sym (elapsed-none owner waited), subst (MayWait owner) sum may)
owed-waits (first ∷ more) owed owner waited in_time is =
    behind-first first more owed owner waited
    (owed-waits more (owed_after owed first) owner waited (in_time-after first owed in_time) is)

from-nothing : (course : List Happening) (owner : Owner) (waited : ℕ) → WaitsBy None course owner waited
    → (ticks : ℕ) × IsWaiting owner ticks course × (waited ≡ elapsed owner 0 ticks)
from-nothing course owner waited (inl found) = found
from-nothing course owner waited (inr was) = absurd (nothing-owed owner was.0 was.1)

pub waits-by : (course : List Happening) (owner : Owner) (waited : ℕ)
    → owed_behind None course ≡ owing owner waited
    → (ticks : ℕ) × IsWaiting owner ticks course × (waited ≡ elapsed owner 0 ticks)
waits-by course owner waited is = from-nothing course owner waited (owed-waits course None owner waited tt is)

-- what comes of what is owed

to-owner : (owed : Option Debt) (owner : Owner) → reply_due owed ≡ Some (outcomes.Reply owner)
    → (waited : ℕ) × (owed ≡ owing owner waited)
to-owner None owner is = let no : ⊥ = cc in absurd no
to-owner (Some debt) owner is =
    let who : debt.owner ≡ owner = cc in (debt.waited, ap (λ o. owing o debt.waited) who)

pub replies-to : (course : List Happening) (owner : Owner)
    → (reply_due (owed_behind None course) ≡ Some (outcomes.Reply owner))
    ↔ ((ticks : ℕ) × IsWaiting owner ticks course)
replies-to course owner = (
  λ is.
      let owed = to-owner (owed_behind None course) owner is in
      let waits = waits-by course owner owed.0 owed.1 in (waits.0, waits.1),
  λ waits. ap reply_due (waits-owed owner waits.0 course waits.1),
)

to-client-by : (owner : Owner) (waited client : ℕ)
    → refusal (owing owner waited) ≡ Some (outcomes.NoResult client)
    → (after : ℕ) × (owing owner waited ≡ owing (owners.Client client) after)
to-client-by (owners.Client number) waited client is =
    let who : number ≡ client = cc in (waited, ap (λ c. owing (owners.Client c) waited) who)
to-client-by (owners.Line number) waited client is = let no : ⊥ = cc in absurd no
to-client-by owners.Script waited client is = let no : ⊥ = cc in absurd no

to-client : (owed : Option Debt) (client : ℕ) → refusal owed ≡ Some (outcomes.NoResult client)
    → (waited : ℕ) × (owed ≡ owing (owners.Client client) waited)
to-client None client is = let no : ⊥ = cc in absurd no
to-client (Some debt) client is = to-client-by debt.owner debt.waited client is

pub refuses : (course : List Happening) (client : ℕ)
    → (refusal (owed_behind None course) ≡ Some (outcomes.NoResult client))
    ↔ ((ticks : ℕ) × IsWaiting (owners.Client client) ticks course)
refuses course client = (
  λ is.
      let owed = to-client (owed_behind None course) client is in
      let waits = waits-by course (owners.Client client) owed.0 owed.1 in (waits.0, waits.1),
  λ waits. ap refusal (waits-owed (owners.Client client) waits.0 course waits.1),
)

-- a client is refused in a tick in which its time is over
runs-out-if : (client waited : ℕ) (on : Bool) (of : ℕ) → nat_lt (waited + 1) most_waiting ≡ on
    → refusal_unless (if on then owing (owners.Client client) (waited + 1) else None)
    (owing (owners.Client client) waited) ≡ Some (outcomes.NoResult of)
    → (owing (owners.Client client) waited ≡ owing (owners.Client of) waited) × (most_waiting - 1 < waited + 1)
runs-out-if client waited true of on is = let no : ⊥ = cc in absurd no
runs-out-if client waited false of on is =
    let who : client ≡ of = cc in
    (ap (λ c. owing (owners.Client c) waited) who, grind (arith, nat_tests, on))

runs-out-by : (owner : Owner) (waited of : ℕ)
    → refusal_unless (waited_on owner waited) (owing owner waited) ≡ Some (outcomes.NoResult of)
    → (owing owner waited ≡ owing (owners.Client of) waited) × (most_waiting - 1 < waited + 1)
runs-out-by (owners.Client client) waited of is =
    runs-out-if client waited (nat_lt (waited + 1) most_waiting) of refl is
runs-out-by (owners.Line client) waited of is = let no : ⊥ = cc in absurd no
runs-out-by owners.Script waited of is = let no : ⊥ = cc in absurd no

runs-out : (owed : Option Debt) (client : ℕ)
    → refusal_unless (after_tick owed) owed ≡ Some (outcomes.NoResult client)
    → (waited : ℕ) × (owed ≡ owing (owners.Client client) waited) × (most_waiting - 1 < waited + 1)
runs-out None client is = let no : ⊥ = cc in absurd no
runs-out (Some debt) client is =
    let out = runs-out-by debt.owner debt.waited client is in (debt.waited, out.0, out.1)

in-the-last-tick : (course : List Happening) (client ticks : ℕ) → IsWaiting (owners.Client client) ticks course
    → most_waiting - 1 < ticks + 1 → IsWaiting (owners.Client client) (most_waiting - 1) course
in-the-last-tick course client ticks waits late =
    let is : ticks ≡ most_waiting - 1 = omega (arith, waits.in_time, late) in
    subst (λ n. IsWaiting (owners.Client client) n course) is waits

pub runs-out-then : (course : List Happening) (client : ℕ)
    → (refusal_unless (after_tick (owed_behind None course)) (owed_behind None course)
    ≡ Some (outcomes.NoResult client)) ↔ IsWaiting (owners.Client client) (most_waiting - 1) course
runs-out-then course client = (
  λ is.
      let out = runs-out (owed_behind None course) client is in
      let waits = waits-by course (owners.Client client) out.0 out.1 in
      in-the-last-tick course client waits.0 waits.1 (omega (arith, out.2, waits.2)),
  λ waits.
      ap (λ o. refusal_unless (after_tick o) o) (waits-owed (owners.Client client) (most_waiting - 1) course waits),
)
