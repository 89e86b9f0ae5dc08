-- Where the logs of servers ended when their required lists last grew follows those lists and logs, action by action.
use Rattle.std.proofs.Common.{ℕ, ◌≡◌, ◌≤◌, ◌==◌, bit_and, Bool, true, false, if◌then◌else◌, List, [], ◌∷◌, Option, Some, None, option_map, slice_get, refl, ◌∙◌, ap, sym, subst, arith, inl, inr}
use Rattle.std.proofs.lemmas.Bool.Decides.{nat_tests}
use Rattle.std.specs.Int.{bit_at}
use Rattle.pat_base.specs.declared.member_set.MemberSet.{MemberSet}
use Rattle.pat_base.specs.declared.server_state.Required.{Required}
use Rattle.pat_base.specs.declared.server_state.Required.TheVariants as requireds
use Rattle.pat_base.specs.Changes.{with_changed}
use Rattle.pat_base.proofs.MemberBits.{both_within}
use Rattle.wal_model.specs.declared.entry.Entry.{Entry}
use Rattle.wal_model.specs.Log.{end_of}
use Rattle.pg_model.specs.Facts.{entries_of}
use Rattle.event_book.specs.declared.event.Event.{Event}
use Rattle.event_book.specs.declared.event.EventKind.{EventKind}
use Rattle.event_book.specs.declared.event.EventKind.TheVariants as kinds
use Rattle.event_book.specs.declared.event.ReplicationEvent.TheVariants as replications
use Rattle.event_book.specs.Logs.{Logs, entries_found}
use Rattle.event_book.specs.Functions.{set_members}
use Rattle.lease_model.proofs.Tools.{both, put-all}
use Rattle.cluster_model.proofs.Places.{get-elsewhere, get-here}
use Rattle.sync_order.specs.Grown.{grown_of, is_within, listed}
use Rattle.commit_actions.specs.Actions.{IsAllowed}
use Rattle.commit_actions.specs.Keys.{Confirmers, Nobody, All}
use Rattle.commit_actions.specs.Past.{Past, Setup, VolatileState, log_found, confirmers_in, confirmers_of, past_after, past_over, state_of}
use Rattle.commit_actions.specs.States.{State}
use Rattle.commit_law.specs.Noted.{AllFollow, AreNoted, Empties, Follows, Grows, Shrinks, Stays, lists}
use Rattle.commit_law.proofs.Noting.{noted-by}
use Rattle.commit_showing.specs.Books.{AllLeaveCommits, ChangeOnce, IsShown, Transition}
use Rattle.commit_showing.specs.Changes.{ChangeOrderOnce}
use Rattle.commit_showing.proofs.Fronts.{all-logs-aside, aside-logs}
use Rattle.commit_showing.proofs.Inside.{Seen, all-aside, aside-seen, seen_of}

-- ---- a list is set
-- a bit is 0 or 1
at-most : (a b : ℕ) → a ≤ 1 → ((a == 1) ≡ true → (b == 1) ≡ true) → a ≤ b
at-most a b small inside = by (a == 1) refl
  where
    is-one : (n : ℕ) → (n == 1) ≡ true → n ≡ 1
    is-one n e = grind (arith, nat_tests)

    not-one : (n : ℕ) → (n == 1) ≡ false → n ≤ 1 → n ≡ 0
    not-one n e small = grind (arith, nat_tests)

    by : (one : Bool) → (a == 1) ≡ one → a ≤ b
    by true e = omega (arith, is-one a e, is-one b (inside e))
    by false e = omega (arith, not-one a e small)

bit-small : (n i : ℕ) → bit_at n i ≤ 1
bit-small n i = omega arith

one-number : (m n : ℕ) → m ≡ n → (m == n) ≡ true
one-number m n e = grind (arith, nat_tests)

within-is : (one other : MemberSet) → ((n : ℕ) → set_members one n ≡ true → set_members other n ≡ true)
    → is_within one other ≡ true
within-is one other inside =
    one-number (bit_and one.bits other.bits) one.bits
    (both_within one.bits other.bits
    (λ k. at-most (bit_at one.bits k) (bit_at other.bits k) (bit-small one.bits k) (inside k)))

-- whom a list names, the law has it name
listed-is : (before : Required) (members : MemberSet)
    → ((n : ℕ) → set_members members n ≡ true → lists (confirmers_in before) n ≡ true) → (n : ℕ)
    → set_members members n ≡ true → set_members (listed before) n ≡ true
listed-is requireds.Nobody members inside n is = absurd (both (inside n is))
listed-is requireds.AnyOne members inside n is = absurd (both (inside n is))
listed-is (requireds.AtLeast number of) members inside n is = absurd (both (inside n is))
listed-is (requireds.All before) members inside n is = inside n is

not-nobody : (members : ℕ → Bool) → All members ≡ Nobody → ⊥
not-nobody members e = cc

names-by : (before : Required) (members : MemberSet) (log later : Option (List Entry)) (end was : ℕ) (within : Bool)
    → end ≡ end_of (entries_of log) → is_within members (listed before) ≡ within
    → Follows (confirmers_in before) (All (set_members members)) log later was (if within then was else end)
names-by before members log later end was true is e = Shrinks refl (not-nobody (set_members members))
names-by before members log later end was false is e =
    Grows (λ inside. both (sym e ∙ within-is members (listed before) (listed-is before members inside)))
    (not-nobody (set_members members)) (inl is)

sets-by : (found : Option Required) (required : Required) (log later : Option (List Entry)) (end was : ℕ)
    → end ≡ end_of (entries_of log)
    → Follows (confirmers_of found) (confirmers_of (option_map (λ (before : Required). required) found)) log later was
    (grown_of end was found required)
sets-by None required log later end was is = Empties refl
sets-by (Some before) requireds.Nobody log later end was is = Empties refl
sets-by (Some before) requireds.AnyOne log later end was is = Empties refl
sets-by (Some before) (requireds.AtLeast number of) log later end was is = Empties refl
sets-by (Some before) (requireds.All members) log later end was is =
    names-by before members log later end was (is_within members (listed before)) is refl

entries-same : (found : Option (Option (List Entry))) → entries_found found ≡ entries_of (log_found found)
entries-same None = refl
entries-same (Some log) = refl

-- ---- an event
abbrev Required_ : Past → ℕ → Confirmers
Required_ past m = confirmers_of (slice_get past.required m)

abbrev Log_ : Past → ℕ → Option (List Entry)
Log_ past m = log_found (slice_get past.logs.members m)

event-follows : (past : Past) (kind : EventKind) (later : ℕ → Option (List Entry)) (m : ℕ)
    → Follows (Required_ past m) (Required_ (past_after past kind) m) (Log_ past m) (later m) (past.grown m)
    ((past_after past kind).grown m)
event-follows past (kinds.Replication (replications.RequiredSet server required names)) later m =
    let k : ℕ = server.id.number in
    put-all past.grown k
    (grown_of (end_of (entries_found (slice_get past.logs.members k))) (past.grown k)
    (slice_get past.required k) required)
    (λ n new. Follows (Required_ past n)
    (confirmers_of (slice_get (with_changed past.required k (λ (before : Required). required)) n))
    (Log_ past n) (later n) (past.grown n) new)
    (subst (λ (o : Option Required). Follows (Required_ past k) (confirmers_of o) (Log_ past k) (later k) (past.grown k)
    (grown_of (end_of (entries_found (slice_get past.logs.members k))) (past.grown k)
    (slice_get past.required k) required))
    (sym (get-here past.required k (λ (before : Required). required)))
    (sets-by (slice_get past.required k) required (Log_ past k) (later k)
    (end_of (entries_found (slice_get past.logs.members k))) (past.grown k)
    (ap end_of (entries-same (slice_get past.logs.members k)))))
    (λ n other. Stays refl (ap confirmers_of (get-elsewhere past.required k n (λ (before : Required). required) other)))
    m
event-follows past (kinds.Replication _) later m = Stays refl refl
event-follows past _ later m = Stays refl refl

-- ---- the events of an action
-- from another log to begin with, that is the log behind
from-other : (before after : Confirmers) (log other later : Option (List Entry)) (old new : ℕ) → other ≡ later
    → Follows before after other later old new → Follows before after log later old new
from-other before after log other later old new same (Stays e list) = Stays e list
from-other before after log other later old new same (Empties is) = Empties is
from-other before after log other later old new same (Shrinks e some) = Shrinks e some
from-other before after log other later old new same (Grows more some (inl is)) =
    Grows more some (inr (is ∙ ap (λ (l : Option (List Entry)). end_of (entries_of l)) same))
from-other before after log other later old new same (Grows more some (inr is)) = Grows more some (inr is)

once-of : (events : List Event) → AllLeaveCommits events → ChangeOnce events
once-of [] leave = tt
once-of (event ∷ events) leave = inr leave.1

-- behind an event that leaves lists as they were
behind-aside : (past next : Past) (after : ℕ → Confirmers) (log later : Option (List Entry)) (m new : ℕ)
    → seen_of next ≡ seen_of past
    → Follows (Required_ next m) (after m) log later (next.grown m) new
    → Follows (Required_ past m) (after m) log later (past.grown m) new
behind-aside past next after log later m new same follows =
    subst (λ (seen : Seen). Follows (confirmers_of (slice_get seen.required m)) (after m) log later (seen.grown m) new)
    same follows

pub events-follow : (past : Past) (events : List Event) → ChangeOrderOnce events → ChangeOnce events → (m : ℕ)
    → Follows (Required_ past m) (Required_ (past_over past events) m) (Log_ past m)
    (Log_ (past_over past events) m) (past.grown m) ((past_over past events).grown m)
events-follow past [] order once m = Stays refl refl
events-follow past (event ∷ events) (inl order) once m =
    let next : Past = past_after past event.kind in
    let later : Past = past_over next events in
    elim once [
      | inl commits ↦
          behind-aside past next (Required_ later) (Log_ past m) (Log_ later m) m (later.grown m)
          (aside-seen past event.kind order.0)
          (subst (λ (l : Logs). Follows (Required_ next m) (Required_ later m) (log_found (slice_get l.members m))
          (Log_ later m) (next.grown m) (later.grown m))
          (aside-logs past.logs event.kind commits.0)
          (events-follow next events order.1 commits.1 m))
      | inr leave ↦
          behind-aside past next (Required_ later) (Log_ past m) (Log_ later m) m (later.grown m)
          (aside-seen past event.kind order.0)
          (from-other (Required_ next m) (Required_ later m) (Log_ past m) (Log_ next m) (Log_ later m)
          (next.grown m) (later.grown m)
          (ap (λ (l : Logs). log_found (slice_get l.members m)) (sym (all-logs-aside next events leave)))
          (events-follow next events order.1 (once-of events leave) m))
    ]
events-follow past (event ∷ events) (inr leave) once m =
    let next : Past = past_after past event.kind in
    let later : Past = past_over next events in
    subst (λ (seen : Seen). Follows (Required_ past m) (confirmers_of (slice_get seen.required m))
    (Log_ past m) (Log_ later m) (past.grown m) (seen.grown m))
    (sym (all-aside next events leave))
    (event-follows past event.kind (Log_ later) m)

-- what leaders noted reaches that behind each action
pub noted-behind : (setup : Setup) (past : Past) (volatile_states : ℕ → VolatileState) (transition : Transition)
    → IsAllowed (state_of setup past volatile_states) transition.action
    → IsShown setup past volatile_states transition → ChangeOnce transition.events → ChangeOrderOnce transition.events
    → AreNoted (state_of setup past volatile_states).members past.grown
    → AreNoted (state_of setup (past_over past transition.events) transition.volatile_states).members
    (past_over past transition.events).grown
noted-behind setup past volatile_states transition allowed shown once order noted =
    let later : Past = past_over past transition.events in
    let s : State = state_of setup past volatile_states in
    subst (λ (x : State). AreNoted x.members later.grown) (sym shown)
    (noted-by s transition.action allowed past.grown later.grown noted
    (subst (λ (x : State). AllFollow s.members x.members past.grown later.grown) shown
    (λ m. events-follow past transition.events order once m)))
