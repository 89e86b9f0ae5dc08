-- Every front of a book.
use Rattle.std.proofs.Common.{◌≡◌, ◌⊎◌, ℕ, Bool, true, List, [], ◌∷◌, ◌++◌, Option, Some, None, Contains, slice_get, refl, ◌∙◌, ap, sym, subst, inl, inr, append_assoc, append-nil}
use Rattle.pat_base.specs.declared.lsn.Lsn.{Lsn}
use Rattle.pat_base.specs.declared.server_state.Required.{Required}
use Rattle.wal_model.specs.declared.entry.Entry.{Entry}
use Rattle.wal_model.specs.Lacking.{has_serial}
use Rattle.wal_model.proofs.Lookups.{looked-up}
use Rattle.event_book.specs.declared.event.Event.{Event}
use Rattle.event_book.specs.declared.event.EventKind.{EventKind}
use Rattle.event_book.specs.declared.event.EventKind.TheVariants as kinds
use Rattle.event_book.specs.declared.event.ReplicationEvent.TheVariants as replications
use Rattle.event_book.specs.declared.event.ServerEvent.TheVariants as servers
use Rattle.event_book.specs.declared.event.WatchdogEvent.TheVariants as watchdogs
use Rattle.event_book.specs.Acknowledged.{acknowledged_after, acknowledged_of, acknowledged_in}
use Rattle.event_book.specs.Kept.{KeepsCommits, WritersHold}
use Rattle.event_book.specs.Logs.{Logs, entries_at, entries_found, logs_after, logs_over}
use Rattle.event_book.specs.Writers.{writes_after, writes_over}
use Rattle.lease_law.proofs.Runs.{no-cons, head-is, tail-is, cuts}
use Rattle.lease_model.proofs.Tools.{none-some, some-is}
use Rattle.commit_actions.specs.Actions.{IsAllowed}
use Rattle.commit_actions.specs.Carried.{IsSound}
use Rattle.commit_actions.specs.Past.{Setup, Past, past_after, past_over, first_past, VolatileState, log_found, confirmers_of, position_of, state_of}
use Rattle.commit_showing.specs.Books.{KeepsNow, AllHaveBytes, Transition, LeavesCommits, AllLeaveCommits, ChangeOnce, IsShown, AreAllowed, first_volatile_states, book_of}
use Rattle.commit_law.proofs.Runs.{inv-act, inv-first-state, sound-keeps}

-- what the claim reads of a past
record Seen : Type 0 where
  writes : ℕ → Bool
  logs : Logs
  acknowledged : List ℕ

abbrev seen_of : Past → Seen
seen_of past = record { writes = past.lease.writes; logs = past.logs; acknowledged = past.acknowledged }

abbrev Keeps : Seen → Type 0
Keeps seen = WritersHold seen.writes seen.logs seen.acknowledged

-- the entries of a log that is there
entries-are : (found : Option (Option (List Entry))) (entries : List Entry) → log_found found ≡ Some entries
    → entries_found found ≡ entries
entries-are None entries is = absurd (none-some entries is)
entries-are (Some None) entries is = absurd (none-some entries is)
entries-are (Some (Some log)) entries is = some-is log entries is

sound-seen : (setup : Setup) (past : Past) (volatile_states : ℕ → VolatileState)
    → IsSound (state_of setup past volatile_states) → Keeps (seen_of past)
sound-seen setup past volatile_states inv server writes commit told =
    let k = sound-keeps (state_of setup past volatile_states) inv in
    let log = k.logs server writes in
    let entry = k.kept server writes commit told log.entries log.is in
    subst (λ (l : List Entry). has_serial l commit ≡ true)
    (sym (entries-are (slice_get past.logs.members server) log.entries log.is))
    ((looked-up log.entries commit).1 (record {
      front = entry.front;
      entry = entry.entry;
      rest = entry.rest;
      whole = entry.whole;
      serial_is = entry.serial;
    }))

-- an event aside changes none of it
aside-writes : (w : ℕ → Bool) (k : EventKind) → LeavesCommits k → writes_after w k ≡ w
aside-writes w (kinds.Server (servers.Began server timeline)) a = absurd a
aside-writes w (kinds.Server (servers.Ended server)) a = absurd a
aside-writes w (kinds.Server (servers.Crashed server)) a = absurd a
aside-writes w (kinds.Server _) a = refl
aside-writes w (kinds.Watchdog (watchdogs.Reset member)) a = absurd a
aside-writes w (kinds.Watchdog _) a = refl
aside-writes w _ a = refl

pub aside-logs : (l : Logs) (k : EventKind) → LeavesCommits k → logs_after l k ≡ l
aside-logs l (kinds.Log happening) a = absurd a
aside-logs l _ a = refl

aside-shown : (t : List ℕ) (k : EventKind) → LeavesCommits k → acknowledged_after t k ≡ t
aside-shown t (kinds.Replication (replications.Acknowledged server commit)) a = absurd a
aside-shown t (kinds.Replication _) a = refl
aside-shown t _ a = refl

seen-eq : (w v : ℕ → Bool) (l m : Logs) (a b : List ℕ) → w ≡ v → l ≡ m → a ≡ b
    → ◌≡◌ {A = Seen} (record { writes = w; logs = l; acknowledged = a })
    (record { writes = v; logs = m; acknowledged = b })
seen-eq w v l m a b e f g = cc

aside-seen : (past : Past) (k : EventKind) → LeavesCommits k → seen_of (past_after past k) ≡ seen_of past
aside-seen past k a = seen-eq (writes_after past.lease.writes k) past.lease.writes
    (logs_after past.logs k) past.logs (acknowledged_after past.acknowledged k) past.acknowledged
    (aside-writes past.lease.writes k a) (aside-logs past.logs k a) (aside-shown past.acknowledged k a)

-- what the claim reads is as before where all events are aside
all-aside : (past : Past) (events : List Event) → AllLeaveCommits events
    → seen_of (past_over past events) ≡ seen_of past
all-aside past [] a = refl
all-aside past (event ∷ events) a = all-aside (past_after past event.kind) events a.1 ∙ aside-seen past event.kind a.0

pub all-logs-aside : (past : Past) (events : List Event) → AllLeaveCommits events
    → (past_over past events).logs ≡ past.logs
all-logs-aside past events a = ap (λ (seen : Seen). seen.logs) (all-aside past events a)

pub aside-front : (front back events : List Event) → front ++ back ≡ events → AllLeaveCommits events
    → AllLeaveCommits front
aside-front [] back events e a = tt
aside-front (x ∷ front) back [] e a = absurd (no-cons x (front ++ back) e)
aside-front (x ∷ front) back (y ∷ events) e a = (
  subst (λ (z : Event). LeavesCommits z.kind) (sym (head-is x y (front ++ back) events e)) a.0,
  aside-front front back events (tail-is x y (front ++ back) events e) a.1,
)

-- so commits stay kept
pub keeps-aside : (past : Past) (events : List Event) → AllLeaveCommits events → KeepsNow past
    → KeepsNow (past_over past events)
keeps-aside past events aside keeps = subst Keeps (sym (all-aside past events aside)) keeps

-- at a front of an action's events it is as before them or as after them
either : (past : Past) (front back events : List Event) → front ++ back ≡ events → ChangeOnce events
    → (seen_of (past_over past front) ≡ seen_of past)
    ⊎ (seen_of (past_over past front) ≡ seen_of (past_over past events))
either past [] back events e single = inl refl
either past (x ∷ front) back [] e single = absurd (no-cons x (front ++ back) e)
either past (x ∷ front) back (y ∷ events) e (inl single) =
    let head : x ≡ y = head-is x y (front ++ back) events e in
    let step : seen_of (past_after past x.kind) ≡ seen_of past =
    aside-seen past x.kind (subst (λ (z : Event). LeavesCommits z.kind) (sym head) single.0) in
    elim (either (past_after past x.kind) front back events (tail-is x y (front ++ back) events e) single.1) [
      | inl same ↦ inl (same ∙ step)
      | inr same ↦ inr (same ∙ ap (λ (z : Event). seen_of (past_over (past_after past z.kind) events)) head)
    ]
either past (x ∷ front) back (y ∷ events) e (inr aside) =
    let head : x ≡ y = head-is x y (front ++ back) events e in
    inr (all-aside (past_after past x.kind) front
    (aside-front front back events (tail-is x y (front ++ back) events e) aside)
    ∙ ap (λ (z : Event). seen_of (past_after past z.kind)) head ∙ sym (all-aside (past_after past y.kind) events aside))

pub past-append : (past : Past) (es more : List Event)
    → past_over past (es ++ more) ≡ past_over (past_over past es) more
past-append past [] more = refl
past-append past (e ∷ es) more = past-append (past_after past e.kind) es more

fronts-from : (setup : Setup) (past : Past) (volatile_states : ℕ → VolatileState)
    (transitions : List Transition) (front rest : List Event) → IsSound (state_of setup past volatile_states)
    → AreAllowed setup past volatile_states transitions → front ++ rest ≡ book_of transitions
    → Keeps (seen_of (past_over past front))
fronts-from setup past volatile_states [] [] rest inv allowed e = sound-seen setup past volatile_states inv
fronts-from setup past volatile_states [] (x ∷ front) rest inv allowed e = absurd (no-cons x (front ++ rest) e)
fronts-from setup past volatile_states (transition ∷ transitions) front rest inv allowed e =
    let after : IsSound (state_of setup (past_over past transition.events) transition.volatile_states) =
    subst IsSound (sym allowed.1) (inv-act (state_of setup past volatile_states) transition.action inv allowed.0) in
    elim (cuts front rest transition.events (book_of transitions) e) [
      | inl c ↦ elim (either past front c.0 transition.events c.1 allowed.2) [
        | inl same ↦ subst Keeps (sym same) (sound-seen setup past volatile_states inv)
        | inr same ↦ subst Keeps (sym same)
            (sound-seen setup (past_over past transition.events) transition.volatile_states after)
      ]
      | inr c ↦ subst (λ (p : Past). Keeps (seen_of p))
          (sym (ap (past_over past) c.1 ∙ past-append past transition.events c.0))
          (fronts-from setup
          (past_over past transition.events) transition.volatile_states transitions c.0 rest after allowed.3 c.2)
    ]

-- action by action: inside the next one
pub kept-inside : (setup : Setup) (past : Past) (volatile_states : ℕ → VolatileState)
    (transition : Transition) (front back : List Event) → IsSound (state_of setup past volatile_states)
    → IsAllowed (state_of setup past volatile_states) transition.action → IsShown setup past volatile_states transition
    → ChangeOnce transition.events → front ++ back ≡ transition.events → KeepsNow (past_over past front)
kept-inside setup past volatile_states transition front back inv can told single e =
    let after : IsSound (state_of setup (past_over past transition.events) transition.volatile_states) =
    subst IsSound (sym told) (inv-act (state_of setup past volatile_states) transition.action inv can) in
    elim (either past front back transition.events e single) [
      | inl same ↦ subst Keeps (sym same) (sound-seen setup past volatile_states inv)
      | inr same ↦
          subst Keeps (sym same) (sound-seen setup (past_over past transition.events) transition.volatile_states after)
    ]

pub kept-after : (setup : Setup) (past : Past) (volatile_states : ℕ → VolatileState) (transition : Transition)
    → IsSound (state_of setup past volatile_states) → IsAllowed (state_of setup past volatile_states) transition.action
    → IsShown setup past volatile_states transition
    → IsSound (state_of setup (past_over past transition.events) transition.volatile_states)
kept-after setup past volatile_states transition inv can told =
    subst IsSound (sym told) (inv-act (state_of setup past volatile_states) transition.action inv can)

-- the folds of the book are those of the past
pub past-writes : (past : Past) (book : List Event)
    → (past_over past book).lease.writes ≡ writes_over past.lease.writes book
past-writes past [] = refl
past-writes past (e ∷ book) = past-writes (past_after past e.kind) book

pub past-logs : (past : Past) (book : List Event) → (past_over past book).logs ≡ logs_over past.logs book
past-logs past [] = refl
past-logs past (e ∷ book) = past-logs (past_after past e.kind) book

shown-by : (told : List ℕ) (k : EventKind) → acknowledged_after told k ≡ told ++ acknowledged_of k
shown-by told (kinds.Replication (replications.Acknowledged server commit)) = refl
shown-by told (kinds.Replication _) = sym (append-nil told)
shown-by told _ = sym (append-nil told)

pub past-shown : (past : Past) (book : List Event)
    → (past_over past book).acknowledged ≡ past.acknowledged ++ acknowledged_in book
past-shown past [] = sym (append-nil past.acknowledged)
past-shown past (e ∷ book) =
    past-shown (past_after past e.kind) book
    ∙ ap (λ (t : List ℕ). t ++ acknowledged_in book) (shown-by past.acknowledged e.kind)
    ∙ append_assoc past.acknowledged (acknowledged_of e.kind) (acknowledged_in book)

pub inv-first : (setup : Setup) (logs : Logs) (required : List Required) (confirmed : List (List (Option Lsn)))
    → AllHaveBytes logs → IsSound (state_of setup (first_past logs required confirmed) first_volatile_states)
inv-first setup logs required confirmed have_bytes =
    inv-first-state setup.member_count setup.creates_compare (λ m. confirmers_of (slice_get required m))
    (λ m. position_of (slice_get confirmed m)) (λ m. log_found (slice_get logs.members m)) have_bytes

pub kept-book : (setup : Setup) (logs : Logs) (required : List Required) (confirmed : List (List (Option Lsn)))
    (transitions : List Transition) (front rest : List Event) → AllHaveBytes logs
    → AreAllowed setup (first_past logs required confirmed) first_volatile_states transitions
    → front ++ rest ≡ book_of transitions → KeepsCommits logs front
kept-book setup logs required confirmed transitions front rest have_bytes allowed e server writes commit told =
    let past : Past = first_past logs required confirmed in
    let k = fronts-from setup past first_volatile_states transitions front rest
    (inv-first setup logs required confirmed have_bytes) allowed e in
    subst (λ (l : Logs). has_serial (entries_at l server) commit ≡ true) (past-logs past front)
    (k server (ap (λ (w : ℕ → Bool). w server) (past-writes past front) ∙ writes) commit
    (subst (λ (t : List ℕ). Contains t commit) (sym (past-shown past front)) told))
