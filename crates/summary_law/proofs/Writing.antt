-- Who accepts writes.
use Rattle.std.proofs.Common.{◌≡◌, ℕ, ◌+◌, ◌<◌, ◌≤◌, List, [], ◌∷◌, ◌++◌, length, zero, suc, Option, Some, None, Bool, true, false, cond, length-set, arith, refl, sym, ap, subst, ◌∙◌}
use Rattle.std.specs.Prelude.{slice_set, is_some, nat_lt, count_by}
use Rattle.std.proofs.lemmas.Bool.Decides.{nat_tests}
use Rattle.std.proofs.lemmas.List.Recursion.{is_count_by}
use Rattle.pat_base.specs.declared.name.Name.{Name}
use Rattle.pat_base.specs.declared.ticks.Ticks.{Ticks}
use Rattle.pg_model.proofs.Lists.{got-set_same, got-set_other}
use Rattle.event_book.specs.declared.event.Event.{Event}
use Rattle.event_book.specs.declared.event.EventKind.{EventKind}
use Rattle.event_book.specs.declared.event.EventKind.TheVariants as kinds
use Rattle.event_book.specs.declared.event.ServerEvent.{ServerEvent}
use Rattle.event_book.specs.declared.event.ServerEvent.TheVariants as servers
use Rattle.event_book.specs.declared.event.WatchdogEvent.{WatchdogEvent}
use Rattle.event_book.specs.declared.event.WatchdogEvent.TheVariants as watchdogs
use Rattle.event_book.specs.Functions.{put_at}
use Rattle.event_book.specs.Writers.{writes_by_server, writes_by_watchdog, writes_after, writes_over, HasOneWriter}
use Rattle.lease_law.proofs.Runs.{writes-append}
use Rattle.lease_model.proofs.Tools.{put-all, both}
use Rattle.summary_model.specs.declared.answers.FirstMoment.{FirstMoment}
use Rattle.summary_model.specs.Claims.{is_named, is_writer}
use Rattle.summary_model.specs.Moments.{now_over, IsToldFirst}
use Rattle.summary_model.specs.Noting.{writers_by_server, writers_by_watchdog, writers_after, has_two, two_after}
use Rattle.summary_law.proofs.Fronts.{told-kept, told-tested}
use Rattle.summary_model.specs.declared.answers.TheConstants.{SERVERS}

-- the list has the names of those that accept writes
pub record AreWriters (writers : List (Option Name)) (writes : ℕ → Bool) : Type 0 where
  pub same : (n : ℕ) → is_writer writers n ≡ writes n

set-writers : (writers : List (Option Name)) (writes : ℕ → Bool) (k : ℕ) (name : Option Name) → k < length writers
    → AreWriters writers writes → AreWriters (slice_set writers k name) (put_at writes k (is_some name))
set-writers writers writes k name within are = record {
  same = put-all writes k (is_some name) (λ n w. is_writer (slice_set writers k name) n ≡ w)
      (ap is_named (got-set_same writers k name within))
      (λ n other. ap is_named (got-set_other writers k n name other) ∙ are.same n);
}

writers-server : (writers : List (Option Name)) (writes : ℕ → Bool) (happening : ServerEvent) → length writers ≡ SERVERS
    → AreWriters writers writes → AreWriters (writers_by_server writers happening) (writes_by_server writes happening)
writers-server writers writes (servers.Began server timeline) long are =
    set-writers writers writes server.id.number (Some server.name) (omega (arith, long, server.id.within)) are
writers-server writers writes (servers.Ended server) long are =
    set-writers writers writes server.id.number None (omega (arith, long, server.id.within)) are
writers-server writers writes (servers.Crashed server) long are =
    set-writers writers writes server.id.number None (omega (arith, long, server.id.within)) are
writers-server writers writes _ long are = are

writers-watchdog : (writers : List (Option Name)) (writes : ℕ → Bool) (happening : WatchdogEvent)
    → length writers ≡ SERVERS → AreWriters writers writes
    → AreWriters (writers_by_watchdog writers happening) (writes_by_watchdog writes happening)
writers-watchdog writers writes (watchdogs.Reset member) long are =
    set-writers writers writes member.id.number None (omega (arith, long, member.id.below)) are
writers-watchdog writers writes _ long are = are

-- one more event
pub writers-more : (writers : List (Option Name)) (writes : ℕ → Bool) (kind : EventKind) → length writers ≡ SERVERS
    → AreWriters writers writes → AreWriters (writers_after writers kind) (writes_after writes kind)
writers-more writers writes (kinds.Server happening) long are = writers-server writers writes happening long are
writers-more writers writes (kinds.Watchdog happening) long are = writers-watchdog writers writes happening long are
writers-more writers writes _ long are = are

long-server : (writers : List (Option Name)) (happening : ServerEvent)
    → length (writers_by_server writers happening) ≡ length writers
long-server writers (servers.Began server timeline) = length-set writers server.id.number (Some server.name)
long-server writers (servers.Ended server) = length-set writers server.id.number None
long-server writers (servers.Crashed server) = length-set writers server.id.number None
long-server writers _ = refl

long-watchdog : (writers : List (Option Name)) (happening : WatchdogEvent)
    → length (writers_by_watchdog writers happening) ≡ length writers
long-watchdog writers (watchdogs.Reset member) = length-set writers member.id.number None
long-watchdog writers _ = refl

pub long-more : (writers : List (Option Name)) (kind : EventKind) → length (writers_after writers kind) ≡ length writers
long-more writers (kinds.Server happening) = long-server writers happening
long-more writers (kinds.Watchdog happening) = long-watchdog writers happening
long-more writers _ = refl

-- how many there are, name by name
abbrev counted : List (Option Name) → ℕ
counted [] = 0
counted (x ∷ xs) = cond (is_some x) (1 + counted xs) (counted xs)

counted-is : (writers : List (Option Name)) → counted writers ≡ count_by is_some writers
counted-is writers = is_count_by counted is_some refl (λ x xs. refl) writers

count-none : (writers : List (Option Name)) (n : ℕ) → counted writers ≡ 0 → is_writer writers n ≡ true → ⊥
count-none [] n none is = both is
count-none (None ∷ ws) zero none is = both is
count-none (None ∷ ws) (suc n) none is = count-none ws n (omega (arith, none)) is
count-none (Some w ∷ ws) n none is = absurd (omega (arith, none))

count-some : (writers : List (Option Name)) → 0 < counted writers → (n : ℕ) × (is_writer writers n ≡ true)
count-some [] some = absurd (omega (arith, some))
count-some (None ∷ ws) some = let c = count-some ws (omega (arith, some)) in (suc c.0, c.1)
count-some (Some w ∷ ws) some = (zero, refl)

count-one : (writers : List (Option Name)) → counted writers ≤ 1 → (m n : ℕ) → is_writer writers m ≡ true
    → is_writer writers n ≡ true → m ≡ n
count-one [] one m n wm wn = absurd (both wm)
count-one (None ∷ ws) one zero n wm wn = absurd (both wm)
count-one (None ∷ ws) one (suc m) zero wm wn = absurd (both wn)
count-one (None ∷ ws) one (suc m) (suc n) wm wn = ap suc (count-one ws (omega (arith, one)) m n wm wn)
count-one (Some w ∷ ws) one zero zero wm wn = refl
count-one (Some w ∷ ws) one zero (suc n) wm wn = absurd (count-none ws n (omega (arith, one)) wn)
count-one (Some w ∷ ws) one (suc m) n wm wn = absurd (count-none ws m (omega (arith, one)) wm)

count-two : (writers : List (Option Name)) → 1 < counted writers
    → ((m n : ℕ) → is_writer writers m ≡ true → is_writer writers n ≡ true → m ≡ n) → ⊥
count-two [] two one = absurd (omega (arith, two))
count-two (None ∷ ws) two one = count-two ws (omega (arith, two)) (λ m n wm wn. suc-is m n (one (suc m) (suc n) wm wn))
  where
    suc-is : (m n : ℕ) → suc m ≡ suc n → m ≡ n
    suc-is m n e = omega (arith, e)
count-two (Some w ∷ ws) two one =
    let c = count-some ws (omega (arith, two)) in zero-is c.0 (one zero (suc c.0) refl c.1)
  where
    zero-is : (n : ℕ) → zero ≡ suc n → ⊥
    zero-is n e = omega (arith, e)

lt-from : (m n : ℕ) → nat_lt m n ≡ true → m < n
lt-from m n e = grind (arith, nat_tests)

le-from-not : (m n : ℕ) → nat_lt m n ≡ false → n ≤ m
le-from-not m n e = grind (arith, nat_tests)

-- at most one of these accepts writes
abbrev IsOne : (ℕ → Bool) → Type 0
IsOne writes = (m n : ℕ) → writes m ≡ true → writes n ≡ true → m ≡ n

two-no : (writers : List (Option Name)) (writes : ℕ → Bool) → AreWriters writers writes
    → has_two writers ≡ true → IsOne writes → ⊥
two-no writers writes are two one = count-two writers
    (let more : 1 < count_by is_some writers = lt-from 1 (count_by is_some writers) two in
    omega (arith, more, counted-is writers))
    (λ m n wm wn. one m n (sym (are.same m) ∙ wm) (sym (are.same n) ∙ wn))

two-yes : (writers : List (Option Name)) (writes : ℕ → Bool) → AreWriters writers writes
    → has_two writers ≡ false → IsOne writes
two-yes writers writes are two m n wm wn = count-one writers
    (let most : count_by is_some writers ≤ 1 = le-from-not 1 (count_by is_some writers) two in
    omega (arith, most, counted-is writers))
    m n (are.same m ∙ wm) (are.same n ∙ wn)

-- who no longer accepts writes makes no second writer
one-off : (writes : ℕ → Bool) (k : ℕ) → IsOne writes → IsOne (put_at writes k false)
one-off writes k one m n wm wn = one m n (was m wm) (was n wn)
  where
    was : (p : ℕ) → put_at writes k false p ≡ true → writes p ≡ true
    was = put-all writes k false (λ p w. w ≡ true → writes p ≡ true) (λ no. absurd (both no)) (λ p other w. w)

one-watchdog : (writes : ℕ → Bool) (happening : WatchdogEvent) → IsOne writes
    → IsOne (writes_by_watchdog writes happening)
one-watchdog writes (watchdogs.Reset member) one = one-off writes member.id.number one
one-watchdog writes _ one = one

-- the writers after one more event
pub over-more : (book : List Event) (event : Event)
    → writes_over (λ n. false) (book ++ event ∷ []) ≡ writes_after (writes_over (λ n. false) book) event.kind
over-more book event = writes-append (λ n. false) book (event ∷ [])

one-to : (book : List Event) (event : Event) → IsOne (writes_after (writes_over (λ n. false) book) event.kind)
    → HasOneWriter (book ++ event ∷ [])
one-to book event one = subst IsOne (sym (over-more book event)) one

one-back : (book : List Event) (event : Event) → HasOneWriter (book ++ event ∷ [])
    → IsOne (writes_after (writes_over (λ n. false) book) event.kind)
one-back book event one = subst IsOne (over-more book event) one

-- the kind of an event, by itself
two-kind : (book : List Event) (event : Event) (kind : EventKind) (first : FirstMoment) (now : Ticks)
    (writers : List (Option Name)) → event.kind ≡ kind → IsToldFirst HasOneWriter book first
    → now.0 ≡ now_over 0 (book ++ event ∷ [])
    → AreWriters writers (writes_after (writes_over (λ n. false) book) kind)
    → IsToldFirst HasOneWriter (book ++ event ∷ []) (two_after first now writers kind)
two-kind book event kind first now writers is told end are = go kind is are
  where
    same : (k : EventKind) → event.kind ≡ k
        → writes_after (writes_over (λ n. false) book) event.kind ≡ writes_after (writes_over (λ n. false) book) k
    same k e = ap (writes_after (writes_over (λ n. false) book)) e

    kept : (k : EventKind) → event.kind ≡ k
        → (IsOne (writes_over (λ n. false) book) → IsOne (writes_after (writes_over (λ n. false) book) k))
        → IsToldFirst HasOneWriter (book ++ event ∷ []) first
    kept k e keeps = told-kept HasOneWriter book event first told
        (λ one. one-to book event (subst IsOne (sym (same k e)) (keeps one)))

    go : (k : EventKind) → event.kind ≡ k → AreWriters writers (writes_after (writes_over (λ n. false) book) k)
        → IsToldFirst HasOneWriter (book ++ event ∷ []) (two_after first now writers k)
    go (kinds.Server (servers.Began server timeline)) e ws =
        told-tested HasOneWriter book event first (has_two writers) now told end
        (λ never two one. two-no writers
        (writes_after (writes_over (λ n. false) book) (kinds.Server (servers.Began server timeline))) ws two
        (subst IsOne (same (kinds.Server (servers.Began server timeline)) e) (one-back book event one)))
        (λ never two. one-to book event
        (subst IsOne (sym (same (kinds.Server (servers.Began server timeline)) e))
        (two-yes writers
        (writes_after (writes_over (λ n. false) book) (kinds.Server (servers.Began server timeline))) ws two)))
    go (kinds.Server (servers.Ended server)) e ws =
        kept (kinds.Server (servers.Ended server)) e (one-off (writes_over (λ n. false) book) server.id.number)
    go (kinds.Server (servers.Crashed server)) e ws =
        kept (kinds.Server (servers.Crashed server)) e (one-off (writes_over (λ n. false) book) server.id.number)
    go (kinds.Server happening) e ws = kept (kinds.Server happening) e (λ one. one)
    go (kinds.Watchdog happening) e ws =
        kept (kinds.Watchdog happening) e (one-watchdog (writes_over (λ n. false) book) happening)
    go k e ws = kept k e (λ one. one)

pub two-more : (book : List Event) (event : Event) (first : FirstMoment) (now : Ticks) (writers : List (Option Name))
    → IsToldFirst HasOneWriter book first → now.0 ≡ now_over 0 (book ++ event ∷ [])
    → AreWriters writers (writes_after (writes_over (λ n. false) book) event.kind)
    → IsToldFirst HasOneWriter (book ++ event ∷ []) (two_after first now writers event.kind)
two-more book event first now writers told end are = two-kind book event event.kind first now writers refl told end are
