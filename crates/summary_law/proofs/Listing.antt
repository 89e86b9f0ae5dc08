-- The names of the writers, as they are listed.
use Rattle.std.proofs.Common.{◌≡◌, ℕ, ◌⊎◌, List, [], ◌∷◌, replicate, zero, suc, Option, Some, None, refl, ap, subst, ◌∙◌, inl, inr}
use Rattle.std.specs.Prelude.{slice_get, slice_set, Contains, All}
use Rattle.std.proofs.lemmas.List.Elements.{All-nil, All-contains}
use Rattle.std.proofs.lemmas.Map.Views.{All-insert_key}
use Rattle.std.specs.BTreeSet.{insert_key}
use Rattle.std.specs.List.Sorted.{IsStrictlySortedBy}
use Rattle.pat_base.specs.declared.name.Name.{Name}
use Rattle.pat_base.specs.declared.ticks.Ticks.{Ticks}
use Rattle.event_book.specs.declared.event.Event.{Event}
use Rattle.event_book.specs.declared.event.EventKind.{EventKind}
use Rattle.event_book.specs.declared.event.EventKind.TheVariants as kinds
use Rattle.event_book.specs.declared.event.ServerEvent.{ServerEvent}
use Rattle.event_book.specs.declared.event.ServerEvent.TheVariants as servers
use Rattle.event_book.specs.declared.event.WatchdogEvent.{WatchdogEvent}
use Rattle.event_book.specs.declared.event.WatchdogEvent.TheVariants as watchdogs
use Rattle.event_book.specs.Kinds.{AllAre}
use Rattle.event_book.specs.NameLists.{name_cmp}
use Rattle.event_book.proofs.NamedMembers.{insert-kept, insert-there, name_cmp-exact}
use Rattle.event_book.proofs.RisingNames.{rises-insert, name_cmp-total}
use Rattle.lease_model.proofs.Tools.{none-some, some-is}
use Rattle.summary_model.specs.Listed.{IsWriterNamed, AreListed, NamesServer, AreNamed}
use Rattle.summary_model.specs.Noting.{WatchFacts, noted, ticks_after, writers_by_server, writers_by_watchdog, writers_after}
use Rattle.summary_model.specs.Seeing.{noted_over}
use Rattle.summary_model.specs.Sights.{SummaryFacts, noted_step, seen_beside, sightings_of, since_after}
use Rattle.summary_model.specs.SummaryText.{sorted_from}
use Rattle.summary_model.specs.declared.answers.TheConstants.{SERVERS}

sorted-rises : (names : List Name) (writers : List (Option Name)) → IsStrictlySortedBy name_cmp names
    → IsStrictlySortedBy name_cmp (sorted_from names writers)
sorted-rises names [] rises = rises
sorted-rises names (None ∷ ws) rises = sorted-rises names ws rises
sorted-rises names (Some w ∷ ws) rises =
    sorted-rises (insert_key name_cmp names w) ws (rises-insert name_cmp name_cmp-total w names rises)

sorted-kept : (names : List Name) (writers : List (Option Name)) (name : Name) → Contains names name
    → Contains (sorted_from names writers) name
sorted-kept names [] name there = there
sorted-kept names (None ∷ ws) name there = sorted-kept names ws name there
sorted-kept names (Some w ∷ ws) name there =
    sorted-kept (insert_key name_cmp names w) ws name (insert-kept name_cmp w names name there)

no-writer : (name : Name) → ◌≡◌ {A = Option (Option Name)} (Some None) (Some (Some name)) → ⊥
no-writer name e = none-some name (some-is None (Some name) e)

sorted-there : (names : List Name) (writers : List (Option Name)) (n : ℕ) (name : Name)
    → slice_get writers n ≡ Some (Some name) → Contains (sorted_from names writers) name
sorted-there names [] n name is = absurd (none-some (Some name) is)
sorted-there names (None ∷ ws) zero name is = absurd (no-writer name is)
sorted-there names (None ∷ ws) (suc n) name is = sorted-there names ws n name is
sorted-there names (Some w ∷ ws) zero name is =
    let same : w ≡ name = some-is w name (some-is (Some w) (Some name) is) in
    subst (Contains (sorted_from (insert_key name_cmp names w) ws)) same
    (sorted-kept (insert_key name_cmp names w) ws w (insert-there name_cmp name_cmp-exact w names))
sorted-there names (Some w ∷ ws) (suc n) name is = sorted-there (insert_key name_cmp names w) ws n name is

sorted-only : (P : Name → Type 0) (names : List Name) (writers : List (Option Name)) → All P names
    → ((n : ℕ) (name : Name) → slice_get writers n ≡ Some (Some name) → P name) → All P (sorted_from names writers)
sorted-only P names [] all each = all
sorted-only P names (None ∷ ws) all each = sorted-only P names ws all (λ n. each (suc n))
sorted-only P names (Some w ∷ ws) all each = sorted-only P (insert_key name_cmp names w) ws
    (All-insert_key name_cmp w P names all (each zero w refl)) (λ n. each (suc n))

pub are-listed : (writers : List (Option Name)) → AreListed writers
unfolding IsStrictlySortedBy
are-listed writers = record {
  rises = sorted-rises [] writers tt;
  each = λ name there. sorted-there [] writers there.0 name there.1;
  only = λ name there. All-contains (IsWriterNamed writers) (sorted_from [] writers) name
      (sorted-only (IsWriterNamed writers) [] writers (All-nil (IsWriterNamed writers)) (λ n name is. (n, is))) there;
}

-- a place gets a writer, or loses it
set-at : (writers : List (Option Name)) (k n : ℕ) (now : Option Name) (name : Name)
    → slice_get (slice_set writers k now) n ≡ Some (Some name)
    → (n ≡ k) × (now ≡ Some name) ⊎ (slice_get writers n ≡ Some (Some name))
set-at [] k n now name is = inr is
set-at (w ∷ ws) zero zero now name is = inl (refl, some-is now (Some name) is)
set-at (w ∷ ws) zero (suc n) now name is = inr is
set-at (w ∷ ws) (suc k) zero now name is = inr is
set-at (w ∷ ws) (suc k) (suc n) now name is =
    elim (set-at ws k n now name is) [ inl c ↦ inl (ap suc c.0, c.1) | inr c ↦ inr c ]

named-off : (names : ℕ → Option Name) (writers : List (Option Name)) (k : ℕ) → AreNamed names writers
    → AreNamed names (slice_set writers k None)
named-off names writers k are = record {
  each = λ n name is.
      elim (set-at writers k n None name is) [ inl c ↦ absurd (none-some name c.1) | inr c ↦ are.each n name c ];
}

named-on : (names : ℕ → Option Name) (writers : List (Option Name)) (k : ℕ) (own : Name) → names k ≡ Some own
    → AreNamed names writers → AreNamed names (slice_set writers k (Some own))
named-on names writers k own same are = record {
  each = λ n name is.
      elim (set-at writers k n (Some own) name is) [ inl c ↦ ap names c.0 ∙ same ∙ c.1 | inr c ↦ are.each n name c ];
}

named-server : (names : ℕ → Option Name) (writers : List (Option Name)) (happening : ServerEvent)
    → NamesServer names (kinds.Server happening) → AreNamed names writers
    → AreNamed names (writers_by_server writers happening)
named-server names writers (servers.Began server timeline) same are =
    named-on names writers server.id.number server.name same are
named-server names writers (servers.Ended server) same are = named-off names writers server.id.number are
named-server names writers (servers.Crashed server) same are = named-off names writers server.id.number are
named-server names writers _ same are = are

named-watchdog : (names : ℕ → Option Name) (writers : List (Option Name)) (happening : WatchdogEvent)
    → AreNamed names writers → AreNamed names (writers_by_watchdog writers happening)
named-watchdog names writers (watchdogs.Reset member) are = named-off names writers member.id.number are
named-watchdog names writers _ are = are

pub named-more : (names : ℕ → Option Name) (writers : List (Option Name)) (kind : EventKind)
    → NamesServer names kind → AreNamed names writers → AreNamed names (writers_after writers kind)
named-more names writers (kinds.Server happening) same are = named-server names writers happening same are
named-more names writers (kinds.Watchdog happening) same are = named-watchdog names writers happening are
named-more names writers _ same are = are

none-named : (count n : ℕ) (name : Name) → slice_get (replicate count None) n ≡ Some (Some name) → ⊥
none-named zero n name is = none-some (Some name) is
none-named (suc count) zero name is = no-writer name is
none-named (suc count) (suc n) name is = none-named count n name is

pub named-first : (names : ℕ → Option Name) → AreNamed names (replicate SERVERS None)
named-first names = record { each = λ n name is. absurd (none-named 17 n name is) }

-- so it stays through the events of a step
named-over : (names : ℕ → Option Name) (watch : WatchFacts) (clock since : Ticks) (events : List Event)
    → AllAre (NamesServer names) events → AreNamed names watch.closing.writers
    → AreNamed names (noted_over watch (sightings_of clock since events)).closing.writers
named-over names watch clock since [] all are = are
named-over names watch clock since (event ∷ events) all are =
    named-over names (noted watch event.kind (seen_beside (ticks_after clock event.kind) since event.kind events))
    (ticks_after clock event.kind) (since_after since event.kind) events all.1
    (named-more names watch.closing.writers event.kind all.0 are)

pub named-step : (names : ℕ → Option Name) (facts : SummaryFacts) (events : List Event)
    → AllAre (NamesServer names) events → AreNamed names facts.watch.closing.writers
    → AreNamed names (noted_step facts events).watch.closing.writers
named-step names facts events all are = named-over names facts.watch facts.watch.closing.end facts.since events all are
