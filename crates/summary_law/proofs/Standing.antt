-- The summary stands for the book, event by event.
use Rattle.std.proofs.Common.{◌≡◌, ℕ, ◌+◌, ◌≤◌, List, [], ◌∷◌, ◌++◌, zero, suc, None, Bool, false, length, replicate, length-append, append_assoc, arith, refl, sym, ap, subst, ◌∙◌}
use Rattle.std.specs.Prelude.{slice_get}
use Rattle.pat_base.specs.declared.ticks.Ticks.{Ticks}
use Rattle.store_keys.specs.Settings.{Settings}
use Rattle.event_book.specs.declared.event.Event.{Event}
use Rattle.event_book.specs.declared.event.EventKind.{EventKind}
use Rattle.event_book.specs.declared.event.EventKind.TheVariants as kinds
use Rattle.event_book.specs.declared.event.ReplicationEvent.TheVariants as replications
use Rattle.event_book.specs.Acknowledged.{acknowledged_of, acknowledged_in}
use Rattle.event_book.specs.Kept.{KeepsCommits}
use Rattle.event_book.specs.Logs.{Logs}
use Rattle.event_book.specs.Writers.{HasOneWriter, writes_over}
use Rattle.lease_law.proofs.Runs.{assoc, none-more}
use Rattle.lease_model.proofs.Tools.{both}
use Rattle.summary_model.specs.declared.answers.Seen.{Seen}
use Rattle.summary_model.specs.declared.answers.WatchOf.{WatchOf}
use Rattle.summary_model.specs.Claims.{margin_ticks, declared_margin, is_writer, IsSummaryOf, WatchStandsFor}
use Rattle.summary_model.specs.Heads.{filled, first_unwatched, watch_of}
use Rattle.summary_model.specs.Moments.{now_over}
use Rattle.summary_model.specs.Noting.{WatchFacts, margin_at, ticks_after, writers_after, count_after, noted}
use Rattle.summary_model.specs.Seeing.{IsSeen, Sighting, events_in, noted_over, AreSeen}
use Rattle.summary_law.proofs.Breaking.{premises-more, premises-first}
use Rattle.summary_law.proofs.Fronts.{now-more, fronts-start}
use Rattle.summary_law.proofs.Losing.{lost-more}
use Rattle.summary_law.proofs.Modes.{mode-more, mode-first}
use Rattle.summary_law.proofs.Writing.{writers-more, long-more, over-more, two-more}
use Rattle.pat_base.specs.declared.member_id.TheConstants.{MOST_MEMBERS}

-- commits are counted
pub acknowledged-more : (xs ys : List Event) → acknowledged_in (xs ++ ys) ≡ acknowledged_in xs ++ acknowledged_in ys
acknowledged-more [] ys = refl
acknowledged-more (x ∷ xs) ys = ap (λ l. acknowledged_of x.kind ++ l) (acknowledged-more xs ys)
    ∙ sym (append_assoc (acknowledged_of x.kind) (acknowledged_in xs) (acknowledged_in ys))

count-kind : (count : ℕ) (kind : EventKind) → count_after count kind ≡ count + length (acknowledged_of kind)
count-kind count (kinds.Replication (replications.Acknowledged server commit)) = refl
count-kind count _ = omega arith

pub count-more : (count : ℕ) (book : List Event) (event : Event) → count ≡ length (acknowledged_in book)
    → count_after count event.kind ≡ length (acknowledged_in (book ++ event ∷ []))
count-more count book event is =
    let e = count-kind count event.kind in
    let f = ap length (acknowledged-more book (event ∷ [])) in
    let g = length-append (acknowledged_in book) (acknowledged_in (event ∷ [])) in
    let h = length-append (acknowledged_of event.kind) [] in
    omega (arith, e, f, g, h, is)

-- margins at their places
none-at : (n m : ℕ) → margin_at (replicate n None) m ≡ None
none-at zero m = refl
none-at (suc n) zero = refl
none-at (suc n) (suc m) = none-at n m

filled-at : (n : ℕ) (members : List WatchOf) (m : ℕ) → length members ≤ n
    → margin_at (filled (replicate n None) members) m ≡ declared_margin (slice_get members m)
filled-at n [] m within = none-at n m
filled-at zero (w ∷ ws) m within = absurd (omega (arith, within))
filled-at (suc n) (w ∷ ws) zero within = refl
filled-at (suc n) (w ∷ ws) (suc m) within = filled-at n ws m (omega (arith, within))

none-writes : (n m : ℕ) → is_writer (replicate n None) m ≡ false
none-writes zero m = refl
none-writes (suc n) zero = refl
none-writes (suc n) (suc m) = none-writes n m

-- before the first event
pub stands-first : (members : List WatchOf) (first : Settings) (logs : Logs) → length members ≤ MOST_MEMBERS
    → WatchStandsFor members first logs [] (watch_of members first.config)
stands-first members first logs within = record {
  margins = λ m. ap margin_ticks (filled-at 16 members m within);
  places = refl;
  closing = record {
    end = refl;
    premises = premises-first members first first.config.pause (first_unwatched members) refl refl;
    synchronous = mode-first first first.config.synchronous_mode refl;
    two_writers = fronts-start HasOneWriter (λ m n wm wn. absurd (both wm));
    writers = none-writes 17;
    acknowledged = refl;
    lost = fronts-start (KeepsCommits logs) (λ server writes commit there. absurd (both writes));
  };
}

-- one more event
pub stands-more : (members : List WatchOf) (first : Settings) (logs : Logs) (book : List Event)
    (facts : WatchFacts) (event : Event) (seen : Seen) → WatchStandsFor members first logs book facts
    → IsSeen logs book facts.closing.lost event seen
    → WatchStandsFor members first logs (book ++ event ∷ []) (noted facts event.kind seen)
stands-more members first logs book facts event seen stands right =
    let closing = facts.closing in
    let was = stands.closing in
    let now : Ticks = ticks_after closing.end event.kind in
    let end : now.0 ≡ now_over 0 (book ++ event ∷ []) =
    ap (λ t. (ticks_after (record { 0 = t }) event.kind).0) was.end ∙ sym (now-more 0 book event) in
    let are = writers-more closing.writers (writes_over (λ n. false) book) event.kind stands.places
    (record { same = was.writers }) in
    record {
      margins = stands.margins;
      places = long-more closing.writers event.kind ∙ stands.places;
      closing = record {
        end = end;
        premises = premises-more members first facts.margins book event seen.lateness now closing.premises
            stands.margins right.lateness end was.premises;
        synchronous = mode-more first book event now closing.synchronous end was.synchronous;
        two_writers = two-more book event closing.two_writers now
            (writers_after closing.writers event.kind) was.two_writers end are;
        writers = λ n. are.same n ∙ sym (ap (λ (w : ℕ → Bool). w n) (over-more book event));
        acknowledged = count-more closing.acknowledged book event was.acknowledged;
        lost = lost-more logs book event closing.lost seen now right end was.lost;
      };
    }

-- all of them
pub stands-over : (members : List WatchOf) (first : Settings) (logs : Logs) (book : List Event) (facts : WatchFacts)
    (sightings : List Sighting) → WatchStandsFor members first logs book facts → AreSeen logs book facts sightings
    → WatchStandsFor members first logs (book ++ events_in sightings) (noted_over facts sightings)
stands-over members first logs book facts [] stands right =
    subst (λ (l : List Event). WatchStandsFor members first logs l facts) (sym (none-more book)) stands
stands-over members first logs book facts (s ∷ ss) stands right =
    subst (λ (l : List Event). WatchStandsFor members first logs l (noted_over (noted facts s.event.kind s.seen) ss))
    (assoc book (s.event ∷ []) (events_in ss))
    (stands-over members first logs (book ++ s.event ∷ []) (noted facts s.event.kind s.seen) ss
    (stands-more members first logs book facts s.event s.seen stands right.0) right.1)

pub stands-all : (members : List WatchOf) (first : Settings) (logs : Logs) (sightings : List Sighting)
    → length members ≤ MOST_MEMBERS → AreSeen logs [] (watch_of members first.config) sightings
    → IsSummaryOf members first logs (events_in sightings)
    (noted_over (watch_of members first.config) sightings).closing
stands-all members first logs sightings within right =
    (stands-over members first logs [] (watch_of members first.config) sightings
    (stands-first members first logs within) right).closing
