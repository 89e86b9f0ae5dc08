-- The summary stands for the book, step by step.
use Rattle.std.proofs.Common.{◌≡◌, ℕ, ◌≤◌, List, [], ◌∷◌, ◌++◌, Bool, false, length, refl, sym, ap, subst, ◌∙◌}
use Rattle.pat_base.specs.declared.ticks.Ticks.{Ticks}
use Rattle.store_keys.specs.Settings.{Settings}
use Rattle.event_book.specs.declared.event.Event.{Event}
use Rattle.event_book.specs.Kept.{KeepsCommits}
use Rattle.event_book.specs.Logs.{Logs, no_logs}
use Rattle.event_book.specs.Writers.{HasOneWriter, writes_over}
use Rattle.event_book.specs.Premises.{ArePremisesMet, first_moments}
use Rattle.lease_law.proofs.Runs.{cons-eq, assoc, none-more}
use Rattle.summary_model.specs.declared.answers.FirstMoment.{FirstMoment}
use Rattle.summary_model.specs.declared.answers.WatchOf.{WatchOf}
use Rattle.summary_model.specs.Claims.{IsGuarded, IsSummaryOf, WatchStandsFor, margin_of, works_of}
use Rattle.summary_model.specs.Moments.{now_over, moments_over, IsToldFirst}
use Rattle.summary_model.specs.Noting.{WatchFacts, ticks_after, writers_after, noted}
use Rattle.summary_model.specs.Seeing.{IsSeen, events_in, noted_over, AreSeen}
use Rattle.summary_model.specs.Sights.{since_after, lateness_at, seen_beside, sightings_of, SummaryFacts, first_since, summary_of, noted_step, noted_steps, book_of}
use Rattle.summary_model.specs.Telling.{IsMeasured, AreMeasured, TellLosses, EachTellsLosses, WatchStandsButForLosses}
use Rattle.summary_law.proofs.Breaking.{premises-more}
use Rattle.summary_law.proofs.Fronts.{now-more}
use Rattle.summary_law.proofs.Guarding.{guarded-at}
use Rattle.summary_law.proofs.Measuring.{clock-over, measured-behind, measured-front, measured-rest, lateness-right}
use Rattle.summary_law.proofs.Modes.{mode-more}
use Rattle.summary_law.proofs.Standing.{count-more, stands-first, stands-more, stands-over}
use Rattle.summary_law.proofs.Writing.{writers-more, long-more, over-more, two-more}
use Rattle.pat_base.specs.declared.member_id.TheConstants.{MOST_MEMBERS}

-- the events of sightings
events-sighted : (clock since : Ticks) (events : List Event) → events_in (sightings_of clock since events) ≡ events
events-sighted clock since [] = refl
events-sighted clock since (event ∷ events) =
    cons-eq event event (events_in (sightings_of (ticks_after clock event.kind) (since_after since event.kind) events))
    events refl (events-sighted (ticks_after clock event.kind) (since_after since event.kind) events)

-- what is seen beside each event of a step is right
seen-over : (members : List WatchOf) (first : Settings) (logs : Logs) (book : List Event) (watch : WatchFacts)
    (since : Ticks) (events : List Event) → WatchStandsFor members first logs book watch
    → AreMeasured (moments_over first_moments book) since events → TellLosses logs book events
    → AreSeen logs book watch (sightings_of watch.closing.end since events)
seen-over members first logs book watch since [] stands measured told = tt
seen-over members first logs book watch since (event ∷ events) stands measured told =
    let seen = seen_beside (ticks_after watch.closing.end event.kind) since event.kind events in
    let right : IsSeen logs book watch.closing.lost event seen = record {
      lateness = lateness-right (moments_over first_moments book) watch.closing.end since event.kind
          (stands.closing.end ∙ sym (clock-over first_moments book)) measured.0;
      lacking = λ never.
          told.0 (subst (λ (f : FirstMoment). IsToldFirst (KeepsCommits logs) book f) never stands.closing.lost);
    } in (
      right,
      seen-over members first logs (book ++ event ∷ []) (noted watch event.kind seen)
          (since_after since event.kind) events (stands-more members first logs book watch event seen stands right)
          (measured-behind first_moments (since_after since event.kind) book (event ∷ []) events measured.1) told.1,
    )

pub step-seen : (members : List WatchOf) (first : Settings) (logs : Logs) (book : List Event)
    (facts : SummaryFacts) (events : List Event) → WatchStandsFor members first logs book facts.watch
    → AreMeasured (moments_over first_moments book) facts.since events → TellLosses logs book events
    → AreSeen logs book facts.watch (sightings_of facts.watch.closing.end facts.since events)
step-seen members first logs book facts events stands measured told =
    seen-over members first logs book facts.watch facts.since events stands measured told

-- one more step
pub step-stands : (members : List WatchOf) (first : Settings) (logs : Logs) (book : List Event)
    (facts : SummaryFacts) (events : List Event) → WatchStandsFor members first logs book facts.watch
    → AreMeasured (moments_over first_moments book) facts.since events → TellLosses logs book events
    → WatchStandsFor members first logs (book ++ events) (noted_step facts events).watch
step-stands members first logs book facts events stands measured told =
    let sightings = sightings_of facts.watch.closing.end facts.since events in
    subst (λ (l : List Event). WatchStandsFor members first logs (book ++ l) (noted_over facts.watch sightings))
    (events-sighted facts.watch.closing.end facts.since events)
    (stands-over members first logs book facts.watch sightings stands
    (step-seen members first logs book facts events stands measured told))

-- all of them
steps-stand : (members : List WatchOf) (first : Settings) (logs : Logs) (book : List Event)
    (facts : SummaryFacts) (steps : List (List Event)) → WatchStandsFor members first logs book facts.watch
    → AreMeasured (moments_over first_moments book) facts.since (book_of steps) → EachTellsLosses logs book steps
    → WatchStandsFor members first logs (book ++ book_of steps) (noted_steps facts steps).watch
steps-stand members first logs book facts [] stands measured told =
    subst (λ (l : List Event). WatchStandsFor members first logs l facts.watch) (sym (none-more book)) stands
steps-stand members first logs book facts (step ∷ steps) stands measured told =
    let moments = moments_over first_moments book in
    subst (λ (l : List Event). WatchStandsFor members first logs l (noted_steps (noted_step facts step) steps).watch)
    (assoc book step (book_of steps))
    (steps-stand members first logs (book ++ step) (noted_step facts step) steps
    (step-stands members first logs book facts step stands
    (measured-front moments facts.since step (book_of steps) measured) told.0)
    (measured-behind first_moments (noted_step facts step).since book step (book_of steps)
    (measured-rest moments facts.since step (book_of steps) measured))
    told.1)

pub steps-told : (members : List WatchOf) (first : Settings) (logs : Logs) (steps : List (List Event))
    → length members ≤ MOST_MEMBERS → AreMeasured first_moments first_since (book_of steps)
    → EachTellsLosses logs [] steps
    → IsSummaryOf members first logs (book_of steps) (noted_steps (summary_of members first.config) steps).watch.closing
steps-told members first logs steps within measured told =
    (steps-stand members first logs [] (summary_of members first.config) steps
    (stands-first members first logs within) measured told).closing

-- the same without what is told of losses
pub watches-first : (members : List WatchOf) (first : Settings) → length members ≤ MOST_MEMBERS
    → WatchStandsButForLosses members first [] (summary_of members first.config).watch
watches-first members first within =
    let stands = stands-first members first no_logs within in
    let is = stands.closing in
    record {
      margins = stands.margins;
      places = stands.places;
      closing = record {
        end = is.end;
        premises = is.premises;
        synchronous = is.synchronous;
        two_writers = is.two_writers;
        writers = is.writers;
        acknowledged = is.acknowledged;
      };
    }

watches-more : (members : List WatchOf) (first : Settings) (book : List Event) (watch : WatchFacts)
    (since : Ticks) (event : Event) (behind : List Event) → WatchStandsButForLosses members first book watch
    → IsMeasured (moments_over first_moments book) since event.kind
    → WatchStandsButForLosses members first (book ++ event ∷ [])
    (noted watch event.kind (seen_beside (ticks_after watch.closing.end event.kind) since event.kind behind))
watches-more members first book watch since event behind watches measured =
    let closing = watch.closing in
    let was = watches.closing in
    let moment : Ticks = ticks_after closing.end event.kind in
    let end : moment.0 ≡ now_over 0 (book ++ event ∷ []) =
    ap (λ t. (ticks_after (record { 0 = t }) event.kind).0) was.end ∙ sym (now-more 0 book event) in
    let lateness = lateness_at moment since event.kind in
    let span = lateness-right (moments_over first_moments book) closing.end since event.kind
    (was.end ∙ sym (clock-over first_moments book)) measured in
    let are = writers-more closing.writers (writes_over (λ n. false) book) event.kind watches.places
    (record { same = was.writers }) in
    record {
      margins = watches.margins;
      places = long-more closing.writers event.kind ∙ watches.places;
      closing = record {
        end = end;
        premises = premises-more members first watch.margins book event lateness moment closing.premises
            watches.margins span end was.premises;
        synchronous = mode-more first book event moment closing.synchronous end was.synchronous;
        two_writers = two-more book event closing.two_writers moment
            (writers_after closing.writers event.kind) was.two_writers end are;
        writers = λ n. are.same n ∙ sym (ap (λ (w : ℕ → Bool). w n) (over-more book event));
        acknowledged = count-more closing.acknowledged book event was.acknowledged;
      };
    }

watches-over : (members : List WatchOf) (first : Settings) (book : List Event) (watch : WatchFacts)
    (since : Ticks) (events : List Event) → WatchStandsButForLosses members first book watch
    → AreMeasured (moments_over first_moments book) since events
    → WatchStandsButForLosses members first (book ++ events)
    (noted_over watch (sightings_of watch.closing.end since events))
watches-over members first book watch since [] watches measured =
    subst (λ (l : List Event). WatchStandsButForLosses members first l watch) (sym (none-more book)) watches
watches-over members first book watch since (event ∷ events) watches measured =
    let after =
    noted watch event.kind (seen_beside (ticks_after watch.closing.end event.kind) since event.kind events) in
    subst (λ (l : List Event). WatchStandsButForLosses members first l
    (noted_over after (sightings_of after.closing.end (since_after since event.kind) events)))
    (assoc book (event ∷ []) events)
    (watches-over members first (book ++ event ∷ []) after (since_after since event.kind) events
    (watches-more members first book watch since event events watches measured.0)
    (measured-behind first_moments (since_after since event.kind) book (event ∷ []) events measured.1))

pub step-watches : (members : List WatchOf) (first : Settings) (book : List Event) (facts : SummaryFacts)
    (events : List Event) → WatchStandsButForLosses members first book facts.watch
    → AreMeasured (moments_over first_moments book) facts.since events
    → WatchStandsButForLosses members first (book ++ events) (noted_step facts events).watch
step-watches members first book facts events watches measured =
    watches-over members first book facts.watch facts.since events watches measured

steps-watch : (members : List WatchOf) (first : Settings) (book : List Event) (facts : SummaryFacts)
    (steps : List (List Event)) → WatchStandsButForLosses members first book facts.watch
    → AreMeasured (moments_over first_moments book) facts.since (book_of steps)
    → WatchStandsButForLosses members first (book ++ book_of steps) (noted_steps facts steps).watch
steps-watch members first book facts [] watches measured =
    subst (λ (l : List Event). WatchStandsButForLosses members first l facts.watch) (sym (none-more book)) watches
steps-watch members first book facts (step ∷ steps) watches measured =
    let moments = moments_over first_moments book in
    subst (λ (l : List Event).
    WatchStandsButForLosses members first l (noted_steps (noted_step facts step) steps).watch)
    (assoc book step (book_of steps))
    (steps-watch members first (book ++ step) (noted_step facts step) steps
    (step-watches members first book facts step watches
    (measured-front moments facts.since step (book_of steps) measured))
    (measured-behind first_moments (noted_step facts step).since book step (book_of steps)
    (measured-rest moments facts.since step (book_of steps) measured)))

pub steps-watched : (members : List WatchOf) (first : Settings) (steps : List (List Event))
    → length members ≤ MOST_MEMBERS → AreMeasured first_moments first_since (book_of steps)
    → WatchStandsButForLosses members first (book_of steps) (noted_steps (summary_of members first.config) steps).watch
steps-watched members first steps within measured =
    steps-watch members first [] (summary_of members first.config) steps (watches-first members first within) measured

-- what is watched is guarded
pub watched-guarded : (members : List WatchOf) (first : Settings) (book : List Event) (facts : WatchFacts)
    → WatchStandsButForLosses members first book facts
    → ((front rest : List Event) → front ++ rest ≡ book →
    ArePremisesMet (margin_of members) (works_of members) first front → HasOneWriter front)
    → IsGuarded facts.closing.premises facts.closing.two_writers
watched-guarded members first book facts watches guards = guarded-at members first book facts.closing.premises
    facts.closing.two_writers watches.closing.premises watches.closing.two_writers guards

pub steps-guarded : (members : List WatchOf) (first : Settings) (steps : List (List Event))
    → length members ≤ MOST_MEMBERS → AreMeasured first_moments first_since (book_of steps)
    → ((front rest : List Event) → front ++ rest ≡ book_of steps →
    ArePremisesMet (margin_of members) (works_of members) first front → HasOneWriter front)
    → IsGuarded (noted_steps (summary_of members first.config) steps).watch.closing.premises
    (noted_steps (summary_of members first.config) steps).watch.closing.two_writers
steps-guarded members first steps within measured guards =
    watched-guarded members first (book_of steps) (noted_steps (summary_of members first.config) steps).watch
    (steps-watched members first steps within measured) guards
