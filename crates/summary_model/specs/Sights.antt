-- What the events alone tell of what is seen beside each.
use Rattle.std.specs.Prelude.{ℕ, ◌-◌, Bool, true, false, List, [], ◌∷◌, ◌++◌}
use Rattle.pat_base.specs.declared.ticks.Ticks.{Ticks}
use Rattle.store_keys.specs.declared.config.Config.{Config}
use Rattle.event_book.specs.declared.event.Event.{Event}
use Rattle.event_book.specs.declared.event.EventKind.{EventKind}
use Rattle.event_book.specs.declared.event.EventKind.TheVariants as kinds
use Rattle.event_book.specs.declared.event.ReplicationEvent.TheVariants as replications
use Rattle.event_book.specs.declared.event.WatchdogEvent.{WatchdogEvent}
use Rattle.event_book.specs.declared.event.WatchdogEvent.TheVariants as watchdogs
use Rattle.summary_model.specs.declared.answers.Seen.{Seen}
use Rattle.summary_model.specs.declared.answers.WatchOf.{WatchOf}
use Rattle.summary_model.specs.Heads.{watch_of}
use Rattle.summary_model.specs.Noting.{WatchFacts, ticks_after, noted}
use Rattle.summary_model.specs.Seeing.{Sighting, noted_over}

-- the moment that is measured from next, after what happens to a watchdog: the one that was told last
abbrev pub since_by_watchdog : Ticks → WatchdogEvent → Ticks
since_by_watchdog before (watchdogs.Measured member since) = since
since_by_watchdog before _ = before

-- the moment that is measured from next, after an event
abbrev pub since_after : Ticks → EventKind → Ticks
since_after before (kinds.Watchdog happening) = since_by_watchdog before happening
since_after before _ = before

-- the moment that is measured from next, after these events
abbrev pub since_over : Ticks → List Event → Ticks
since_over before [] = before
since_over before (event ∷ events) = since_over (since_after before event.kind) events

-- how many ticks after that moment a watchdog is armed or fed now; 0 where it is neither
abbrev pub lateness_by_watchdog : Ticks → Ticks → WatchdogEvent → ℕ
lateness_by_watchdog now since (watchdogs.Armed member until answer) = now.0 - since.0
lateness_by_watchdog now since (watchdogs.Fed member until basis) = now.0 - since.0
lateness_by_watchdog now since _ = 0

-- how many ticks after that moment an event arms or feeds a watchdog now; 0 for other events
abbrev pub lateness_at : Ticks → Ticks → EventKind → ℕ
lateness_at now since (kinds.Watchdog happening) = lateness_by_watchdog now since happening
lateness_at now since _ = 0

-- this event tells that a server that accepts writes lacks an acknowledged commit
abbrev pub is_loss : EventKind → Bool
is_loss (kinds.Replication (replications.Lacks server)) = true
is_loss _ = false

-- the first of these events tells it
abbrev pub tells_loss : List Event → Bool
tells_loss [] = false
tells_loss (event ∷ events) = is_loss event.kind

-- what is seen beside an event of this moment, behind which these stand
abbrev pub seen_beside : Ticks → Ticks → EventKind → List Event → Seen
seen_beside now since kind behind = record { lacking = tells_loss behind; lateness = lateness_at now since kind }

-- each of these events with what is seen beside it, where they begin at this moment
abbrev pub sightings_of : Ticks → Ticks → List Event → List Sighting
sightings_of clock since [] = []
sightings_of clock since (event ∷ events) =
    record { event = event; seen = seen_beside (ticks_after clock event.kind) since event.kind events }
    ∷ sightings_of (ticks_after clock event.kind) (since_after since event.kind) events

-- what the summary keeps of the events so far, and the moment that is measured from next
pub record SummaryFacts : Type 0 where
  pub watch : WatchFacts
  pub since : Ticks

-- before the first event it would be measured from the start
abbrev pub first_since : Ticks
first_since = record { 0 = 0 }

-- what the summary keeps before the first event, over these members and the first configuration
abbrev pub summary_of : List WatchOf → Config → SummaryFacts
summary_of members first = record { watch = watch_of members first; since = first_since }

-- what the summary keeps after an event, behind which these stand
abbrev pub noted_before : SummaryFacts → Event → List Event → SummaryFacts
noted_before facts event behind = record {
  watch = noted facts.watch event.kind
      (seen_beside (ticks_after facts.watch.closing.end event.kind) facts.since event.kind behind);
  since = since_after facts.since event.kind;
}

-- what the summary keeps after the events of one step
abbrev pub noted_step : SummaryFacts → List Event → SummaryFacts
noted_step facts events = record {
  watch = noted_over facts.watch (sightings_of facts.watch.closing.end facts.since events);
  since = since_over facts.since events;
}

-- what the summary keeps after the events of these steps
abbrev pub noted_steps : SummaryFacts → List (List Event) → SummaryFacts
noted_steps facts [] = facts
noted_steps facts (step ∷ steps) = noted_steps (noted_step facts step) steps

-- the book of the events of these steps
abbrev pub book_of : List (List Event) → List Event
book_of [] = []
book_of (step ∷ steps) = step ++ book_of steps
