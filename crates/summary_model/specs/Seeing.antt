-- What is seen beside an event.
use Rattle.std.specs.Prelude.{ℕ, ◌≡◌, ◌⊎◌, ◌↔◌, ◌-◌, ◌≤◌, IsTrue, true, List, [], ◌∷◌, ◌++◌}
use Rattle.event_book.specs.declared.event.Event.{Event}
use Rattle.event_book.specs.declared.event.EventKind.{EventKind}
use Rattle.event_book.specs.declared.reason.Basis.{Basis}
use Rattle.event_book.specs.Acknowledged.{acknowledged_in}
use Rattle.event_book.specs.Logs.{Logs, entries_at, logs_over}
use Rattle.event_book.specs.Writers.{AcceptsWrites}
use Rattle.event_book.specs.Premises.{IsFedFrom, Moments, OnFeed, first_moments}
use Rattle.summary_model.specs.declared.answers.FirstMoment.{FirstMoment}
use Rattle.summary_model.specs.declared.answers.FirstMoment.TheVariants as firsts
use Rattle.summary_model.specs.declared.answers.Seen.{Seen}
use Rattle.wal_model.specs.Lacking.{lacks_in}
use Rattle.summary_model.specs.Moments.{moments_over}
use Rattle.summary_model.specs.Noting.{WatchFacts, noted}

-- a feed on this basis comes so late: so many ticks after the earliest
-- moment that it is measured from, 0 where there is none
pub record IsLatenessOn (moments : Moments) (m : ℕ) (basis : Basis) (lateness : ℕ) : Type 0 where
  pub most : (moment : ℕ) → IsFedFrom moments m basis moment → moments.clock - moment ≤ lateness
  pub one : (lateness ≡ 0) ⊎ ((moment : ℕ) × IsFedFrom moments m basis moment × (lateness ≡ moments.clock - moment))

-- where this event arms or feeds a watchdog, it comes so late
abbrev pub IsLateness : Moments → EventKind → ℕ → Type 0
IsLateness moments kind lateness = OnFeed (λ m basis. IsLatenessOn moments m basis lateness) kind

-- at the end of this book, over servers that began with these logs, this server lacks an acknowledged commit
abbrev pub LacksOne : Logs → List Event → ℕ → Type 0
LacksOne logs book server = lacks_in (entries_at (logs_over logs book) server) (acknowledged_in book) ≡ true

-- some server that accepts writes lacks an acknowledged commit
abbrev pub WriterLacks : Logs → List Event → Type 0
WriterLacks logs book = (server : ℕ) × AcceptsWrites book server × LacksOne logs book server

-- what is seen beside an event behind this book is right; whether a commit is lacked matters only while none was lost
pub record IsSeen (logs : Logs) (book : List Event) (lost : FirstMoment) (event : Event) (seen : Seen) : Type 0 where
  pub lateness : IsLateness (moments_over first_moments book) event.kind seen.lateness
  pub lacking : lost ≡ firsts.Never → IsTrue seen.lacking ↔ WriterLacks logs (book ++ event ∷ [])

-- an event, with what is seen beside it
pub record Sighting : Type 0 where
  pub event : Event
  pub seen : Seen

-- the events of these
abbrev pub events_in : List Sighting → List Event
events_in [] = []
events_in (sighting ∷ sightings) = sighting.event ∷ events_in sightings

-- what the summary keeps after these are noted, one after another
abbrev pub noted_over : WatchFacts → List Sighting → WatchFacts
noted_over facts [] = facts
noted_over facts (sighting ∷ sightings) = noted_over (noted facts sighting.event.kind sighting.seen) sightings

-- what is seen beside each of these events is right, behind this book, after which the summary keeps these facts
abbrev pub AreSeen : Logs → List Event → WatchFacts → List Sighting → Type 0
AreSeen logs book facts [] = Unit {0}
AreSeen logs book facts (sighting ∷ sightings) =
    IsSeen logs book facts.closing.lost sighting.event sighting.seen
    × AreSeen logs (book ++ sighting.event ∷ []) (noted facts sighting.event.kind sighting.seen) sightings
