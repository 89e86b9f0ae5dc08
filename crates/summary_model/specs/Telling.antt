-- Books that tell what is seen beside their events.
use Rattle.std.specs.Prelude.{ℕ, ◌≡◌, ◌⊎◌, ◌↔◌, ◌≤◌, IsTrue, false, List, [], ◌∷◌, ◌++◌, length}
use Rattle.pat_base.specs.declared.ticks.Ticks.{Ticks}
use Rattle.store_keys.specs.Settings.{Settings}
use Rattle.event_book.specs.declared.event.Event.{Event}
use Rattle.event_book.specs.declared.event.EventKind.{EventKind}
use Rattle.event_book.specs.declared.reason.Basis.{Basis}
use Rattle.event_book.specs.declared.reason.Basis.TheVariants as bases
use Rattle.event_book.specs.Acknowledged.{acknowledged_in}
use Rattle.event_book.specs.Kept.{KeepsCommits}
use Rattle.event_book.specs.Logs.{Logs}
use Rattle.event_book.specs.Writers.{HasOneWriter, writes_over}
use Rattle.event_book.specs.Premises.{IsFedFrom, Moments, OnFeed, moments_after}
use Rattle.summary_model.specs.declared.answers.TheConstants.{SERVERS}
use Rattle.summary_model.specs.declared.answers.Closing.{Closing}
use Rattle.summary_model.specs.declared.answers.WatchOf.{WatchOf}
use Rattle.summary_model.specs.Claims.{margin_ticks, margin_of, is_writer, IsToldOfPremises, IsToldOfMode}
use Rattle.summary_model.specs.Moments.{now_over, AreAllFronts, IsToldFirst}
use Rattle.summary_model.specs.Noting.{WatchFacts, margin_at}
use Rattle.summary_model.specs.Seeing.{WriterLacks}
use Rattle.summary_model.specs.Sights.{since_after, tells_loss}

-- this is the earliest moment that a feed on this basis is measured from; the clock's, where there is none
pub record IsEarliest (moments : Moments) (m : ℕ) (basis : Basis) (since : ℕ) : Type 0 where
  pub none_earlier : (moment : ℕ) → IsFedFrom moments m basis moment → since ≤ moment
  pub one : (since ≡ moments.clock) ⊎ IsFedFrom moments m basis since

-- a feed on this basis is told to be measured from this moment, and is: the
-- answer that tells the grant was sent then, or the earliest hold was taken then
abbrev pub IsMeasuredOn : Moments → ℕ → Basis → ℕ → Type 0
IsMeasuredOn moments m (bases.Grant answer) since = IsFedFrom moments m (bases.Grant answer) since
IsMeasuredOn moments m (bases.Acknowledgements members sequence) since =
    IsEarliest moments m (bases.Acknowledgements members sequence) since

-- where this event arms or feeds a watchdog, that is measured from this moment
abbrev pub IsMeasured : Moments → Ticks → EventKind → Type 0
IsMeasured moments since kind = OnFeed (λ m basis. IsMeasuredOn moments m basis since.0) kind

-- each of these events that arms or feeds a watchdog is measured from the moment that was told last before it
abbrev pub AreMeasured : Moments → Ticks → List Event → Type 0
AreMeasured moments since [] = Unit {0}
AreMeasured moments since (event ∷ events) = IsMeasured moments since event.kind
    × AreMeasured (moments_after moments event.kind) (since_after since event.kind) events

-- where no commit was lost in this book before, what stands behind the
-- event tells a loss exactly where the event brought one
abbrev pub TellsLoss : Logs → List Event → Event → List Event → Type 0
TellsLoss logs book event behind =
    AreAllFronts (KeepsCommits logs) book → IsTrue (tells_loss behind) ↔ WriterLacks logs (book ++ event ∷ [])

-- the events of one step tell the first loss, behind this book
abbrev pub TellLosses : Logs → List Event → List Event → Type 0
TellLosses logs book [] = Unit {0}
TellLosses logs book (event ∷ events) = TellsLoss logs book event events × TellLosses logs (book ++ event ∷ []) events

-- each of these steps tells the first loss in its own events, behind this book
abbrev pub EachTellsLosses : Logs → List Event → List (List Event) → Type 0
EachTellsLosses logs book [] = Unit {0}
EachTellsLosses logs book (step ∷ steps) = TellLosses logs book step × EachTellsLosses logs (book ++ step) steps

-- each answer but that of lost commits is so of this book, over the declared members and the first configuration
pub record IsSummaryButForLosses (members : List WatchOf) (first : Settings) (book : List Event)
    (closing : Closing) : Type 0 where
  pub end : closing.end.0 ≡ now_over 0 book
  pub premises : IsToldOfPremises members first book closing.premises
  pub synchronous : IsToldOfMode first book closing.synchronous
  pub two_writers : IsToldFirst HasOneWriter book closing.two_writers
  pub writers : (server : ℕ) → is_writer closing.writers server ≡ writes_over (λ n. false) book server
  pub acknowledged : closing.acknowledged ≡ length (acknowledged_in book)

-- the summary keeps what this book makes of it, but for lost commits
pub record WatchStandsButForLosses (members : List WatchOf) (first : Settings) (book : List Event)
    (facts : WatchFacts) : Type 0 where
  pub margins : (m : ℕ) → margin_ticks (margin_at facts.margins m) ≡ margin_of members m
  pub places : length facts.closing.writers ≡ SERVERS
  pub closing : IsSummaryButForLosses members first book facts.closing
