-- Books, their fronts, and when something was so for the first time.
use Rattle.std.specs.Prelude.{ℕ, ◌≡◌, List, [], ◌∷◌, ◌++◌}
use Rattle.event_book.specs.declared.event.Event.{Event}
use Rattle.event_book.specs.Clock.{now_after}
use Rattle.event_book.specs.Premises.{Moments, moments_after}
use Rattle.summary_model.specs.declared.answers.FirstMoment.{FirstMoment}
use Rattle.summary_model.specs.declared.answers.FirstMoment.TheVariants as firsts

-- the moment after these events
abbrev pub now_over : ℕ → List Event → ℕ
now_over now [] = now
now_over now (event ∷ events) = now_over (now_after now event.kind) events

-- the moments that feeds are measured from, after these events
abbrev pub moments_over : Moments → List Event → Moments
moments_over moments [] = moments
moments_over moments (event ∷ events) = moments_over (moments_after moments event.kind) events

-- each front of this book is such, the whole one too
pub record AreAllFronts (P : List Event → Type 0) (book : List Event) : Type 0 where
  pub each : (front rest : List Event) → front ++ rest ≡ book → P front

-- a front of this book, which ends at this moment, is none such, and each shorter front is
pub record IsFirstBreak (P : List Event → Type 0) (book : List Event) (moment : ℕ) : Type 0 where
  pub front : List Event
  pub rest : List Event
  pub whole : front ++ rest ≡ book
  pub earlier : (shorter more : List Event) (event : Event) → shorter ++ event ∷ more ≡ front → P shorter
  pub broken : P front → ⊥
  pub moment_is : moment ≡ now_over 0 front

-- the fronts of this book are such: all of them, or those that are shorter than one that ends at this moment
abbrev pub IsToldFirst : (List Event → Type 0) → List Event → FirstMoment → Type 0
IsToldFirst P book firsts.Never = AreAllFronts P book
IsToldFirst P book (firsts.At moment) = IsFirstBreak P book moment.0
