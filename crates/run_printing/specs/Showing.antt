-- What steps brought, as it is printed and noted.
use Rattle.std.specs.Prelude.{ℕ, ◌≡◌, ◌++◌, Bool, List, [], ◌∷◌, Result, OnOk, IsErrOf}
use Rattle.pat_outside.specs.declared.outside.Sink.{Ghosts}
use Rattle.pat_outside.specs.Outside.{Grew}
use Rattle.pat_outside.specs.Prints.{Prints}
use Rattle.event_book.specs.declared.event.Event.{Event}
use Rattle.event_book.specs.Text.{lines_of}
use Rattle.summary_model.specs.Sights.{SummaryFacts, noted_steps}
use Rattle.run_printing.specs.declared.print_error.PrintError.{PrintError}
use Rattle.run_printing.specs.declared.print_error.PrintError.TheVariants.{Memory, Write}

-- the lines of what these steps brought, where none of them changes whether messages are traced
abbrev pub lines_by_step : Bool → List (List Event) → List ℕ
lines_by_step trace [] = []
lines_by_step trace (events ∷ more) = lines_of trace events ++ lines_by_step trace more

-- the lines of the first of these steps were printed, each step's whole
pub record ShowsWhole {K : Type 0} (sink : Ghosts K) (out then : K) (trace : Bool) (brought : List (List Event)) : Type
    0 where
  pub done : List (List Event)
  pub more : List (List Event)
  pub parts : done ++ more ≡ brought
  pub grew : Grew (sink.content out) (sink.content then) (lines_by_step trace done)

-- what these steps brought was noted, and printed; where memory is wanting, the first of them, whole
pub record Shows {K X : Type 0} (sink : Ghosts K) (before after : SummaryFacts) (trace : Bool) (out then : K)
    (result : Result X PrintError) (brought : List (List Event)) : Type 0 where
  pub noted : OnOk result (after ≡ noted_steps before brought)
  pub printed : Prints sink out then Write result (lines_by_step trace brought)
  pub whole : IsErrOf result Memory → ShowsWhole sink out then trace brought
