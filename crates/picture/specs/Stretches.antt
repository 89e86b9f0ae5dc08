-- Stretches of time that are drawn shorter than they are.
use Rattle.std.specs.Prelude.{ℕ, ◌-◌, ◌/◌, ◌%◌, ◌++◌, nat_lt, if◌then◌else◌, List, [], ◌∷◌, codes}
use Rattle.std.specs.Fmt.{decimal}
use Rattle.pat_base.specs.declared.ticks.TheConstants.{TICKS_OF_SECOND}
use Rattle.run_reading.specs.Runs.{SightText}
use Rattle.run_reading.specs.declared.run.TheConstants.{LONGEST_STRETCH}
use Rattle.svg.specs.Forests.{Forest, beside, nothing}
use Rattle.svg.specs.Shapes.{rect_tree}
use Rattle.svg.specs.declared.paint.Paint.TheVariants.{Shortened}
use Rattle.picture.specs.Frames.{x_at}
use Rattle.picture.specs.declared.lanes.TheConstants.{TOP}

-- how long a stretch is, and how long it is drawn
abbrev pub stretch_text : ℕ → List ℕ
stretch_text ticks = decimal (ticks / TICKS_OF_SECOND)
    ++ (codes "." ++ (decimal (ticks % TICKS_OF_SECOND) ++ codes " s without lines are drawn as 5.0 s"))

-- the stretch of so many ticks before a line
unfoldable pub stretch_tree : ℕ → ℕ → SightText → ℕ → Forest
stretch_tree end height sight ticks =
    rect_tree (record {
      x = x_at end (sight.offset - LONGEST_STRETCH);
      y = TOP;
      width = x_at end sight.offset - x_at end (sight.offset - LONGEST_STRETCH);
      height = height;
    }) Shortened (stretch_text ticks)

-- that stretch, where it is drawn shorter than it is
abbrev pub stretch_if : ℕ → ℕ → SightText → ℕ → Forest
stretch_if end height sight ticks =
    if nat_lt LONGEST_STRETCH ticks then stretch_tree end height sight ticks else nothing

-- each stretch before one of these lines that is drawn shorter than it is, behind a line at the moment `last`
abbrev pub stretches_tree : ℕ → ℕ → ℕ → List SightText → Forest
stretches_tree end height last [] = nothing
stretches_tree end height last (sight ∷ sights) =
    beside (stretch_if end height sight (sight.tick - last)) (stretches_tree end height sight.tick sights)
