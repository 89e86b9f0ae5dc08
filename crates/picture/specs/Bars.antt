-- Bars.
use Rattle.std.specs.Prelude.{ℕ, ◌-◌, List, [], ◌∷◌, Option, Some, None}
use Rattle.run_reading.specs.Runs.{SightText}
use Rattle.svg.specs.Forests.{Forest, beside, nothing}
use Rattle.svg.specs.Shapes.{rect_tree}
use Rattle.svg.specs.declared.paint.Paint.{Paint}
use Rattle.picture.specs.Bands.{paint_in}
use Rattle.picture.specs.Frames.{x_at}
use Rattle.picture.specs.declared.bars.Row.{Row}

-- the bar from a line on to what is so far behind the start
unfoldable pub bar_tree : ℕ → Row → SightText → ℕ → Paint → Forest
bar_tree end row sight until paint =
    rect_tree (record {
      x = x_at end sight.offset;
      y = row.y;
      width = x_at end until - x_at end sight.offset;
      height = row.height;
    }) paint sight.line

-- where a bar ends that these lines follow: at the first that says what the band is from there on, or at the end
abbrev pub until_if : Option Paint → SightText → ℕ → ℕ
until_if None sight later = later
until_if (Some paint) sight later = sight.offset

abbrev pub until_in : ℕ → Row → List SightText → ℕ
until_in end row [] = end
until_in end row (sight ∷ sights) = until_if (paint_in row.band row.lane sight) sight (until_in end row sights)

-- the bar of a line, if it has one
abbrev pub bar_if : ℕ → Row → SightText → ℕ → Option Paint → Forest
bar_if end row sight until None = nothing
bar_if end row sight until (Some paint) = bar_tree end row sight until paint

-- a bar for each line that says what the band is from there on, up to
-- the next such line or the end; the last stands first
abbrev pub bars_tree : ℕ → Row → List SightText → Forest
bars_tree end row [] = nothing
bars_tree end row (sight ∷ sights) = beside (bars_tree end row sights)
    (bar_if end row sight (until_in end row sights) (paint_in row.band row.lane sight))
