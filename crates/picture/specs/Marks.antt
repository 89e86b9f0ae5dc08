-- Marks with their texts.
use Rattle.std.specs.Prelude.{ℕ, ◌+◌, ◌*◌, ◌&&◌, nat_le, Bool, true, false, List, [], ◌∷◌, Option, Some, None, length, take, unwrap_or, slice_set}
use Rattle.std.specs.List.{position}
use Rattle.script_words.specs.Words.{cut_word}
use Rattle.run_reading.specs.declared.happening.Happening.{Happening}
use Rattle.run_reading.specs.declared.happening.Happening.TheVariants as happenings
use Rattle.run_reading.specs.Runs.{SightText}
use Rattle.svg.specs.Forests.{Forest, beside, nothing}
use Rattle.svg.specs.Shapes.{label_tree, rect_tree}
use Rattle.svg.specs.declared.paint.Paint.{Paint}
use Rattle.svg.specs.declared.paint.Paint.TheVariants as paints
use Rattle.picture.specs.Bands.{is_in}
use Rattle.picture.specs.Frames.{x_at}
use Rattle.picture.specs.declared.marks.TheConstants.{LETTER, LONGEST_LABEL, ROW}

-- a mark shows this; the others are seen by a bar that begins or ends
abbrev pub is_marked : Happening → Bool
is_marked happenings.TakesKey = false
is_marked happenings.ReleasesKey = false
is_marked happenings.KeyExpires = false
is_marked happenings.Arms = false
is_marked happenings.Feeds = false
is_marked happenings.Follows = false
is_marked happenings.AcceptsNoMore = false
is_marked happenings.StartsAsReplica = false
is_marked happenings.IsHeld = false
is_marked happenings.Resumes = false
is_marked happenings.IsKilled = false
is_marked happenings.IsStarted = false
is_marked _ = true

-- a line has a mark in this lane
abbrev pub is_shown : Option ℕ → SightText → Bool
is_shown lane sight = is_in sight.lane lane && is_marked sight.happening

-- what stands behind the first blank
abbrev pub skip_word : List ℕ → List ℕ
skip_word bytes = unwrap_or (cut_word bytes).1 []

-- what a line tells behind its moment, and behind its name where it has a lane by that
abbrev pub words_behind : Option ℕ → List ℕ → List ℕ
words_behind None line = skip_word line
words_behind (Some lane) line = skip_word (skip_word line)

-- the text of a mark
unfoldable pub label_of : SightText → List ℕ
label_of sight = take LONGEST_LABEL (words_behind sight.lane sight.line)

-- what a mark is painted as
abbrev pub mark_paint : Option ℕ → Paint
mark_paint None = paints.Commit
mark_paint (Some lane) = paints.Mark

-- the stroke of a line at this place
unfoldable pub stroke_tree : ℕ → ℕ → ℕ → SightText → Forest
stroke_tree x y height sight =
    rect_tree (record { x = x; y = y + 16; width = 2; height = height }) (mark_paint sight.lane) sight.line

-- a text in this row
unfoldable pub label_in : ℕ → ℕ → ℕ → List ℕ → Forest
label_in x y row label = label_tree (record { x = x + 4; y = y + 58 + row * ROW }) paints.Label label

-- a mark, with its text where a row is free
abbrev pub mark_in : ℕ → ℕ → Option ℕ → SightText → List ℕ → Forest
mark_in x y None sight label = stroke_tree x y 34 sight
mark_in x y (Some row) sight label = beside (stroke_tree x y (40 + row * ROW) sight) (label_in x y row label)

-- the first row that is free at this place
abbrev pub row_at : List ℕ → ℕ → Option ℕ
row_at free x = position (λ from. nat_le from x) free

-- a mark at its place, with its text in the first row that is free there
unfoldable pub mark_tree : ℕ → ℕ → List ℕ → SightText → Forest
mark_tree end y free sight =
    mark_in (x_at end sight.offset) y (row_at free (x_at end sight.offset)) sight (label_of sight)

-- from where on rows are free behind a text of so many bytes in this row
abbrev pub rows_with : List ℕ → Option ℕ → ℕ → ℕ → List ℕ
rows_with free None x bytes = free
rows_with free (Some row) x bytes = slice_set free row (x + (bytes + 2) * LETTER)

-- the same behind the text of a line
unfoldable pub rows_after : ℕ → List ℕ → SightText → List ℕ
rows_after end free sight =
    rows_with free (row_at free (x_at end sight.offset)) (x_at end sight.offset) (length (label_of sight))

-- the mark of a line that has one
abbrev pub mark_if : ℕ → ℕ → List ℕ → SightText → Bool → Forest
mark_if end y free sight true = mark_tree end y free sight
mark_if end y free sight false = nothing

abbrev pub rows_if : ℕ → List ℕ → SightText → Bool → List ℕ
rows_if end free sight true = rows_after end free sight
rows_if end free sight false = free

-- four rows that are free from the left on
abbrev pub no_labels : List ℕ
no_labels = 0 ∷ 0 ∷ 0 ∷ 0 ∷ []

-- a mark for each line of a lane that has one
abbrev pub marks_tree : ℕ → Option ℕ → ℕ → List ℕ → List SightText → Forest
marks_tree end lane y free [] = nothing
marks_tree end lane y free (sight ∷ sights) =
    beside (mark_if end y free sight (is_shown lane sight))
    (marks_tree end lane y (rows_if end free sight (is_shown lane sight)) sights)
