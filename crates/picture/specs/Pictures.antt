-- The picture of a run.
use Rattle.std.specs.Prelude.{ℕ, ◌+◌, ◌-◌, ◌*◌, List, length}
use Rattle.pat_base.specs.declared.name.Name.{Name}
use Rattle.run_reading.specs.Runs.{AnswerText, RunText, SightText}
use Rattle.svg.specs.Forests.{Forest, beside, forest_text}
use Rattle.svg.specs.Shapes.{root_tree, style_tree}
use Rattle.picture.specs.Alarms.{alarms_tree}
use Rattle.picture.specs.Axis.{axis_tree}
use Rattle.picture.specs.Frames.{frame_end}
use Rattle.picture.specs.Lanes.{lane_y, lanes_tree}
use Rattle.picture.specs.Legend.{legend_tree}
use Rattle.picture.specs.Stretches.{stretches_tree}
use Rattle.picture.specs.declared.drawing.TheConstants.{SHEET}
use Rattle.picture.specs.declared.frame.TheConstants.{WIDTH}
use Rattle.picture.specs.declared.lanes.TheConstants.{TOP}
use Rattle.picture.specs.declared.legend.TheConstants.{LINE}

-- how high all lanes are, of so many members and of the commits
abbrev pub lanes_height : ℕ → ℕ
lanes_height members = lane_y (members + 1) - TOP

-- how high a picture is, of so many members and lines of the summary
abbrev pub height_of : ℕ → ℕ → ℕ
height_of members answers = TOP + lanes_height members + (answers + 6) * LINE

-- the style sheet, the stretches that are shortened, and over them the lanes
unfoldable pub upper_tree : ℕ → ℕ → List Name → List SightText → Forest
upper_tree end height names sights =
    beside (beside (style_tree SHEET.now) (stretches_tree end height 0 sights)) (lanes_tree end 0 names sights)

-- the axis, and where promises end
unfoldable pub lower_tree : ℕ → ℕ → List SightText → List AnswerText → Forest
lower_tree end height sights answers =
    beside (axis_tree end (TOP + height + LINE) sights) (alarms_tree end height sights answers)

-- what stands in a picture whose end stands so far behind the start, and whose lanes are so high
unfoldable pub content_of : ℕ → ℕ → RunText → Forest
content_of end height run =
    beside (beside (upper_tree end height run.names run.sights) (lower_tree end height run.sights run.answers))
    (legend_tree (TOP + height + 2 * LINE) run.answers run.left_out)

-- what stands in the picture
abbrev pub content_tree : RunText → Forest
content_tree run = content_of (frame_end run) (lanes_height (length run.names)) run

-- the picture
unfoldable pub picture_tree : RunText → Forest
picture_tree run = root_tree WIDTH (height_of (length run.names) (length run.answers)) (content_tree run)

-- its text
unfoldable pub picture_text : RunText → List ℕ
picture_text run = forest_text (picture_tree run)
