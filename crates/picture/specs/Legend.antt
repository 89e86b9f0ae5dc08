-- What stands below the axis.
use Rattle.std.specs.Prelude.{ℕ, ◌+◌, ◌*◌, ◌++◌, List, [], ◌∷◌, Option, Some, None, codes}
use Rattle.std.specs.Fmt.{decimal}
use Rattle.run_reading.specs.Runs.{AnswerText}
use Rattle.svg.specs.Forests.{Forest, beside, nothing}
use Rattle.svg.specs.Shapes.{class_word, label_tree, rect_tree}
use Rattle.svg.specs.declared.paint.Paint.{Paint}
use Rattle.svg.specs.declared.paint.Paint.TheVariants.{Alarm, Label}
use Rattle.picture.specs.Alarms.{alarm_of}
use Rattle.picture.specs.declared.legend.TheConstants.{KEY, KEYS, LINE}

-- a colour, and its word
unfoldable pub square_tree : ℕ → ℕ → Paint → Forest
square_tree x y paint = rect_tree (record { x = x; y = y; width = 12; height = 12 }) paint (class_word paint)

unfoldable pub word_tree : ℕ → ℕ → Paint → Forest
word_tree x y paint = label_tree (record { x = x; y = y }) Label (class_word paint)

-- both
unfoldable pub key_tree : ℕ → ℕ → Paint → Forest
key_tree place y paint = beside (square_tree (8 + place * KEY) y paint) (word_tree (24 + place * KEY) (y + 10) paint)

-- these colours, from this place on
abbrev pub keys_from : ℕ → ℕ → List Paint → Forest
keys_from place y [] = nothing
keys_from place y (paint ∷ paints) = beside (key_tree place y paint) (keys_from (place + 1) y paints)

-- the colours with their words
unfoldable pub keys_tree : ℕ → Forest
keys_tree y = keys_from 0 y KEYS

-- what a line of the summary is painted as: red where it tells when a promise ended
abbrev pub paint_by : Option ℕ → Paint
paint_by None = Label
paint_by (Some moment) = Alarm

abbrev pub answer_paint : AnswerText → Paint
answer_paint answer = paint_by (alarm_of answer)

-- a line of the summary
unfoldable pub answer_tree : ℕ → AnswerText → Forest
answer_tree y answer = label_tree (record { x = 8; y = y }) (answer_paint answer) answer.line

-- these lines of the summary, from this place on
abbrev pub answers_from : ℕ → ℕ → List AnswerText → Forest
answers_from place y [] = nothing
answers_from place y (answer ∷ answers) =
    beside (answer_tree (y + place * LINE) answer) (answers_from (place + 1) y answers)

-- the lines of the summary
unfoldable pub answers_tree : ℕ → List AnswerText → Forest
answers_tree y answers = answers_from 0 y answers

-- how many lines aren't drawn
abbrev pub left_text : ℕ → List ℕ
left_text count = codes "lines that are not drawn: " ++ decimal count

unfoldable pub left_tree : ℕ → ℕ → Forest
left_tree y count = label_tree (record { x = 8; y = y }) Label (left_text count)

-- the legend
unfoldable pub legend_tree : ℕ → List AnswerText → ℕ → Forest
legend_tree y answers left_out =
    beside (beside (keys_tree y) (left_tree (y + 2 * LINE) left_out)) (answers_tree (y + 3 * LINE) answers)
