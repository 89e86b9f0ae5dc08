-- Where promises end.
use Rattle.std.specs.Prelude.{ℕ, List, [], ◌∷◌, Option, Some, None}
use Rattle.run_reading.specs.declared.answer.Answer.{Answer}
use Rattle.run_reading.specs.declared.answer.Answer.TheVariants.{Premises, TwoWriters, Lost}
use Rattle.run_reading.specs.Runs.{AnswerText, SightText}
use Rattle.svg.specs.Forests.{Forest, beside, nothing}
use Rattle.svg.specs.Shapes.{rect_tree}
use Rattle.svg.specs.declared.paint.Paint.TheVariants.{Alarm}
use Rattle.picture.specs.Frames.{offset_at, x_at}
use Rattle.picture.specs.declared.lanes.TheConstants.{TOP}

-- the moment that an answer tells, where that ends a promise: the
-- premises broke, two writers began, or a commit was lost
abbrev pub alarm_told : Answer → Option ℕ → Option ℕ
alarm_told Premises moment = moment
alarm_told TwoWriters moment = moment
alarm_told Lost moment = moment
alarm_told _ moment = None

-- the moment at which a promise ended, where this line tells one
abbrev pub alarm_of : AnswerText → Option ℕ
alarm_of answer = alarm_told answer.answered.answer answer.answered.moment

-- a stroke over all lanes
unfoldable pub alarm_tree : ℕ → ℕ → AnswerText → Forest
alarm_tree x height answer = rect_tree (record { x = x; y = TOP; width = 3; height = height }) Alarm answer.line

-- a stroke where a promise ended
abbrev pub alarm_if : ℕ → ℕ → List SightText → AnswerText → Option ℕ → Forest
alarm_if end height sights answer None = nothing
alarm_if end height sights answer (Some moment) = alarm_tree (x_at end (offset_at sights moment)) height answer

-- one for each such answer
abbrev pub alarms_tree : ℕ → ℕ → List SightText → List AnswerText → Forest
alarms_tree end height sights [] = nothing
alarms_tree end height sights (answer ∷ answers) =
    beside (alarm_if end height sights answer (alarm_of answer)) (alarms_tree end height sights answers)
