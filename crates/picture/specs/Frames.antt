-- Where moments stand.
use Rattle.std.specs.Prelude.{ℕ, ◌+◌, ◌-◌, ◌*◌, ◌/◌, max, nat_le, if◌then◌else◌, List, [], ◌∷◌, Option, Some, fold}
use Rattle.run_reading.specs.declared.answer.Answer.{Answer}
use Rattle.run_reading.specs.declared.answer.Answer.TheVariants.{End}
use Rattle.run_reading.specs.Runs.{AnswerText, RunText, SightText, offset_after}
use Rattle.picture.specs.declared.frame.TheConstants.{AXIS, LEFT}

-- the moment of the end, where this answer tells it
abbrev pub end_told : ℕ → Answer → Option ℕ → ℕ
end_told end End (Some moment) = moment
end_told end _ _ = end

-- the same of a line of the summary
abbrev pub end_by : ℕ → AnswerText → ℕ
end_by end answer = end_told end answer.answered.answer answer.answered.moment

-- the moment of the end, where the summary tells it, and else this one
abbrev pub end_of : List AnswerText → ℕ → ℕ
end_of answers tick = fold end_by tick answers

-- so far behind the start a run ends, at least one tick
abbrev pub frame_end : RunText → ℕ
frame_end run = max (offset_after run.offset (end_of run.answers run.tick - run.tick)) 1

-- where a moment so far behind the start stands, in pixels, where the end stands so far behind it
abbrev pub x_at : ℕ → ℕ → ℕ
x_at end offset = LEFT + offset * AXIS / end

-- the moment of a line where that comes no later than this one, and else the last before it; and where that is drawn
abbrev pub point_tick : ℕ → ℕ → SightText → ℕ
point_tick tick last sight = if nat_le sight.tick tick then sight.tick else last

abbrev pub point_offset : ℕ → ℕ → SightText → ℕ
point_offset tick offset sight = if nat_le sight.tick tick then sight.offset else offset

-- how far behind the start a moment is drawn that comes behind the one
-- that is drawn so far behind it, with these lines between
abbrev pub offset_from : ℕ → ℕ → List SightText → ℕ → ℕ
offset_from last offset [] tick = offset_after offset (tick - last)
offset_from last offset (sight ∷ sights) tick =
    offset_from (point_tick tick last sight) (point_offset tick offset sight) sights tick

-- how far behind the start a moment is drawn
abbrev pub offset_at : List SightText → ℕ → ℕ
offset_at sights tick = offset_from 0 0 sights tick
