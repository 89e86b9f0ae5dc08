-- A run as its lines tell it.
use Rattle.std.specs.Prelude.{ℕ, ◌+◌, ◌-◌, ◌^◌, min, nat_lt, if◌then◌else◌, List, [], ◌∷◌, ◌++◌, Option, Some, None, length, fold}
use Rattle.std.specs.List.{position}
use Rattle.std.specs.Str.{bytes_eq}
use Rattle.pat_base.specs.Name.{name_bytes}
use Rattle.pat_base.specs.declared.name.Name.{Name}
use Rattle.run_reading.specs.declared.answer.Answered.{Answered}
use Rattle.run_reading.specs.declared.happening.Happening.{Happening}
use Rattle.run_reading.specs.declared.run.TheConstants.{LONGEST_STRETCH, MOST_LANES, MOST_ANSWERS}
use Rattle.run_reading.specs.declared.sight.TheConstants.{MOST_OFFSET}
use Rattle.run_reading.specs.declared.told.Told.{Told}
use Rattle.run_reading.specs.Answers.{answered_of}
use Rattle.run_reading.specs.Told.{told_of}

-- a line that is drawn: its moment; how far behind the start that is, where no stretch without lines is longer
-- than it may be; the lane of whom it speaks of, or none where it speaks of a commit; what it tells; and its bytes
pub record SightText : Type 0 where
  pub tick : ℕ
  pub offset : ℕ
  pub lane : Option ℕ
  pub happening : Happening
  pub line : List ℕ

-- an answer of the summary with its line
pub record AnswerText : Type 0 where
  pub answered : Answered
  pub line : List ℕ

-- what is drawn of a run: of whom in which order, the lines with a moment, the answers of
-- the summary, how many other lines there are, and where the last line with a moment stands
pub record RunText : Type 0 where
  pub names : List Name
  pub sights : List SightText
  pub answers : List AnswerText
  pub left_out : ℕ
  pub tick : ℕ
  pub offset : ℕ

-- nothing is drawn
abbrev pub empty_run : RunText
empty_run = record { names = []; sights = []; answers = []; left_out = 0; tick = 0; offset = 0 }

-- one more
abbrev pub one_more_left : ℕ → ℕ
one_more_left count = min (count + 1) (2 ^ 64 - 1)

-- a line that isn't drawn
abbrev pub leave_out : RunText → RunText
leave_out run = record run { left_out = one_more_left run.left_out }

-- so far behind the start is what comes so many ticks after what is so far behind it
abbrev pub offset_after : ℕ → ℕ → ℕ
offset_after offset ticks = min (offset + min ticks LONGEST_STRETCH) MOST_OFFSET

-- what a line tells, in this lane
abbrev pub sight_of : RunText → Told → Option ℕ → List ℕ → SightText
sight_of run told lane line =
    record {
      tick = told.tick;
      offset = offset_after run.offset (told.tick - run.tick);
      lane = lane;
      happening = told.happening;
      line = line;
    }

-- with a line that is drawn in this lane
abbrev pub with_sight : RunText → Told → Option ℕ → List ℕ → RunText
with_sight run told lane line =
    record run {
      sights = run.sights ++ sight_of run told lane line ∷ [];
      tick = told.tick;
      offset = offset_after run.offset (told.tick - run.tick);
    }

-- the lane of this name, if it has one
abbrev pub lane_of : List Name → Name → Option ℕ
lane_of names name = position (λ other. bytes_eq (name_bytes other) (name_bytes name)) names

-- a line of the name that has this lane, or begins one if there may be more
abbrev pub in_lane : RunText → Told → Name → List ℕ → Option ℕ → RunText
in_lane run told name line (Some lane) = with_sight run told (Some lane) line
in_lane run told name line None =
    if nat_lt (length run.names) MOST_LANES
    then with_sight (record run { names = run.names ++ name ∷ [] }) told (Some (length run.names)) line
    else leave_out run

-- a line of this name, or of a commit
abbrev pub with_named : RunText → Told → List ℕ → Option Name → RunText
with_named run told line None = with_sight run told None line
with_named run told line (Some name) = in_lane run told name line (lane_of run.names name)

-- with a line that has a moment; one that goes back in time is none of a printed run
abbrev pub with_told : RunText → List ℕ → Told → RunText
with_told run line told = if nat_lt told.tick run.tick then leave_out run else with_named run told line told.of

-- with an answer of the summary, which has no more of them than it may have
abbrev pub with_answer : RunText → List ℕ → Option Answered → RunText
with_answer run line None = leave_out run
with_answer run line (Some answered) =
    if nat_lt (length run.answers) MOST_ANSWERS
    then record run { answers = run.answers ++ record { answered = answered; line = line } ∷ [] } else leave_out run

-- with a line by what it tells
abbrev pub with_line : RunText → List ℕ → Option Told → RunText
with_line run line None = with_answer run line (answered_of line)
with_line run line (Some told) = with_told run line told

-- with one more line
unfoldable pub add_line : RunText → List ℕ → RunText
add_line run line = with_line run line (told_of line)

-- what is drawn of these lines
abbrev pub run_of : List (List ℕ) → RunText
run_of lines = fold add_line empty_run lines
