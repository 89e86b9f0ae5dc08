-- What a line of the closing summary answers.
use Rattle.std.specs.Prelude.{ℕ, nat_eq, if◌then◌else◌, Bool, List, Option, Some, None, codes}
use Rattle.std.specs.List.{find, starts_with}
use Rattle.std.specs.Str.{bytes_eq}
use Rattle.std.specs.Option.{option_and_then, option_map}
use Rattle.script_words.specs.Numbers.{number}
use Rattle.script_words.specs.Words.{cut_word}
use Rattle.run_reading.specs.declared.answer.Answer.{Answer}
use Rattle.run_reading.specs.declared.answer.Answer.TheVariants as answers
use Rattle.run_reading.specs.declared.answer.Answered.{Answered}
use Rattle.run_reading.specs.declared.answer.TheConstants.{ANSWERS}
use Rattle.run_reading.specs.Forms.{behind}

-- how a line of the summary begins
abbrev pub front_of : Answer → List ℕ
front_of answers.End = codes "end at "
front_of answers.Premises = codes "premises "
front_of answers.Synchronous = codes "synchronous "
front_of answers.TwoWriters = codes "two writers "
front_of answers.Writers = codes "writers "
front_of answers.Acknowledged = codes "acknowledged "
front_of answers.Lost = codes "lost "

-- a moment is told behind a front
abbrev pub moment_behind : List ℕ → List ℕ → Option (Option ℕ)
moment_behind front words = option_map (λ tick. Some tick) (option_and_then number (behind front words))

-- these words tell that it never was so, or a moment stands behind that front
abbrev pub never_or : List ℕ → List ℕ → List ℕ → Option (Option ℕ)
never_or never front words = if bytes_eq words never then Some None else moment_behind front words

-- a moment behind a front, with the cause behind it
abbrev pub caused_at : List ℕ × Option (List ℕ) → Option (Option ℕ)
caused_at (tick, None) = None
caused_at (tick, Some cause) =
    if starts_with nat_eq cause (codes "by ") then option_map (λ n. Some n) (number tick) else None

-- the moment that an answer tells, if the words are one: when it broke, or first was so
abbrev pub moment_of : Answer → List ℕ → Option (Option ℕ)
moment_of answers.End words = moment_behind (codes "") words
moment_of answers.Premises words = if bytes_eq words (codes "met") then Some None
    else option_and_then (λ rest. caused_at (cut_word rest)) (behind (codes "broken at ") words)
moment_of answers.Synchronous words =
    if bytes_eq words (codes "on") then Some None else never_or (codes "off") (codes "broken at ") words
moment_of answers.TwoWriters words = never_or (codes "never") (codes "first at ") words
moment_of answers.Writers words = Some None
moment_of answers.Acknowledged words = option_map (λ n. None) (number words)
moment_of answers.Lost words = never_or (codes "never") (codes "first at ") words

-- the line is one of this answer
abbrev pub begins_as : List ℕ → Answer → Bool
begins_as line answer = starts_with nat_eq line (front_of answer)

-- what the words of an answer tell
abbrev pub answered_as : Option Answer → List ℕ → Option Answered
answered_as None line = None
answered_as (Some answer) line = option_map (λ moment. record { answer = answer; moment = moment })
    (option_and_then (moment_of answer) (behind (front_of answer) line))

-- what a line answers, if it is one of a closing summary
abbrev pub answered_of : List ℕ → Option Answered
answered_of line = answered_as (find (begins_as line) ANSWERS) line
