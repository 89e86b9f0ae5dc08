-- What a script has at most. It is counted on the bytes alone, whatever faults they have.
use Rattle.std.specs.Prelude.{ℕ, ◌+◌, ◌-◌, ◌^◌, nat_lt, min, Bool, true, false, if◌then◌else◌, List, Option, Some, None, codes, length, count_by, sum_by}
use Rattle.script_words.specs.Lines.{lines_in}
use Rattle.script_words.specs.Numbers.{number}
use Rattle.script_grammar.specs.FirstWords.{keyword_of}
use Rattle.script_words.specs.Words.{cut_word}
use Rattle.pat_base.specs.declared.member_id.TheConstants.{MOST_MEMBERS}
use Rattle.script_model.specs.declared.keyword.Keyword.{Keyword}
use Rattle.script_model.specs.declared.keyword.Keyword.TheVariants as words
use Rattle.script_grammar.specs.declared.limit.Limit.{Limit}
use Rattle.script_grammar.specs.declared.limit.Limit.TheVariants as limits

-- so many bytes a script may have
abbrev pub most_bytes : ℕ
most_bytes = 1048576

-- so many lines
abbrev pub most_lines : ℕ
most_lines = 100000

-- so many ticks, those of its lines with those that come beside them
abbrev pub most_ticks : ℕ
most_ticks = 1000000

-- what a limit is called
abbrev pub limit_text : Limit → List ℕ
limit_text limits.Bytes = codes "bytes"
limit_text limits.Lines = codes "lines"
limit_text limits.Members = codes "members"
limit_text limits.Ticks = codes "ticks"

-- the first word 'member'
abbrev pub is_member_word : Option Keyword → Bool
is_member_word (Some words.Member) = true
is_member_word _ = false

-- a line whose first word is 'member', whatever follows
abbrev pub is_member_line : List ℕ → Bool
is_member_line line = is_member_word (keyword_of (cut_word line).0)

-- the lines of members
abbrev pub member_line_count : List (List ℕ) → ℕ
member_line_count lines = count_by is_member_line lines

-- a number, or no ticks
abbrev pub ticks_or_none : Option ℕ → ℕ
ticks_or_none None = 0
ticks_or_none (Some n) = n

-- the ticks of the words behind 'tick' or 'run': those of a number alone
abbrev pub ticks_behind : Option (List ℕ) → ℕ
ticks_behind None = 0
ticks_behind (Some words) = ticks_or_none (number words)

-- the ticks of a line, from its first word and what stands behind it
abbrev pub ticks_of_words : Option Keyword → Option (List ℕ) → ℕ
ticks_of_words (Some words.Tick) rest = ticks_behind rest
ticks_of_words (Some words.Run) rest = ticks_behind rest
ticks_of_words _ rest = 0

-- the ticks of a line: of 'tick N' and of 'run N' they are N, and any other has none
abbrev pub ticks_in_line : List ℕ → ℕ
ticks_in_line line = ticks_of_words (keyword_of (cut_word line).0) (cut_word line).1

-- the ticks of all lines, which end at the greatest number of 64 bits
abbrev pub ticks_in : List (List ℕ) → ℕ
ticks_in lines = min (sum_by ticks_in_line lines) (2 ^ 64 - 1)

-- the first limit that lines pass, if they pass any, where so many ticks come beside those of the lines
abbrev pub limit_of_lines : ℕ → List (List ℕ) → Option Limit
limit_of_lines waited lines =
    if nat_lt most_lines (length lines) then Some limits.Lines else if nat_lt MOST_MEMBERS (member_line_count lines)
    then Some limits.Members else if nat_lt most_ticks (ticks_in lines + waited) then Some limits.Ticks else None

-- the first limit that the bytes pass, if they pass any, where so many ticks come beside those of their lines
abbrev pub limit_of : ℕ → List ℕ → Option Limit
limit_of waited bytes =
    if nat_lt most_bytes (length bytes) then Some limits.Bytes else limit_of_lines waited (lines_in bytes)
