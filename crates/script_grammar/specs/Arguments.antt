-- The words behind a line's first word. What stands there is judged in the order of the faults.
use Rattle.std.specs.Prelude.{ℕ, ◌==◌, Bool, true, false, if◌then◌else◌, List, [], ◌∷◌, Option, Some, None, Result, Ok, Err, codes, length}
use Rattle.std.specs.Option.{ok_or}
use Rattle.std.specs.Str.{bytes_eq}
use Rattle.pat_base.specs.Name.{name_of}
use Rattle.pat_base.specs.declared.name.Name.{Name}
use Rattle.pat_base.specs.declared.member_id.MemberId.{MemberId}
use Rattle.script_words.specs.Faults.{on_ok, both}
use Rattle.script_grammar.specs.Members.{member_named}
use Rattle.script_words.specs.Numbers.{number}
use Rattle.script_model.specs.Ranges.{commit_size_of, delay_of}
use Rattle.script_words.specs.Tokens.{is_token}
use Rattle.script_words.specs.Words.{cut_word}
use Rattle.script_words.specs.declared.fault.Fault.{Fault}
use Rattle.script_words.specs.declared.fault.Fault.TheVariants as faults
use Rattle.script_model.specs.declared.keyword.Keyword.{Keyword}
use Rattle.script_model.specs.declared.keyword.Keyword.TheVariants as words
use Rattle.script_model.specs.declared.line.End.{End}
use Rattle.script_model.specs.declared.line.End.TheVariants as ends
use Rattle.script_model.specs.declared.line.Command.{Command}
use Rattle.script_model.specs.declared.line.Command.TheVariants as commands
use Rattle.script_model.specs.declared.line.SlowedCall.{SlowedCall}
use Rattle.script_model.specs.declared.line.SlowedCall.TheVariants as slowed_calls
use Rattle.script_model.specs.declared.line.Line.{Line}
use Rattle.script_model.specs.declared.line.Line.TheVariants as lines
use Rattle.script_model.specs.declared.ranges.CommitSize.{CommitSize}
use Rattle.script_model.specs.declared.ranges.Delay.{Delay}
use Rattle.script_model.specs.declared.request_words.RequestWords.{RequestWords}

-- a number
abbrev pub number_in : List ℕ → Result ℕ Fault
number_in word = ok_or (number word) faults.BadNumber

-- 'on' or 'off'
abbrev pub switch_in : List ℕ → Result Bool Fault
switch_in word = if bytes_eq word (codes "on") then Ok true else if bytes_eq word (codes "off") then Ok false
    else Err faults.BadOption

-- 'stop' or 'start'
abbrev pub slowed_call_in : List ℕ → Result SlowedCall Fault
slowed_call_in word = if bytes_eq word (codes "stop") then Ok slowed_calls.Stop
    else if bytes_eq word (codes "start") then Ok slowed_calls.Start else Err faults.BadOption

-- a number in the range of commits
abbrev pub commit_size_in : List ℕ → Result CommitSize Fault
commit_size_in word = on_ok (number_in word) (λ n. ok_or (commit_size_of n) faults.BadNumber)

-- a number in the range of delays
abbrev pub delay_in : List ℕ → Result Delay Fault
delay_in word = on_ok (number_in word) (λ n. ok_or (delay_of n) faults.BadNumber)

-- the member that a name declares
abbrev pub known_member : List Name → Option Name → Result MemberId Fault
known_member members None = Err faults.BadName
known_member members (Some name) = ok_or (member_named members name) faults.UnknownName

-- the name of a member
abbrev pub member_in : List Name → List ℕ → Result MemberId Fault
member_in members word = known_member members (name_of word)

-- an end of a link: 'store', or the name of a member
abbrev pub end_in : List Name → List ℕ → Result End Fault
end_in members word = if bytes_eq word (codes "store") then Ok ends.Store
    else on_ok (member_in members word) (λ member. Ok (ends.Member member))

-- a word of a body line is missing
abbrev pub missing_word : List Name → Fault
missing_word [] = faults.NoMember
missing_word (member ∷ members) = faults.WordCount

-- a word is missing behind what the words before it say
abbrev pub missing_behind : {A : Type 0} → List Name → Result A Fault → Fault
missing_behind members (Ok x) = missing_word members
missing_behind members (Err fault) = fault

-- a body line ends where its words end
abbrev pub line_end : List Name → Option (List ℕ) → Result (Unit {0}) Fault
line_end [] rest = Err faults.NoMember
line_end (member ∷ members) None = Ok tt
line_end (member ∷ members) (Some words) = Err faults.WordCount

-- what a word says, behind which the line ends
abbrev pub last_word : {A : Type 0} → List Name → Result A Fault → Option (List ℕ) → Result A Fault
last_word members value rest = on_ok value (λ x. on_ok (line_end members rest) (λ _. Ok x))

-- one word, read so
abbrev pub one_word : {A : Type 0} → List Name → (List ℕ → Result A Fault) → Option (List ℕ) → Result A Fault
one_word members read None = Err (missing_word members)
one_word members read (Some words) = last_word members (read (cut_word words).0) (cut_word words).1

-- the last word, read so, behind what the words before it say
abbrev pub word_behind : {A B : Type 0} → List Name → Result A Fault → (List ℕ → Result B Fault)
    → Option (List ℕ) → Result (A × B) Fault
word_behind members before read None = Err (missing_behind members before)
word_behind members before read (Some words) =
    last_word members (both before (read (cut_word words).0)) (cut_word words).1

-- two words, each read so
abbrev pub two_words : {A B : Type 0} → List Name → (List ℕ → Result A Fault) → (List ℕ → Result B Fault)
    → Option (List ℕ) → Result (A × B) Fault
two_words members first second None = Err (missing_word members)
two_words members first second (Some words) = word_behind members (first (cut_word words).0) second (cut_word words).1

-- the last two words, each read so, behind what the words before them say
abbrev pub words_behind : {A B C : Type 0} → List Name → Result A Fault → (List ℕ → Result B Fault)
    → (List ℕ → Result C Fault) → Option (List ℕ) → Result ((A × B) × C) Fault
words_behind members before read last None = Err (missing_behind members before)
words_behind members before read last (Some words) =
    word_behind members (both before (read (cut_word words).0)) last (cut_word words).1

-- three words, each read so
abbrev pub three_words : {A B C : Type 0} → List Name → (List ℕ → Result A Fault) → (List ℕ → Result B Fault)
    → (List ℕ → Result C Fault) → Option (List ℕ) → Result ((A × B) × C) Fault
three_words members first second third None = Err (missing_word members)
three_words members first second third (Some words) =
    words_behind members (first (cut_word words).0) second third (cut_word words).1

-- two members are one
abbrev pub same_member : MemberId → MemberId → Bool
same_member first second = first.number == second.number

-- two ends of a link are one
abbrev pub same_end : End → End → Bool
same_end ends.Store ends.Store = true
same_end ends.Store (ends.Member member) = false
same_end (ends.Member member) ends.Store = false
same_end (ends.Member first) (ends.Member second) = same_member first second

-- the ends of a link differ
abbrev pub apart : End × End → Result (End × End) Fault
apart link = if same_end link.0 link.1 then Err faults.SameEnds else Ok link

-- the two ends of a link
abbrev pub two_ends : List Name → Option (List ℕ) → Result (End × End) Fault
two_ends members rest = on_ok (two_words members (end_in members) (end_in members) rest) apart

-- a member and how long its commit is
abbrev pub commit_in : List Name → Option (List ℕ) → Result Command Fault
commit_in members rest =
    on_ok (two_words members (member_in members) commit_size_in rest) (λ said. Ok (commands.Commit said.0 said.1))

-- a member and a number
abbrev pub stream_in : List Name → Option (List ℕ) → Result Command Fault
stream_in members rest =
    on_ok (two_words members (member_in members) number_in rest) (λ said. Ok (commands.Stream said.0 said.1))

-- a member, what is delayed, and by how long
abbrev pub slow_in : List Name → Option (List ℕ) → Result Command Fault
slow_in members rest = on_ok (three_words members (member_in members) slowed_call_in delay_in rest)
    (λ said. Ok (commands.Slow said.0.0 said.0.1 said.1))

-- a method: any token of HTTP
abbrev pub method_in : List ℕ → Result (Unit {0}) Fault
method_in word = if is_token word then Ok tt else Err faults.BadOption

-- a target is any word, behind what the words before it say; an empty one is missing
abbrev pub target_in : List Name → Result (MemberId × Unit {0}) Fault → List ℕ → Result (MemberId × Unit {0}) Fault
target_in members before target = if length target == 0 then Err (missing_behind members before) else before

-- the same, from what stands behind the method
abbrev pub target_behind : List Name → Result (MemberId × Unit {0}) Fault → Option (List ℕ)
    → Result (MemberId × Unit {0}) Fault
target_behind members before None = Err (missing_behind members before)
target_behind members before (Some words) = target_in members before (cut_word words).0

-- the method and the target, behind the member
abbrev pub method_behind : List Name → Result MemberId Fault → Option (List ℕ) → Result (MemberId × Unit {0}) Fault
method_behind members before None = Err (missing_behind members before)
method_behind members before (Some words) =
    target_behind members (both before (method_in (cut_word words).0)) (cut_word words).1

-- the member that a request is for, where its words are in form
abbrev pub asked_member : List Name → Option (List ℕ) → Result (MemberId × Unit {0}) Fault
asked_member members None = Err (missing_word members)
asked_member members (Some words) = method_behind members (member_in members (cut_word words).0) (cut_word words).1

-- the next word, or no bytes
abbrev pub next_word : Option (List ℕ) → List ℕ
next_word None = []
next_word (Some words) = (cut_word words).0

-- what stands behind the next word and its blank
abbrev pub behind_word : Option (List ℕ) → Option (List ℕ)
behind_word None = None
behind_word (Some words) = (cut_word words).1

-- all bytes, or none
abbrev pub bytes_or_none : Option (List ℕ) → List ℕ
bytes_or_none None = []
bytes_or_none (Some bytes) = bytes

-- a request, from what stands behind the member: its method, its
-- target, and as its body all that stands behind the target's blank
abbrev pub request_behind : Option (List ℕ) → RequestWords
request_behind rest = record {
  method = next_word rest;
  target = next_word (behind_word rest);
  body = bytes_or_none (behind_word (behind_word rest));
}

-- the line of a request
abbrev pub rest_line : List Name → Option (List ℕ) → Result Line Fault
rest_line members rest = on_ok (asked_member members rest)
    (λ said. Ok (lines.Command (commands.Rest said.0 (request_behind (behind_word rest)))))

-- a line that is a command
abbrev pub command : Command → Result Line Fault
command c = Ok (lines.Command c)

-- the line of patronictl: its words are all that stands behind the blank
abbrev pub ctl_line : List Name → Option (List ℕ) → Result Line Fault
ctl_line members None = Err (missing_word members)
ctl_line members (Some said) = on_ok (line_end members None) (λ _. command (commands.Ctl said))

-- the line of the body with this first word, other than a request's and patronictl's, and these words behind it
abbrev pub plain_line : List Name → Keyword → Option (List ℕ) → Result Line Fault
plain_line members words.Tick rest = on_ok (one_word members number_in rest) (λ n. Ok (lines.Tick n))
plain_line members words.Deliver rest = on_ok (one_word members number_in rest) (λ n. command (commands.Deliver n))
plain_line members words.Lose rest = on_ok (one_word members number_in rest) (λ n. command (commands.Lose n))
plain_line members words.Run rest = on_ok (one_word members number_in rest) (λ n. Ok (lines.Run n))
plain_line members words.Turn rest =
    on_ok (one_word members (member_in members) rest) (λ member. command (commands.Turn member))
plain_line members words.Hold rest =
    on_ok (one_word members (member_in members) rest) (λ member. command (commands.Suspend member))
plain_line members words.Resume rest =
    on_ok (one_word members (member_in members) rest) (λ member. command (commands.Resume member))
plain_line members words.Kill rest =
    on_ok (one_word members (member_in members) rest) (λ member. command (commands.Kill member))
plain_line members words.Restart rest =
    on_ok (one_word members (member_in members) rest) (λ member. command (commands.StartAgent member))
plain_line members words.Promote rest =
    on_ok (one_word members (member_in members) rest) (λ member. command (commands.Promote member))
plain_line members words.Crash rest =
    on_ok (one_word members (member_in members) rest) (λ member. command (commands.Crash member))
plain_line members words.Freeze rest =
    on_ok (one_word members (member_in members) rest) (λ member. command (commands.Freeze member))
plain_line members words.Thaw rest =
    on_ok (one_word members (member_in members) rest) (λ member. command (commands.Thaw member))
plain_line members words.Commit rest = on_ok (commit_in members rest) command
plain_line members words.Stream rest = on_ok (stream_in members rest) command
plain_line members words.Slow rest = on_ok (slow_in members rest) command
plain_line members words.Cut rest = on_ok (two_ends members rest) (λ link. command (commands.Cut link.0 link.1))
plain_line members words.Join rest = on_ok (two_ends members rest) (λ link. command (commands.Join link.0 link.1))
plain_line members words.Trace rest = on_ok (one_word members switch_in rest) (λ on. command (commands.Trace on))
plain_line members _ rest = Err faults.BadWord

-- the line of the body with this first word, and these words behind it
abbrev pub line_of_words : List Name → Keyword → Option (List ℕ) → Result Line Fault
line_of_words members words.Rest rest = rest_line members rest
line_of_words members words.Ctl rest = ctl_line members rest
line_of_words members keyword rest = plain_line members keyword rest
