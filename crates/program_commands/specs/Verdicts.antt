-- What comes of the words of a command line by the input and by who connects.
use Rattle.std.specs.Prelude.{ℕ, ◌≡◌, ◌*◌, nat_lt, if◌then◌else◌, List, [], Option, Some, None, Result, Ok, Err, IfSome}
use Rattle.pat_base.specs.declared.member_id.MemberId.{MemberId}
use Rattle.script_words.specs.declared.fault.Fault.{Fault}
use Rattle.script_grammar.specs.declared.limit.Limit.{Limit}
use Rattle.script_grammar.specs.Limits.{limit_of}
use Rattle.script_grammar.specs.Reading.{script_of}
use Rattle.generator_model.specs.Generating.{generated_script}
use Rattle.generator_model.specs.declared.bounds.TheConstants.{MOST_GENERATED}
use Rattle.script_model.specs.Script.{ScriptText, spelling_of}
use Rattle.serve_model.specs.Connections.{Connection, most_waiting}
use Rattle.run_model.specs.Run.{EndsAtStep, Played, played_of, summary_of_run, text_of_run}
use Rattle.run_model.specs.Visits.{served_of}
use Rattle.command_line.specs.Commands.{Command, Drill, Generate, Print, Run, Serve}
use Rattle.command_line.specs.Members.{member_named}
use Rattle.command_line.specs.declared.ending.Ending.{Ending}
use Rattle.command_line.specs.declared.ending.Ending.TheVariants as endings

-- what a command is to do: to play a run and to print it; a script, and then the connections that come to the agent
-- of a member, which are to be so many; to play a run and to print its closing summary alone; to print a script
pub data Plan : Type 0 where
  Plays : Played → Plan
  Serves : ScriptText → MemberId → ℕ → List Connection → Plan
  Drills : Played → Plan
  Formats : ScriptText → Plan

-- what comes of the words of a command line by the bytes of the input
pub data Verdict : Type 0 where
  NoCommand : Verdict
  PastCount : Verdict
  PastLimit : Limit → Verdict
  Faulty : ℕ → Fault → Verdict
  UnknownMember : Verdict
  Makes : Plan → Verdict

-- what comes of bytes that are to be a script: limits are judged before the faults of lines
abbrev pub verdict_by : (ScriptText → Verdict) → Option Limit → Result ScriptText (ℕ × Fault) → Verdict
verdict_by makes (Some limit) read = PastLimit limit
verdict_by makes None (Err (line, fault)) = Faulty line fault
verdict_by makes None (Ok script) = makes script

-- what comes of a script and connections to the agent of this member
abbrev pub service_of : ScriptText → ℕ → List Connection → Option MemberId → Verdict
service_of script count visitors None = UnknownMember
service_of script count visitors (Some id) = Makes (Serves script id count visitors)

-- what comes of bytes that are to be a script, where so many ticks come beside those of its lines
abbrev pub verdict_in : ℕ → (ScriptText → Verdict) → List ℕ → Verdict
verdict_in waited makes bytes = verdict_by makes (limit_of waited bytes) (script_of bytes)

-- what comes of so many lines that are to be drawn
abbrev pub verdict_of_count : ℕ → Plan → Verdict
verdict_of_count count plan = if nat_lt MOST_GENERATED count then PastCount else Makes plan

-- what comes of a command, where these connections come: each is waited for as long as a reply at most
abbrev pub verdict_on : Command → List Connection → List ℕ → Verdict
verdict_on Run visitors bytes = verdict_in 0 (λ script. Makes (Plays (played_of script))) bytes
verdict_on (Serve member address count) visitors bytes =
    verdict_in (most_waiting * count)
    (λ script. service_of script count visitors (member_named script.head member)) bytes
verdict_on Print visitors bytes = verdict_in 0 (λ script. Makes (Formats script)) bytes
verdict_on (Generate seed count) visitors bytes = verdict_of_count count (Formats (generated_script seed count))
verdict_on (Drill seed count) visitors bytes = verdict_of_count count (Drills (played_of (generated_script seed count)))

-- what comes of words that may be a command
abbrev pub verdict_of : Option Command → List Connection → List ℕ → Verdict
verdict_of None visitors bytes = NoCommand
verdict_of (Some command) visitors bytes = verdict_on command visitors bytes

-- the run of a plan, if it plays one
abbrev pub plan_run : Plan → Option Played
plan_run (Plays played) = Some played
plan_run (Serves script id count visitors) = Some (served_of script id visitors)
plan_run (Drills played) = Some played
plan_run (Formats script) = None

-- what a plan prints
abbrev pub plan_text : Plan → List ℕ
plan_text (Plays played) = text_of_run played
plan_text (Serves script id count visitors) = text_of_run (served_of script id visitors)
plan_text (Drills played) = summary_of_run played
plan_text (Formats script) = spelling_of script

-- what a plan has printed that memory was wanting for: lines of whole steps of a run that is printed, and else nothing
abbrev pub EndsWhole : Plan → List ℕ → Type 0
EndsWhole (Plays played) text = EndsAtStep played text
EndsWhole (Serves script id count visitors) text = EndsAtStep (served_of script id visitors) text
EndsWhole _ text = text ≡ []

-- this holds of the run that is played, if one is
abbrev pub IfPlayed : (Played → Type 0) → Verdict → Type 0
IfPlayed P (Makes plan) = IfSome (plan_run plan) P
IfPlayed P _ = Unit {0}

-- what an ending says of what came of the words and the input: the fault with its line, or the limit, is the input's
abbrev pub Says : Ending → Verdict → Type 0
Says (endings.NotScript line fault) verdict = verdict ≡ Faulty line fault
Says endings.UnknownMember verdict = verdict ≡ UnknownMember
Says (endings.Limit limit) verdict = verdict ≡ PastLimit limit
Says endings.PastCount verdict = verdict ≡ PastCount
Says _ verdict = Unit {0}
