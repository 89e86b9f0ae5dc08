-- What is played of a command keeps what every run keeps.
use Rattle.std.proofs.Common.{◌*◌, ◌≡◌, ℕ, Option, Some, None, Bool, true, false, List, Result, Ok, Err, refl}
use Rattle.std.specs.Prelude.{if◌then◌else◌, nat_lt}
use Rattle.script_grammar.specs.Reading.{script_of}
use Rattle.script_model.specs.Script.{IsHead, ScriptText}
use Rattle.script_grammar.proofs.ReadLaws.{read-is-spelled}
use Rattle.script_grammar.specs.declared.limit.Limit.{Limit}
use Rattle.script_grammar.specs.Limits.{limit_of}
use Rattle.script_words.specs.declared.fault.Fault.{Fault}
use Rattle.run_model.specs.Run.{Played, played_of}
use Rattle.pat_base.specs.declared.member_id.MemberId.{MemberId}
use Rattle.serve_model.specs.Connections.{Connection, most_waiting}
use Rattle.run_model.specs.Visits.{served_of}
use Rattle.promise_law.specs.Claims.{KeepsPromises}
use Rattle.generator_model.proofs.BodyLaws.{generated-IsScript}
use Rattle.generator_model.specs.Generating.{generated_script}
use Rattle.generator_model.specs.declared.bounds.TheConstants.{MOST_GENERATED}
use Rattle.command_line.specs.Commands.{Command, Drill, Generate, Print, Run, Serve}
use Rattle.command_line.specs.Members.{member_named}
use Rattle.program_commands.specs.Verdicts.{Drills, Formats, IfPlayed, Makes, PastCount, Plays, Verdict, service_of, verdict_by, verdict_in, verdict_of}
use Rattle.promise_law.proofs.Premises.{keeps-promises}

-- what is played of bytes does, whatever is made of a script
promises-by : (makes : ScriptText → Verdict) (bytes : List ℕ) (limit : Option Limit)
    (read : Result ScriptText (ℕ × Fault))
    → ((script : ScriptText) → IsHead script.head → IfPlayed KeepsPromises (makes script))
    → script_of bytes ≡ read → IfPlayed KeepsPromises (verdict_by makes limit read)
promises-by makes bytes (Some limit) read each is = tt
promises-by makes bytes None (Err (line, fault)) each is = tt
promises-by makes bytes None (Ok script) each is = each script (read-is-spelled bytes script is).0.head

promises-in : (waited : ℕ) (makes : ScriptText → Verdict) (bytes : List ℕ)
    → ((script : ScriptText) → IsHead script.head → IfPlayed KeepsPromises (makes script))
    → IfPlayed KeepsPromises (verdict_in waited makes bytes)
promises-in waited makes bytes each = promises-by makes bytes (limit_of waited bytes) (script_of bytes) each refl

promises-served : (script : ScriptText) (count : ℕ) (visitors : List Connection) (found : Option MemberId)
    → IsHead script.head → IfPlayed KeepsPromises (service_of script count visitors found)
promises-served script count visitors None is = tt
promises-served script count visitors (Some id) is = keeps-promises (served_of script id visitors) is

promises-if : (many : Bool) (played : Played) → IsHead played.head
    → IfPlayed KeepsPromises (if many then PastCount else Makes (Drills played))
promises-if true played is = tt
promises-if false played is = keeps-promises played is

formats-if : (many : Bool) (script : ScriptText)
    → IfPlayed KeepsPromises (if many then PastCount else Makes (Formats script))
formats-if true script = tt
formats-if false script = tt

pub promises-kept : (command : Option Command) (visitors : List Connection) (bytes : List ℕ)
    → IfPlayed KeepsPromises (verdict_of command visitors bytes)
promises-kept None visitors bytes = tt
promises-kept (Some Run) visitors bytes =
    promises-in 0 (λ script. Makes (Plays (played_of script))) bytes (λ script is. keeps-promises (played_of script) is)
promises-kept (Some (Serve member address count)) visitors bytes =
    promises-in (most_waiting * count) (λ script. service_of script count visitors (member_named script.head member))
    bytes (λ script is. promises-served script count visitors (member_named script.head member) is)
promises-kept (Some Print) visitors bytes = promises-in 0 (λ script. Makes (Formats script)) bytes (λ script is. tt)
promises-kept (Some (Generate seed count)) visitors bytes =
    formats-if (nat_lt MOST_GENERATED count) (generated_script seed count)
promises-kept (Some (Drill seed count)) visitors bytes = promises-if (nat_lt MOST_GENERATED count)
    (played_of (generated_script seed count)) (generated-IsScript seed count).head
