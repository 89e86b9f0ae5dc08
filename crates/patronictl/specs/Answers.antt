-- What the words of a command come to (Patroni documentation, "patronictl").
use Rattle.std.specs.Prelude.{ℕ, List, [], ◌∷◌, ◌++◌, map, codes, Result, Ok, Err, string_bytes}
use Rattle.pat_base.specs.declared.member_id.MemberId.{MemberId}
use Rattle.cluster_view.specs.Snapshots.{SnapshotFacts}
use Rattle.rest_message.specs.Requests.{RequestText, request_text}
use Rattle.ctl_command.specs.Commands.{CommandText}
use Rattle.ctl_command.specs.FaultTexts.{fault_text}
use Rattle.ctl_command.specs.Reading.{command_of}
use Rattle.ctl_command.specs.Texts.{FaultText}
use Rattle.ctl_command.specs.Words.{line_words}
use Rattle.patronictl.specs.declared.answer.CtlAnswer.{CtlAnswer}
use Rattle.patronictl.specs.declared.answer.CtlAnswer.TheVariants as answers
use Rattle.patronictl.specs.Acting.{ActedText, act_of}
use Rattle.patronictl.specs.Acting as acting

-- what is told: lines are printed, or a member is asked
pub data CtlTold : Type 0 where
  Prints : (lines : List (List ℕ)) → CtlTold
  Asks : (member : MemberId) → (request : RequestText) → CtlTold

-- an answer, by its texts
abbrev pub answer_told : CtlAnswer → CtlTold
answer_told (answers.Prints lines) = Prints (map string_bytes lines.items)
answer_told (answers.Asks member request) = Asks member (request_text request)

-- what came of a command, as it is told
abbrev pub told_of : ActedText → CtlTold
told_of (acting.Lines lines) = Prints lines
told_of (acting.Ask member request) = Asks member request
told_of acting.NoLeader = Prints (codes "no leader" ∷ [])

-- the line of a fault
abbrev pub fault_line : FaultText → List ℕ
fault_line fault = codes "ctl: " ++ fault_text fault

-- what is told of words that were read
abbrev pub told_by : SnapshotFacts → Result CommandText FaultText → CtlTold
told_by seen (Err fault) = Prints (fault_line fault ∷ [])
told_by seen (Ok command) = told_of (act_of seen command)

-- what the words of a command come to
abbrev pub ctl_answer : SnapshotFacts → List ℕ → CtlTold
ctl_answer seen words = told_by seen (command_of seen.scope seen.members (line_words words))
