-- What a member does on the questions and the answers of others.
use Rattle.std.specs.Prelude.{ℕ, ◌==◌, ◌&&◌, if◌then◌else◌, Bool, true, false, Option, Some, None}
use Rattle.pat_base.specs.declared.member_id.MemberId.{MemberId}
use Rattle.pat_base.specs.declared.peer_answer.PeerAnswer.{PeerAnswer}
use Rattle.pat_base.specs.declared.ticks.Ticks.{Ticks}
use Rattle.agent_model.specs.declared.knowledge.Question.{Question}
use Rattle.agent_model.specs.declared.knowledge.Question.TheVariants.{ComparingPositions, FindingCandidate}
use Rattle.agent_model.specs.declared.knowledge.PendingQuestion.{PendingQuestion}
use Rattle.agent_model.specs.declared.output.Output.TheVariants as outputs
use Rattle.agent_model.specs.declared.output.Outgoing.TheVariants as outgoing
use Rattle.agent_model.specs.Acting.{waiting_no_more}
use Rattle.agent_model.specs.Agents.{Outcome}
use Rattle.agent_model.specs.Answers.{with_answer, all_answered, peer_answer_of}
use Rattle.agent_model.specs.Decisions.{may_create}
use Rattle.agent_model.specs.HandingOver.{check_answered}
use Rattle.agent_model.specs.Outputs.{with_output}
use Rattle.agent_model.specs.Racing.{judged}

-- a member that is asked answers at once, whatever it waits for
abbrev pub asked : MemberId → ℕ → ℕ → Outcome → Outcome
asked from incarnation sequence o = record o {
  outputs =
      with_output
      (outputs.Message (outgoing.Answer from incarnation sequence (peer_answer_of o.knows.who o.machine.server)))
      o.outputs;
}

-- a question to the other members in a race
abbrev pub is_asking : Question → Bool
is_asking ComparingPositions = true
is_asking _ = false

-- the answers of the other members are waited for, in a race
abbrev pub awaits_others : Option PendingQuestion → Bool
awaits_others None = false
awaits_others (Some waited) = is_asking waited.question

-- a question of a leader, who may lead in its place
abbrev pub is_checking : Question → Bool
is_checking FindingCandidate = true
is_checking _ = false

-- answers of this number are waited for in a race
abbrev pub awaits_answer : PendingQuestion → ℕ → Bool
awaits_answer waited sequence = is_asking waited.question && waited.sequence == sequence

-- the race is judged by the answers that there are, in a role that races. In another one nothing is waited for any more
abbrev pub judged_if_racing : Ticks → Outcome → Outcome
judged_if_racing now o = if may_create o.role then judged now o else waiting_no_more o

-- the race is judged as soon as each other member answered
abbrev pub judged_if_all : Ticks → Outcome → Outcome
judged_if_all now o = if all_answered o.knows.who o.knows.answers then judged now o else o

-- an answer is kept
abbrev pub keeping : PeerAnswer → Outcome → Outcome
keeping answer o = record o { knows = record o.knows { answers = with_answer answer o.knows.answers } }

-- an answer that is waited for counts in a role that races. In another one nothing is waited for any more
abbrev pub accepted_answer : Ticks → PeerAnswer → Outcome → Outcome
accepted_answer now answer o = if may_create o.role then judged_if_all now (keeping answer o) else waiting_no_more o

-- a leader waits for answers of this number
abbrev pub awaits_check : PendingQuestion → ℕ → Bool
awaits_check waited sequence = is_checking waited.question && waited.sequence == sequence

-- an answer, by what is waited for
abbrev pub answered_for : Ticks → ℕ → PeerAnswer → Option PendingQuestion → Outcome → Outcome
answered_for now sequence answer None o = o
answered_for now sequence answer (Some waited) o = if awaits_answer waited sequence then accepted_answer now answer o
    else if awaits_check waited sequence then check_answered now answer o.role o else o

-- the answer of another member: what is waited for is used, and any other dropped
abbrev pub answered : Ticks → ℕ → PeerAnswer → Outcome → Outcome
answered now sequence answer o = answered_for now sequence answer o.knows.waited o
