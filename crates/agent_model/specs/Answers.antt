-- What members ask one another, and what they answer.
use Rattle.std.specs.Prelude.{ℕ, ◌==◌, ◌++◌, ◌&&◌, ◌||◌, nat_lt, if◌then◌else◌, not, Bool, true, List, [], ◌∷◌, Option, Some, None, length, zero, suc}
use Rattle.std.specs.List.{list_any}
use Rattle.pat_base.specs.MemberId.{member_of}
use Rattle.pat_base.specs.ServerState.{writes}
use Rattle.pat_base.specs.declared.member_id.MemberId.{MemberId}
use Rattle.pat_base.specs.declared.peer_answer.PeerAnswer.{PeerAnswer}
use Rattle.pg_model.specs.declared.status.ServerStatus.{ServerStatus}
use Rattle.event_book.specs.declared.message.Body.TheVariants as bodies
use Rattle.agent_model.specs.declared.output.Output.{Output}
use Rattle.agent_model.specs.declared.output.Output.TheVariants as outputs
use Rattle.agent_model.specs.declared.output.Outgoing.TheVariants as outgoing
use Rattle.agent_model.specs.declared.output.Target.TheVariants as targets
use Rattle.agent_model.specs.declared.who.Who.{Who}
use Rattle.agent_model.specs.Info.{runs}
use Rattle.agent_model.specs.Outputs.{with_output}
use Rattle.pat_base.specs.declared.member_id.TheConstants.{MOST_MEMBERS}

-- this member gave the answer
abbrev pub is_from : MemberId → PeerAnswer → Bool
is_from member answer = answer.member.number == member.number

-- this member answered
abbrev pub has_answered : MemberId → List PeerAnswer → Bool
has_answered member answers = list_any (is_from member) answers

-- the answers with one more; a second one of a member counts for nothing
abbrev pub with_answer : PeerAnswer → List PeerAnswer → List PeerAnswer
with_answer answer answers = if not (has_answered answer.member answers) && nat_lt (length answers) MOST_MEMBERS
    then answers ++ answer ∷ [] else answers

-- so many outputs a grant brings at most: the feeding of a watchdog, or
-- its rest with the note of that, and a question to each other member
abbrev pub most_grant_outputs : ℕ
most_grant_outputs = 18

-- a declared member other than the own one
abbrev pub is_other : Who → MemberId → Bool
is_other who member = nat_lt member.number who.members && not (member.number == who.me.number)

-- the ask to this member, where it is another one
abbrev pub asking_one : Who → ℕ → Option MemberId → List Output → List Output
asking_one who sequence None out = out
asking_one who sequence (Some member) out =
    if is_other who member
    then with_output (outputs.Message (outgoing.Send (targets.Member member) sequence bodies.Ask)) out else out

-- the asks to the other members among so many first ones, in the order
-- in which the script declares them, all under one number
abbrev pub asking_first : Who → ℕ → ℕ → List Output → List Output
asking_first who sequence zero out = out
asking_first who sequence (suc count) out =
    asking_one who sequence (member_of count) (asking_first who sequence count out)

-- the asks to all other members
abbrev pub asking_all : Who → ℕ → List Output → List Output
asking_all who sequence out = asking_first who sequence MOST_MEMBERS out

-- nothing is open of this member: it is no other one, or answered
abbrev pub is_settled : Who → List PeerAnswer → Option MemberId → Bool
is_settled who answers None = true
is_settled who answers (Some member) = not (is_other who member) || has_answered member answers

-- each other member among so many first ones answered
abbrev pub first_answered : Who → List PeerAnswer → ℕ → Bool
first_answered who answers zero = true
first_answered who answers (suc count) = first_answered who answers count && is_settled who answers (member_of count)

-- each other member answered
abbrev pub all_answered : Who → List PeerAnswer → Bool
all_answered who answers = first_answered who answers MOST_MEMBERS

-- what a member answers that is asked how far its server is
abbrev pub peer_answer_of : Who → ServerStatus → PeerAnswer
peer_answer_of who server = record {
  member = who.me;
  writes = writes server.state;
  end = if runs server.state then server.end else None;
  tags = who.tags;
}
