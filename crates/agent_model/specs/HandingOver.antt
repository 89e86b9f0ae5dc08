-- How a leader hands over to another member where a failover key asks for that
-- (Patroni's documentation of the REST API, "Switchover and failover endpoints").
use Rattle.std.specs.Prelude.{ℕ, ◌+◌, ◌-◌, ◌==◌, ◌&&◌, ◌||◌, nat_le, if◌then◌else◌, not, Bool, true, false, is_some, is_none, List, Option, Some, None, option_map}
use Rattle.pat_base.specs.declared.lsn.Lsn.{Lsn}
use Rattle.pat_base.specs.declared.member_id.MemberId.{MemberId}
use Rattle.pat_base.specs.declared.peer_answer.PeerAnswer.{PeerAnswer}
use Rattle.pat_base.specs.declared.ticks.Ticks.{Ticks}
use Rattle.leader_race.specs.Eligibility.{may_fail_over}
use Rattle.store_keys.specs.declared.txn.Txn.TheVariants as txns
use Rattle.store_keys.specs.declared.txn.OperatorTxn.TheVariants as operator_txns
use Rattle.store_keys.specs.declared.value.FailoverKey.{FailoverKey}
use Rattle.pg_model.specs.declared.status.ServerStatus.{ServerStatus}
use Rattle.cluster_view.specs.declared.snapshot.LeaderEntry.{LeaderEntry}
use Rattle.cluster_view.specs.Naming.{candidate_of, is_member, is_standby}
use Rattle.cluster_view.specs.Snapshots.{SnapshotFacts, leader_in}
use Rattle.leader_race.specs.Peers.{first_of}
use Rattle.event_book.specs.declared.agent_note.AgentNote.TheVariants as agent_notes
use Rattle.event_book.specs.declared.message.Body.TheVariants as bodies
use Rattle.agent_model.specs.declared.knowledge.Knowledge.{Knowledge}
use Rattle.agent_model.specs.declared.knowledge.Question.TheVariants.{FindingCandidate}
use Rattle.agent_model.specs.declared.knowledge.SyncRead.{SyncRead}
use Rattle.agent_model.specs.declared.output.Output.{Output}
use Rattle.agent_model.specs.declared.output.Output.TheVariants as outputs
use Rattle.agent_model.specs.declared.output.Noting.TheVariants as notings
use Rattle.agent_model.specs.declared.why.Why.TheVariants.{HandOver}
use Rattle.agent_model.specs.declared.who.Who.{Who}
use Rattle.agent_model.specs.Acting.{counted, waiting, sending, shutting_down, waiting_no_more}
use Rattle.agent_model.specs.Agents.{RoleFacts, Leader, Ending, Outcome}
use Rattle.agent_model.specs.Answers.{asking_one, asking_all, is_settled, all_answered, with_answer}
use Rattle.agent_model.specs.Outputs.{with_output}
use Rattle.agent_model.specs.Pausing.{is_paused}
use Rattle.agent_model.specs.Planning.{planned}
use Rattle.agent_model.specs.Racing.{answers_until, unheard}

-- another member than this one is named
abbrev pub names_another : MemberId → Option MemberId → Bool
names_another me None = false
names_another me (Some member) = not (member.number == me.number)

-- a failover key asks no more of this leader: it names another one, or this one as candidate
abbrev pub is_done : MemberId → FailoverKey → Bool
is_done me failover = names_another me failover.leader || is_member me failover.candidate

-- the revision of the leader key by a snapshot, if there is both
abbrev pub leader_revision : Option SnapshotFacts → Option ℕ
leader_revision None = None
leader_revision (Some snapshot) = option_map (λ (leader : LeaderEntry). leader.revision) (leader_in snapshot)

-- the agent asks that the failover key be removed, under the leader key of this revision
abbrev pub clearing_under : Option ℕ → Outcome → Outcome
clearing_under None o = o
clearing_under (Some revision) o = sending (bodies.Request (txns.Operators (operator_txns.DropFailover revision))) o

-- the same under the leader key that was read last
abbrev pub clearing : Outcome → Outcome
clearing o = clearing_under (leader_revision o.knows.seen) o

-- the position at which a log ends, 0 where there is none
abbrev pub position_of : Option Lsn → ℕ
position_of None = 0
position_of (Some end) = end.position

-- a log is there and ends at most so many bytes behind another
abbrev pub is_near : ℕ → Option Lsn → Option Lsn → Bool
is_near most own None = false
is_near most own (Some end) = nat_le (position_of own - end.position) most

-- the sync key, if there is one, names the member as standby
abbrev pub is_standby_in : Option SyncRead → MemberId → Bool
is_standby_in None member = true
is_standby_in (Some read) member = is_standby member read.key

-- where the synchronous mode is active, a switchover goes to a standby alone: another may lack an acknowledged commit
abbrev pub may_follow_in_sync : Knowledge → FailoverKey → MemberId → Bool
may_follow_in_sync knows failover member = if knows.turn_settings.synchronous_mode && is_some failover.leader
    then is_standby_in knows.turn_sync member else true

-- a member that answers so may lead next: it accepts no writes, may
-- fail over, and its log ends near enough to the own one
abbrev pub is_successor : Knowledge → ServerStatus → FailoverKey → PeerAnswer → Bool
is_successor knows server failover answer =
    not answer.writes
    && (may_fail_over answer.tags
    && (is_near knows.turn_settings.maximum_lag_on_failover server.end answer.end
    && may_follow_in_sync knows failover answer.member))

-- of the members that may lead next, by what they answered, the one that the script declares first
abbrev pub successor_by : Option FailoverKey → Knowledge → ServerStatus → Option MemberId
successor_by None knows server = None
successor_by (Some failover) knows server = first_of (is_successor knows server failover) knows.answers

-- the member notes that it hands over to this one, and ends its server; it gives up the leader key when that has ended
abbrev pub hands_over : Ticks → ℕ → MemberId → Outcome → Outcome
hands_over now revision candidate o = record (shutting_down now (record o {
  outputs = with_output (outputs.Note (notings.Agent (agent_notes.HandsOver candidate))) o.outputs;
})) { role = Ending revision HandOver; knows = record o.knows { handed_over = true } }

-- a leader hands over, or asks that the failover key be removed where nobody may lead next
abbrev pub hands_over_to : Ticks → ℕ → Option MemberId → Outcome → Outcome
hands_over_to now revision None o = clearing o
hands_over_to now revision (Some candidate) o = hands_over now revision candidate o

-- the handover is judged by the answers that there are: none are waited for any more
abbrev pub handover_judged : Ticks → ℕ → Outcome → Outcome
handover_judged now revision o =
    hands_over_to now revision (successor_by o.knows.turn_failover o.knows o.machine.server) (waiting_no_more o)

-- so it is for a leader
abbrev pub judged_if_leading : Ticks → RoleFacts → Outcome → Outcome
judged_if_leading now (Leader revision) o = handover_judged now revision o
judged_if_leading now _ o = waiting_no_more o

-- the ask to the candidate, or to each other member where none is named
abbrev pub asking_whom : Who → Option MemberId → ℕ → List Output → List Output
asking_whom who None sequence out = asking_all who sequence out
asking_whom who (Some candidate) sequence out = asking_one who sequence (Some candidate) out

-- each that was asked so answered
abbrev pub whom_answered : Who → Option MemberId → List PeerAnswer → Bool
whom_answered who None answers = all_answered who answers
whom_answered who (Some candidate) answers = is_settled who answers (Some candidate)

-- the leader asks who may lead in its place, all under one number, and waits for the answers
abbrev pub checking : Ticks → Option MemberId → Outcome → Outcome
checking now candidate o = record o {
  knows = waiting now FindingCandidate (answers_until now) (counted o.knows);
  outputs = asking_whom o.knows.who candidate (o.knows.sequence + 1) o.outputs;
}

-- it asks them; where there is nobody to ask, the handover is judged at once
abbrev pub checks : Ticks → ℕ → Option MemberId → Outcome → Outcome
checks now revision candidate o = if whom_answered o.knows.who candidate o.knows.answers
    then handover_judged now revision o else checking now candidate o

-- a leader looks for who may lead next; in a pause only where the failover key names a candidate
abbrev pub checks_unless_paused : Ticks → ℕ → Option MemberId → Outcome → Outcome
checks_unless_paused now revision candidate o =
    if is_paused o.knows && is_none candidate then o else checks now revision candidate (unheard o)

-- what a leader owes its cluster under a failover key: one that asks
-- no more of it is removed, and else it looks for who may lead next
abbrev pub failover_duty : Ticks → ℕ → FailoverKey → Outcome → Outcome
failover_duty now revision failover o =
    if is_done o.knows.who.me failover then clearing o else checks_unless_paused now revision failover.candidate o

-- a step with its synchronous standbys; in a pause they stay as they are
abbrev pub plans_unless_paused : Ticks → ℕ → Outcome → Outcome
plans_unless_paused now revision o = if is_paused o.knows then o else planned now revision o

-- what it owes by the failover key that its turn read; without one it takes a step with its synchronous standbys
abbrev pub duty_on : Ticks → ℕ → Option FailoverKey → Outcome → Outcome
duty_on now revision None o = plans_unless_paused now revision o
duty_on now revision (Some failover) o = failover_duty now revision failover o

-- what a leader owes its cluster with each renewal
abbrev pub duties : Ticks → ℕ → Outcome → Outcome
duties now revision o = duty_on now revision o.knows.turn_failover o

-- the handover is judged as soon as each that was asked answered
abbrev pub judged_if_whom : Ticks → ℕ → Outcome → Outcome
judged_if_whom now revision o = if whom_answered o.knows.who (candidate_of o.knows.turn_failover) o.knows.answers
    then handover_judged now revision o else o

-- an answer that a leader waits for is kept. In another role nothing is waited for any more
abbrev pub check_answered : Ticks → PeerAnswer → RoleFacts → Outcome → Outcome
check_answered now answer (Leader revision) o =
    judged_if_whom now revision (record o { knows = record o.knows { answers = with_answer answer o.knows.answers } })
check_answered now answer _ o = waiting_no_more o
