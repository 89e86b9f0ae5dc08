-- What a leader owes a handover: whom it goes to, and that the leader's server ends while the leader
-- has its lease (Patroni's documentation of the REST API, "Switchover and failover endpoints").
use Rattle.std.specs.Prelude.{ℕ, ◌≡◌, ◌≤◌, ◌+◌, true, false, is_some, Some}
use Rattle.std.specs.List.{Contains}
use Rattle.pat_base.specs.declared.lsn.Lsn.{Lsn}
use Rattle.pat_base.specs.declared.member_id.MemberId.{MemberId}
use Rattle.pat_base.specs.declared.peer_answer.PeerAnswer.{PeerAnswer}
use Rattle.store_keys.specs.declared.value.FailoverKey.{FailoverKey}
use Rattle.cluster_view.specs.Naming.{is_standby}
use Rattle.leader_race.specs.Eligibility.{may_fail_over}
use Rattle.agent_model.specs.declared.knowledge.SyncRead.{SyncRead}
use Rattle.agent_model.specs.declared.output.Output.TheVariants as outputs
use Rattle.agent_model.specs.declared.output.ServerOrder.TheVariants as orders
use Rattle.agent_model.specs.declared.why.Why.TheVariants.{HandOver}
use Rattle.agent_model.specs.Agents.{Ending, Outcome}
use Rattle.agent_model.specs.HandingOver.{position_of}

-- a member may lead next, by what it answered: it accepts no writes, may fail over, and its
-- log ends at most `maximum_lag_on_failover` bytes behind the leader's. At a switchover
-- with the synchronous mode on, the sync key, if there is one, names it as standby
pub record MayLeadNext (o : Outcome) (failover : FailoverKey) (candidate : MemberId) : Type 0 where
  pub answer : PeerAnswer
  pub among : Contains o.knows.answers answer
  pub member : answer.member ≡ candidate
  pub quiet : answer.writes ≡ false
  pub eligible : may_fail_over answer.tags ≡ true
  pub end : Lsn
  pub end_is : answer.end ≡ Some end
  pub near : position_of o.machine.server.end ≤ end.position + o.knows.turn_settings.maximum_lag_on_failover
  pub standby : (read : SyncRead) → is_some failover.leader ≡ true → o.knows.turn_settings.synchronous_mode ≡ true
      → o.knows.turn_sync ≡ Some read → is_standby candidate read.key ≡ true

-- a leader hands over to this member, as the failover key asks that its turn read: the
-- member may lead next, the leader's server ends, and its lease is kept until that has
pub record HandsOverTo (revision : ℕ) (candidate : MemberId) (o after : Outcome) : Type 0 where
  pub failover : FailoverKey
  pub asked : o.knows.turn_failover ≡ Some failover
  pub may_lead : MayLeadNext o failover candidate
  pub ends : Contains after.outputs (outputs.Server orders.ShutDown)
  pub holds : after.role ≡ Ending revision HandOver
