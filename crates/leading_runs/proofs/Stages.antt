-- How far a leader's turn has come, in the cluster. It is read off a few things that the cluster has of the member,
-- and of the one message that its agent waits for; what leaves those leaves it.
use Rattle.std.specs.Prelude.{ℕ, ◌≡◌, ◌≤◌, ◌<◌, ◌+◌, nat_le, true, false, Option, Some, None, slice_get}
use Rattle.std.specs.FinMap.{find}
use Rattle.pat_base.specs.declared.lsn.Lsn.{Lsn}
use Rattle.pat_base.specs.declared.member_set.MemberSet.{MemberSet}
use Rattle.pat_base.specs.declared.ticks.Ticks.{Ticks}
use Rattle.store_keys.specs.declared.config.Config.{Config}
use Rattle.store_keys.specs.declared.key.Key.TheVariants as keys
use Rattle.store_keys.specs.declared.txn.Txn.{Txn}
use Rattle.store_keys.specs.declared.txn.Txn.TheVariants as txns
use Rattle.store_keys.specs.declared.txn.LeaseTxn.TheVariants as lease_txns
use Rattle.store_keys.specs.declared.value.HistoryRow.{HistoryRow}
use Rattle.store_keys.specs.declared.value.MemberInfo.{MemberInfo}
use Rattle.lease_store.specs.Decision.{Decision, Grant}
use Rattle.lease_store.specs.KeyOrder.{key_cmp}
use Rattle.member_options.specs.declared.member_option.MemberOptions.{MemberOptions}
use Rattle.event_book.specs.declared.agent_process.AgentProcess.{AgentProcess}
use Rattle.event_book.specs.declared.link.LinkEnd.TheVariants as ends
use Rattle.event_book.specs.declared.member.Member.{Member}
use Rattle.event_book.specs.declared.message.Body.{Body}
use Rattle.event_book.specs.declared.message.Body.TheVariants as bodies
use Rattle.event_book.specs.declared.message.Message.{Message}
use Rattle.event_book.specs.Flight.{Flight, InFlightFacts, grant_for, in_flight}
use Rattle.agent_model.specs.declared.knowledge.PendingQuestion.{PendingQuestion}
use Rattle.agent_model.specs.declared.knowledge.Question.TheVariants.{Reading, Renewing, Syncing}
use Rattle.agent_model.specs.declared.knowledge.Settling.{Settling}
use Rattle.agent_model.specs.Acting.{lease_span, seconds_after}
use Rattle.agent_model.specs.Agents.{AgentFacts, Leader}
use Rattle.cluster_model.specs.Inputs.{agent_at, may_act}
use Rattle.cluster_model.specs.Messages.{agent_message, answer_message, decision_body}
use Rattle.cluster_model.specs.State.{Cluster}
use Rattle.lease_model.specs.Leases.{LeaderKey}
use Rattle.leading_law.specs.Leading.{WritesSync}
use Rattle.lease_owners.specs.Asking.{AsksFor}
use Rattle.leading_parts.specs.Holding.{HasKey, ShowsKey}
use Rattle.leading_parts.specs.Ticked.{FiresPast, IsPrimary}
use Rattle.leading_runs.specs.Steady.{IsOfRun, IsUndisturbed, SetsConfig, TurnsInTime}

-- what the cluster has of the member
pub record Seen : Type 0 where
  pub clock : ℕ
  pub process : AgentProcess
  pub agent : AgentFacts
  pub options : MemberOptions
  pub key : LeaderKey
  pub deadline : Option (Option Ticks)

abbrev pub settings_seen : Seen → Config
settings_seen seen = seen.agent.knows.settings

abbrev pub next_seen : Seen → ℕ
next_seen seen = seen.agent.knows.next_turn.0

-- the member leads, as this is seen of it
pub record Stands (member : Member) (seen : Seen) (cluster : Cluster) : Type 0 where
  pub clock_is : cluster.facts.clock ≡ seen.clock
  pub process_is : slice_get cluster.facts.processes member.id.number ≡ Some seen.process
  pub acts : may_act seen.process ≡ true
  pub agent_is : agent_at cluster.agents member.id.number ≡ Some seen.agent
  pub revision : ℕ
  pub role : seen.agent.role ≡ Leader revision
  pub unasked : seen.agent.knows.operating ≡ None
  pub declared : slice_get cluster.facts.members member.id.number ≡ Some member
  pub options_are : slice_get cluster.options member.id.number ≡ Some seen.options
  pub primary : IsPrimary member.id.number cluster
  pub key_is : HasKey seen.key cluster
  pub holder : seen.key.holder ≡ member.id.number
  pub deadline_is : slice_get cluster.facts.deadlines member.id.number ≡ seen.deadline
  pub settings : IsUndisturbed (settings_seen seen) cluster
  pub times : TurnsInTime (settings_seen seen) seen.options

-- its key and its watchdog last past its next turn
pub record LastsOn (seen : Seen) : Type 0 where
  pub key : next_seen seen < seen.key.expiry
  pub guard : FiresPast (next_seen seen) seen.deadline

-- it waits for an answer in its turn, which began in this tick
pub record InTurn (seen : Seen) : Type 0 where
  pub waited : PendingQuestion
  pub waits : seen.agent.knows.waited ≡ Some waited
  pub numbered : waited.sequence ≡ seen.agent.knows.sequence
  pub until : nat_le waited.until.0 seen.clock ≡ false
  pub next : seen.agent.knows.next_turn
      ≡ seconds_after (record { 0 = seen.clock }) (settings_seen seen).loop_wait

-- a question of the member to the key store
abbrev pub Asked : Member → Seen → ℕ → Body → Message
Asked member seen sequence body = agent_message member ends.Store seen.process.incarnation sequence body

-- what it waits for is on its way: its question, or the answer to it
pub data Mail (member : Member) (seen : Seen) (waited : PendingQuestion) (carried : InFlightFacts) : Type 0 where
  Reads : (asks : waited.question ≡ Reading) → (last : seen.agent.knows.last_turn ≡ Some (record { 0 = seen.clock }))
      → (is : carried.message ≡ Asked member seen waited.sequence bodies.Read) → Mail member seen waited carried
  Shows : (asks : waited.question ≡ Reading) → (last : seen.agent.knows.last_turn ≡ Some (record { 0 = seen.clock }))
      → (is : carried.message ≡ answer_message (Asked member seen waited.sequence bodies.Read) bodies.Snapshot)
      → (shows : ShowsKey seen.key carried.snapshot)
      → (sets : SetsConfig (settings_seen seen) (find key_cmp keys.Config carried.snapshot))
      → (failover : find key_cmp keys.Failover carried.snapshot ≡ None) → Mail member seen waited carried
  Renews : (asks : waited.question ≡ Renewing) → (sent : waited.sent ≡ record { 0 = seen.clock })
      → (span : waited.ttl ≡ lease_span (settings_seen seen)) → (none : seen.agent.knows.turn_failover ≡ None)
      → (info : MemberInfo) → (status : Option Lsn) → (row : Option HistoryRow) → (listed : Option MemberSet)
      → (is : carried.message
      ≡ Asked member seen waited.sequence
      (bodies.Request (txns.Lease (lease_txns.Renew seen.key.revision info waited.ttl status row listed))))
      → Mail member seen waited carried
  Grants : (asks : waited.question ≡ Renewing) → (sent : waited.sent ≡ record { 0 = seen.clock })
      → (span : waited.ttl ≡ lease_span (settings_seen seen)) → (none : seen.agent.knows.turn_failover ≡ None)
      → (txn : Txn) → (request : ℕ)
      → (is : carried.message
      ≡ answer_message (Asked member seen waited.sequence (bodies.Request txn)) (bodies.Granted request true))
      → (grant : carried.grant ≡ grant_for (bodies.Granted request true) (ends.Member member) seen.key.revision)
      → (sets : SetsConfig (settings_seen seen) (find key_cmp keys.Config carried.snapshot))
      → (lasts : seen.clock + waited.ttl.0 ≤ seen.key.expiry) → Mail member seen waited carried
  Syncs : (settling : Settling) → (asks : waited.question ≡ Syncing settling) → (past : LastsOn seen) → (txn : Txn)
      → (writes : WritesSync txn)
      → (is : carried.message ≡ Asked member seen waited.sequence (bodies.Request txn))
      → Mail member seen waited carried
  Decides : (settling : Settling) → (asks : waited.question ≡ Syncing settling) → (past : LastsOn seen) → (txn : Txn)
      → (writes : WritesSync txn) → (request : ℕ) → (decision : Decision)
      → (is : carried.message
      ≡ answer_message (Asked member seen waited.sequence (bodies.Request txn)) (decision_body request txn decision))
      → (granted : ℕ)
      → (grant : carried.grant ≡ grant_for (decision_body request txn decision) (ends.Member member) granted)
      → (sets : decision ≡ Grant → SetsConfig (settings_seen seen) (find key_cmp keys.Config carried.snapshot))
      → Mail member seen waited carried

-- it sleeps until its turn, its turn is due, or it waits in its turn for what comes of this message
pub data Stage (member : Member) (seen : Seen) : Type 0 where
  Sleeps : (waits : seen.agent.knows.waited ≡ None) → (later : seen.clock < next_seen seen) → (past : LastsOn seen)
      → Stage member seen
  IsDue : (waits : seen.agent.knows.waited ≡ None) → (due : seen.clock ≡ next_seen seen) → Stage member seen
  Turns : (number : ℕ) → (carried : InFlightFacts) → (turn : InTurn seen)
      → (mail : Mail member seen turn.waited carried) → Stage member seen

module _ (member : Member) (seen : Seen) where
  -- in how many rounds at most it sleeps again
  abbrev pub mail_rank : (waited : PendingQuestion) (carried : InFlightFacts) → Mail member seen waited carried → ℕ
  mail_rank waited carried (Reads asks last is) = 6
  mail_rank waited carried (Shows asks last is shows sets failover) = 5
  mail_rank waited carried (Renews asks sent span none info status row listed is) = 4
  mail_rank waited carried (Grants asks sent span none txn request is grant sets lasts) = 3
  mail_rank waited carried (Syncs settling asks past txn writes is) = 2
  mail_rank waited carried (Decides settling asks past txn writes request decision is granted grant sets) = 1

  abbrev pub rank_of : Stage member seen → ℕ
  rank_of (Sleeps waits later past) = 0
  rank_of (IsDue waits due) = 7
  rank_of (Turns number carried turn mail) = mail_rank turn.waited carried mail

  -- the message of this number is what it waits for
  abbrev pub IsMail : Stage member seen → ℕ → Type 0
  IsMail (Sleeps waits later past) i = ⊥
  IsMail (IsDue waits due) i = ⊥
  IsMail (Turns number carried turn mail) i = i ≡ number

  -- its number, 0 where it waits for nothing
  abbrev pub number_of : Stage member seen → ℕ
  number_of (Sleeps waits later past) = 0
  number_of (IsDue waits due) = 0
  number_of (Turns number carried turn mail) = number

  -- that message is in flight
  abbrev pub IsFlying : Stage member seen → Flight → Type 0
  IsFlying (Sleeps waits later past) flight = Unit {0}
  IsFlying (IsDue waits due) flight = Unit {0}
  IsFlying (Turns number carried turn mail) flight = in_flight flight number ≡ Some carried

  -- other messages of its run have numbers below this one
  abbrev pub limit_of : Stage member seen → ℕ
  limit_of (Sleeps waits later past) = seen.agent.knows.sequence + 1
  limit_of (IsDue waits due) = seen.agent.knows.sequence + 1
  limit_of (Turns number carried turn mail) = seen.agent.knows.sequence

  -- who asks for its key is what it waits for
  abbrev pub OnlyMail : Stage member seen → Flight → Type 0
  OnlyMail stage flight = (i : ℕ) (carried : InFlightFacts) → in_flight flight i ≡ Some carried
      → AsksFor seen.key.revision carried.message.body → IsMail stage i

  -- a message of its run
  abbrev pub IsOwn : Message → Type 0
  IsOwn message = IsOfRun member.id.number seen.process.incarnation message.from message.to message.incarnation

  -- other messages of its run are older ones
  abbrev pub OlderMail : Stage member seen → Flight → Type 0
  OlderMail stage flight = (i : ℕ) (carried : InFlightFacts) → in_flight flight i ≡ Some carried
      → (IsMail stage i → ⊥) → IsOwn carried.message → carried.message.sequence < limit_of stage

-- how far the member's turn has come: it sleeps again after so many rounds
-- at most, and waits for the message of this number, if for any
pub record Phase (member : Member) (rank number : ℕ) (cluster : Cluster) : Type 0 where
  pub seen : Seen
  pub stands : Stands member seen cluster
  pub stage : Stage member seen
  pub numbered : number_of member seen stage ≡ number
  pub ranked : rank_of member seen stage ≤ rank
  pub flying : IsFlying member seen stage cluster.facts.flight
  pub only : OnlyMail member seen stage cluster.facts.flight
  pub older : OlderMail member seen stage cluster.facts.flight
