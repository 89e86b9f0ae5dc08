-- What an input of an agent brings, event by event.
use Rattle.std.specs.Prelude.{ℕ, ◌≡◌, ◌⊎◌, Bool, Some, slice_get}
use Rattle.pat_base.specs.declared.member_id.MemberId.{MemberId}
use Rattle.pat_base.specs.declared.member_set.MemberSet.{MemberSet}
use Rattle.pat_base.specs.declared.peer_answer.PeerAnswer.{PeerAnswer}
use Rattle.pat_base.specs.declared.ticks.Ticks.{Ticks}
use Rattle.event_book.specs.declared.agent_process.AgentProcess.{AgentProcess}
use Rattle.event_book.specs.declared.event.AgentEvent.TheVariants as agents
use Rattle.event_book.specs.declared.event.EventKind.{EventKind}
use Rattle.event_book.specs.declared.event.EventKind.TheVariants as kinds
use Rattle.event_book.specs.declared.event.LogEvent.TheVariants as logs
use Rattle.event_book.specs.declared.event.MessageEvent.TheVariants as messages
use Rattle.event_book.specs.declared.event.ReplicationEvent.TheVariants as replications
use Rattle.event_book.specs.declared.event.ServerEvent.TheVariants as servers
use Rattle.event_book.specs.declared.event.WatchdogEvent.TheVariants as watchdogs
use Rattle.event_book.specs.declared.link.LinkEnd.TheVariants as ends
use Rattle.event_book.specs.declared.member.Member.{Member}
use Rattle.event_book.specs.declared.message.Body.{Body}
use Rattle.event_book.specs.declared.message.Body.TheVariants as bodies
use Rattle.event_book.specs.declared.message.Message.{Message}
use Rattle.event_book.specs.declared.reason.Basis.{Basis}
use Rattle.event_book.specs.declared.reason.Basis.TheVariants as bases
use Rattle.event_book.specs.Facts.{Facts}
use Rattle.event_book.specs.Members.{server_of}
use Rattle.agent_roles.specs.Asks.{IsAsk}
use Rattle.agent_model.specs.declared.output.Output.{Output}
use Rattle.agent_model.specs.declared.output.Output.TheVariants as outputs
use Rattle.agent_model.specs.declared.output.Feeding.TheVariants as feedings
use Rattle.agent_model.specs.declared.output.Outgoing.TheVariants as outgoing
use Rattle.agent_model.specs.declared.output.ServerOrder.TheVariants as orders
use Rattle.agent_model.specs.declared.output.Telling.TheVariants as tellings
use Rattle.agent_model.specs.declared.output.Target.TheVariants as targets
use Rattle.cluster_model.specs.Messages.{agent_message}

-- the agent of this member runs in this incarnation, and members stand at their numbers
pub record RunsAmong (member : Member) (incarnation : ℕ) (facts : Facts) : Type 0 where
  pub process : (process : AgentProcess) → slice_get facts.processes member.id.number ≡ Some process
      → process.incarnation ≡ incarnation
  pub numbered : (n : ℕ) (peer : Member) → slice_get facts.members n ≡ Some peer → peer.id.number ≡ n

-- a question of this member in its incarnation, which an output with this property sends
pub record IsQuestionOf (member : Member) (incarnation : ℕ) (Q : Output → Type 0) (message : Message) : Type 0 where
  pub sequence : ℕ
  pub body : Body
  pub is : message ≡ agent_message member ends.Store incarnation sequence body
  pub from : Q (outputs.Message (outgoing.Send targets.Store sequence body))

-- a message of this member that an output with this property sends: a question of its
-- incarnation, to the key store or to another member, or an answer to another member
pub data IsMessageOf (member : Member) (incarnation : ℕ) (Q : Output → Type 0) (message : Message) : Type 0 where
  Asks : (question : IsQuestionOf member incarnation Q message) → IsMessageOf member incarnation Q message
  AsksPeer : (peer : Member) → (id : MemberId) → (sequence : ℕ) → (body : Body) → (asks : IsAsk body)
      → (is : message ≡ agent_message member (ends.Member peer) incarnation sequence body)
      → (from : Q (outputs.Message (outgoing.Send (targets.Member id) sequence body)))
      → IsMessageOf member incarnation Q message
  AnswersPeer : (peer : Member) → (id : MemberId) → (asked sequence : ℕ) → (answer : PeerAnswer)
      → (is : message ≡ agent_message member (ends.Member peer) asked sequence (bodies.Answer answer))
      → (from : Q (outputs.Message (outgoing.Answer id asked sequence answer)))
      → IsMessageOf member incarnation Q message
  AnswersRequest : (peer : Member) → (id : MemberId) → (asked sequence : ℕ) → (accepted : Bool)
      → (at : peer.id.number ≡ id.number)
      → (is : message ≡ agent_message member (ends.Member peer) asked sequence (bodies.FailsafeAnswer accepted))
      → (from : Q (outputs.Message (outgoing.FailsafeAnswer id asked sequence accepted)))
      → IsMessageOf member incarnation Q message

-- its server begins to accept writes by an output with this property: it is to begin, or to start again
abbrev pub IsToBegin : (Output → Type 0) → Type 0
IsToBegin Q = Q (outputs.Server orders.Begin) ⊎ ((as_primary : Bool) × Q (outputs.Server (orders.Restart as_primary)))

-- its watchdog is fed by an output with this property: on the grant
-- that is heard in the message of this number, or on acknowledgements
pub data IsFeedOf (heard : ℕ) (Q : Output → Type 0) (until : Ticks) (basis : Basis) : Type 0 where
  ByGrant : (is : basis ≡ bases.Grant heard) → (from : Q (outputs.Watchdog (feedings.Fed until)))
      → IsFeedOf heard Q until basis
  ByFailsafe : (members : MemberSet) → (sequence : ℕ) → (since : Ticks)
      → (is : basis ≡ bases.Acknowledgements members sequence)
      → (from : Q (outputs.Watchdog (feedings.FedByFailsafe until members sequence since)))
      → IsFeedOf heard Q until basis

-- it takes a hold by an output with this property, for a request of this member
pub record IsHoldOf (Q : Output → Type 0) (until : Ticks) (from : Member) (sequence : ℕ) : Type 0 where
  pub id : MemberId
  pub at : from.id.number ≡ id.number
  pub by : Q (outputs.Tell (tellings.HoldTaken until id sequence))

-- what an output with this property brings, of an agent of this member
-- in its incarnation that heard the message of this number
abbrev pub IsOfInput : Member → ℕ → ℕ → (Output → Type 0) → EventKind → Type 0
IsOfInput member incarnation heard Q (kinds.Message (messages.Sent number message)) =
    IsMessageOf member incarnation Q message
IsOfInput member incarnation heard Q (kinds.Message (messages.Lost number)) = Unit {0}
IsOfInput member incarnation heard Q (kinds.Server (servers.Began server timeline)) =
    (server ≡ server_of member) × IsToBegin Q
IsOfInput member incarnation heard Q (kinds.Server (servers.StartsAsReplica server)) = server ≡ server_of member
IsOfInput member incarnation heard Q (kinds.Server (servers.StartsAsPrimary server)) = server ≡ server_of member
IsOfInput member incarnation heard Q (kinds.Server (servers.Follows server upstream)) = server ≡ server_of member
IsOfInput member incarnation heard Q (kinds.Server (servers.Ended server)) = server ≡ server_of member
IsOfInput member incarnation heard Q (kinds.Server (servers.Stops server)) = server ≡ server_of member
IsOfInput member incarnation heard Q (kinds.Log (logs.Rewound server from kept at)) = server ≡ server_of member
IsOfInput member incarnation heard Q (kinds.Log (logs.Copied server from)) = server ≡ server_of member
IsOfInput member incarnation heard Q (kinds.Log (logs.Wiped server)) = server ≡ server_of member
IsOfInput member incarnation heard Q (kinds.Watchdog (watchdogs.Armed by until answer)) =
    (by ≡ member) × (answer ≡ heard) × Q (outputs.Watchdog (feedings.Armed until))
IsOfInput member incarnation heard Q (kinds.Watchdog (watchdogs.Fed by until basis)) =
    (by ≡ member) × IsFeedOf heard Q until basis
IsOfInput member incarnation heard Q (kinds.Watchdog (watchdogs.HoldTaken by until from run sequence)) =
    (by ≡ member) × IsHoldOf Q until from sequence
IsOfInput member incarnation heard Q (kinds.Watchdog (watchdogs.Disarmed by)) = by ≡ member
IsOfInput member incarnation heard Q (kinds.Watchdog (watchdogs.Measured by from)) = by ≡ member
IsOfInput member incarnation heard Q (kinds.Replication (replications.RequiredSet server required names)) =
    server ≡ server_of member
IsOfInput member incarnation heard Q (kinds.Replication (replications.Lacks server)) = server ≡ server_of member
IsOfInput member incarnation heard Q (kinds.Agent (agents.Passed by)) =
    (by ≡ member) × Q (outputs.Tell tellings.ClaimsOutsideSync)
IsOfInput member incarnation heard Q (kinds.Note note) = Unit {0}
IsOfInput member incarnation heard Q _ = ⊥
