-- Which inputs of the law of the lease an input of the table stands for, and that they are lawful.
use Rattle.std.specs.Prelude.{ℕ, ◌≡◌, ◌⊎◌, ◌≤◌, Bool, true, false, List, [], Option, Some, None, Contains}
use Rattle.pat_base.specs.declared.member_id.MemberId.{MemberId}
use Rattle.pat_base.specs.declared.ticks.Ticks.{Ticks}
use Rattle.lease_store.specs.declared.granted.Granted.{Granted}
use Rattle.cluster_view.specs.KeyValues.{config_in}
use Rattle.cluster_view.specs.Snapshots.{SnapshotFacts}
use Rattle.event_book.specs.declared.message.Body.{Body}
use Rattle.event_book.specs.declared.message.Body.TheVariants as bodies
use Rattle.leader_key.specs.Watchdog.{HasMargin, is_armable}
use Rattle.lease_model.specs.Leases.{Query, Read, Grant, Answer, FailsafeRequest, Flying, Requested, Answered, FailsafeRequested, Acknowledged}
use Rattle.lease_model.specs.States.{State, Acts}
use Rattle.lease_model.specs.Inputs.{AgentInput, Fed, IsLawful}
use Rattle.lease_model.specs.Past.{query_of}
use Rattle.agent_model.specs.declared.heard.Heard.{Heard}
use Rattle.agent_model.specs.declared.heard.Heard.TheVariants as heards
use Rattle.agent_model.specs.declared.knowledge.Knowledge.{Knowledge}
use Rattle.agent_model.specs.declared.knowledge.PendingQuestion.{PendingQuestion}
use Rattle.agent_model.specs.declared.machine.Machine.{Machine}
use Rattle.agent_model.specs.declared.output.Output.{Output}
use Rattle.agent_model.specs.declared.output.Output.TheVariants as outputs
use Rattle.agent_model.specs.declared.output.Outgoing.TheVariants as outgoing
use Rattle.agent_model.specs.declared.output.Target.TheVariants as targets
use Rattle.agent_model.specs.Agents.{Outcome, is_ready}
use Rattle.agent_model.specs.Outputs.{is_arming, is_feeding, has_one, OutputsBeginBehind}
use Rattle.agent_model.specs.Pausing.{is_paused}
use Rattle.agent_roles.specs.Powers.{IsAwaitedLease}
use Rattle.agent_sending.specs.Modes.{KeepsMode, TellsMode}
use Rattle.agent_roles.specs.Seen.{leader_seen, failsafe_seen, moment_seen, machine_seen}

-- the state of the law in which this agent stands at this moment: what it read has failsafe mode as it
-- is declared, and doesn't pause the cluster; where it is about to begin, a grant set its deadline last
pub record StandsIn (s : State) (m runs : ℕ) (now : Ticks) (o : Outcome) : Type 0 where
  pub member : s.members m ≡ machine_seen o.role o.knows o.machine runs
  pub me : o.knows.who.me.number ≡ m
  pub clock : s.clock ≡ now.0
  pub margin : s.declared.margin m ≡ moment_seen o.machine.watchdog.margin
  pub mode : KeepsMode s.declared.failsafe o.knows
  pub ready : is_ready o.role ≡ true → o.machine.by_failsafe ≡ false
  pub unpaused : is_paused o.knows ≡ false

-- the message that this member hears is the key store's answer to the question of this number,
-- with this snapshot, which has failsafe mode as it is declared, and doesn't pause the cluster
pub record HearsAnswer (s : State) (m : ℕ) (heard : Option ℕ) (sequence : ℕ) (snapshot : SnapshotFacts)
    (knows : Knowledge) : Type 0 where
  pub number : ℕ
  pub answer : Answer
  pub heard_is : heard ≡ Some number
  pub is : s.flight number ≡ Some (Answered answer)
  pub member : answer.member ≡ m
  pub incarnation : answer.incarnation ≡ knows.incarnation
  pub sequence_is : answer.sequence ≡ sequence
  pub leader : answer.leader ≡ leader_seen snapshot
  pub failsafe : answer.failsafe ≡ failsafe_seen snapshot
  pub mode : TellsMode s.declared.failsafe snapshot
  pub unpaused : (config_in snapshot).pause ≡ false

-- a watchdog can be fed: it is on, its device works, and its margin is one that a watchdog may have
pub record CanFeed (machine : Machine) : Type 0 where
  pub armable : is_armable machine.watchdog.mode machine.watchdog.works ≡ true
  pub margin : HasMargin machine.watchdog

-- the answer tells the grant of the lease that is waited for, and the watchdog
-- can be fed on it. Whether that comes in time the agent judges itself
pub record TellsLease (grant : Granted) (snapshot : SnapshotFacts) (machine : Machine)
    (waited : PendingQuestion) (answer : Answer) : Type 0 where
  pub told : Grant
  pub is : answer.grant ≡ Some told
  pub revision : told.revision ≡ grant.revision
  pub ttl : told.ttl ≡ waited.ttl.0
  pub sent : told.sent ≡ waited.sent.0
  pub failsafe : told.failsafe ≡ failsafe_seen snapshot
  pub feeds : CanFeed machine

-- it hears the answer to a granted request; where that grants the lease that is waited for, it tells so
pub record HearsGrant (s : State) (m : ℕ) (heard : Option ℕ) (sequence : ℕ) (grant : Granted)
    (snapshot : SnapshotFacts) (o : Outcome) : Type 0 where
  pub answer : HearsAnswer s m heard sequence snapshot o.knows
  pub lease : (awaited : IsAwaitedLease sequence grant o.knows)
      → TellsLease grant snapshot o.machine awaited.waited answer.answer

-- the message that is heard is the failsafe request of this member, of
-- that number in its incarnation, for leases of this span
pub record HearsRequest (s : State) (heard : Option ℕ) (from : MemberId) (incarnation sequence : ℕ) (ttl : Ticks) : Type
    0 where
  pub number : ℕ
  pub sent : ℕ
  pub heard_is : heard ≡ Some number
  pub is : s.flight number
      ≡ Some (FailsafeRequested
      (record { member = from.number; incarnation = incarnation; sequence = sequence; ttl = ttl.0; sent = sent }))

-- it is this member's acknowledgement of the failsafe request of that number, and the watchdog can be fed on it
pub record HearsYes (s : State) (m : ℕ) (heard : Option ℕ) (from : MemberId) (sequence : ℕ) (o : Outcome) : Type 0 where
  pub number : ℕ
  pub heard_is : heard ≡ Some number
  pub is : s.flight number
      ≡ Some
      (Acknowledged (record { member = m; incarnation = o.knows.incarnation; sequence = sequence; by = from.number }))
  pub feeds : CanFeed o.machine

-- what the law hears of what comes to an agent. Of a refusal, and of how far servers
-- are, which other members ask and answer, it needs no more than that its message is
-- gone then. A wake may feed the watchdog of a leader that has nobody to ask
abbrev pub Hears : State → ℕ → Option ℕ → Heard → Outcome → Type 0
Hears s m heard heards.Wake o = CanFeed o.machine
Hears s m heard (heards.ReadAnswered sequence snapshot) o = HearsAnswer s m heard sequence snapshot o.knows
Hears s m heard (heards.Granted sequence grant snapshot) o = HearsGrant s m heard sequence grant snapshot o
Hears s m heard (heards.Mismatch sequence key found) o = Unit {0}
Hears s m heard (heards.Asked from incarnation sequence) o = Unit {0}
Hears s m heard (heards.Answered sequence answer) o = Unit {0}
Hears s m heard (heards.FailsafeAsked from incarnation sequence ttl) o =
    HearsRequest s heard from incarnation sequence ttl
Hears s m heard (heards.FailsafeAnswered from sequence accepted sent) o =
    accepted ≡ true → HearsYes s m heard from sequence o
Hears s m heard (heards.Operated action) o = Unit {0}

-- what the law reads of a question to the key store
abbrev pub query_in : Body → Option Query
query_in bodies.Read = Some Read
query_in (bodies.Request txn) = Some (query_of txn)
query_in _ = None

-- a message in flight that one of these outputs sent at this moment: this member's question to the key store
-- in this incarnation, its failsafe request to another member, or its acknowledgement of another one's
pub data IsSentBy (m incarnation clock : ℕ) (outs : List Output) (flying : Flying) : Type 0 where
  AsksStore : (sequence : ℕ) (body : Body) (query : Query)
      → (among : Contains outs (outputs.Message (outgoing.Send targets.Store sequence body)))
      → (query_is : query_in body ≡ Some query)
      → (is : flying
      ≡ Requested (record { member = m; incarnation = incarnation; sequence = sequence; sent = clock; query = query }))
      → IsSentBy m incarnation clock outs flying
  AsksMember : (to : MemberId) (sequence : ℕ) (ttl : Ticks)
      → (among : Contains outs
      (outputs.Message (outgoing.Send (targets.Member to) sequence (bodies.FailsafeRequest ttl))))
      → (is : flying ≡ FailsafeRequested
      (record { member = m; incarnation = incarnation; sequence = sequence; ttl = ttl.0; sent = clock }))
      → IsSentBy m incarnation clock outs flying
  SaysYes : (to : MemberId) (run sequence : ℕ)
      → (among : Contains outs (outputs.Message (outgoing.FailsafeAnswer to run sequence true)))
      → (is : flying ≡ Acknowledged (record { member = to.number; incarnation = run; sequence = sequence; by = m }))
      → IsSentBy m incarnation clock outs flying

-- an output by which a member acknowledges another one's failsafe request
abbrev pub is_yes : Output → Bool
is_yes (outputs.Message (outgoing.FailsafeAnswer to incarnation sequence accepted)) = accepted
is_yes _ = false

-- the failsafe request that a message in flight is, if it is one
abbrev pub request_in : Option Flying → Option FailsafeRequest
request_in (Some (FailsafeRequested request)) = Some request
request_in _ = None

-- the failsafe request that is heard, if one is
abbrev pub request_heard : (ℕ → Option Flying) → Option ℕ → Option FailsafeRequest
request_heard flight None = None
request_heard flight (Some number) = request_in (flight number)

-- the failsafe request that a member takes a hold for: the one that it hears, where it acknowledges that
abbrev pub request_taken : Bool → Option FailsafeRequest → Option FailsafeRequest
request_taken true request = request
request_taken false request = None

-- the input of the law that stands for one of the table: its machine is what the input
-- leaves, the messages in flight after it are without the one that is heard, and with those
-- that its outputs send; and it takes a hold where an output acknowledges what is heard
pub record IsInputOf (s : State) (m runs : ℕ) (o after : Outcome) (input : AgentInput) : Type 0 where
  pub feeds : input.feeds ≡ has_one is_feeding after.outputs
  pub takes : input.takes ≡ request_taken (has_one is_yes after.outputs) (request_heard s.flight input.heard)
  pub machine : input.machine ≡ machine_seen after.role after.knows after.machine runs
  pub gone : (number : ℕ) → input.heard ≡ Some number → input.flight number ≡ None
  pub flight : (i : ℕ) (flying : Flying) → input.flight i ≡ Some flying
      → (s.flight i ≡ Some flying) ⊎ IsSentBy m o.knows.incarnation s.clock after.outputs flying

-- whose server comes to accept writes behind these outputs heard a grant, no hold is active, and the watchdog was armed
pub record PromotesArmed (s : State) (m : ℕ) (input : AgentInput) (before : List Output) : Type 0 where
  pub fed : Fed s m input.heard
  pub free : (s.members m).hold ≤ s.clock
  pub armed : has_one is_arming before ≡ true

-- so it may, or the member acted before
abbrev pub MayPromote : State → ℕ → AgentInput → List Output → Type 0
MayPromote s m input before = Acts (s.members m) ⊎ PromotesArmed s m input before

-- an input of the law is lawful, and the server comes to accept writes only behind outputs after which it may
pub record IsLawfulAnd (s : State) (m : ℕ) (after : Outcome) (input : AgentInput) : Type 0 where
  pub lawful : IsLawful s m input
  pub begins : OutputsBeginBehind (MayPromote s m input) [] after.outputs

-- whatever input of the law stands for this one of the table is lawful
abbrev pub IsLawfulFrom : Ticks → Heard → Outcome → Outcome → Type 0
IsLawfulFrom now heard o after = (s : State) (m runs : ℕ) (input : AgentInput) → StandsIn s m runs now o
    → Hears s m input.heard heard o → IsInputOf s m runs o after input → IsLawfulAnd s m after input
