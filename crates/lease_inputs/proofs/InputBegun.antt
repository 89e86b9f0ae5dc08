-- The event with which an input begins, and what its outputs ask.
use Rattle.event_book.specs.Flight.{sent_after}
use Rattle.std.proofs.Common.{◌≡◌, ◌≤◌, ◌<◌, ℕ, Bool, true, false, if◌then◌else◌, List, [], ◌∷◌, Option, Some, None, refl, sym, subst, ap}
use Rattle.event_book.specs.declared.event.AgentEvent.TheVariants as agents
use Rattle.event_book.specs.declared.event.Event.{Event}
use Rattle.event_book.specs.declared.event.EventKind.{EventKind}
use Rattle.event_book.specs.declared.event.EventKind.TheVariants as kinds
use Rattle.event_book.specs.declared.event.MessageEvent.TheVariants.{Sent, Delivered, Lost}
use Rattle.event_book.specs.declared.member.Member.{Member}
use Rattle.event_book.specs.declared.message.Body.{Body}
use Rattle.event_book.specs.declared.message.Body.TheVariants as peer_bodies
use Rattle.event_book.specs.declared.message.Message.{Message}
use Rattle.event_book.specs.Functions.{set_members}
use Rattle.script_model.specs.Script.{HeadText}
use Rattle.agent_model.specs.declared.output.Output.{Output}
use Rattle.agent_model.specs.declared.output.Output.TheVariants as outputs
use Rattle.agent_model.specs.declared.output.Outgoing.TheVariants as outgoing
use Rattle.agent_model.specs.declared.output.Target.TheVariants as targets
use Rattle.agent_model.specs.declared.knowledge.Knowledge.{Knowledge}
use Rattle.agent_roles.specs.Seen.{agent_seen as role_seen, check_seen}
use Rattle.lease_model.specs.States.{FailsafeCheck, is_ready as ready_seen}
use Rattle.agent_model.specs.Agents.{RoleFacts, Follower, Holder, Ready, Leader, Ending, Unleased, is_ready}
use Rattle.agent_roles.specs.Asks.{IsAsk}
use Rattle.lease_model.specs.Modes.{IsModeAsked, LeavesMode}
use Rattle.cluster_model.specs.Deliveries.{is_answer}
use Rattle.agent_model.specs.declared.output.Target.{Target}
use Rattle.cluster_model.specs.Cluster.{cluster_after}
use Rattle.cluster_model.specs.State.{Cluster}
use Rattle.lease_model.specs.Leases.{FailsafeRequest}
use Rattle.event_book.specs.Premises.{IsOnTime}
use Rattle.lease_model.specs.Inputs.{Fed}
use Rattle.lease_model.specs.Past.{VolatileState}
use Rattle.lease_model.specs.Feeds.{KeepsClockAndRuns, KeepsMomentOf}
use Rattle.failsafe.specs.declared.asks.Ask.{Ask}
use Rattle.agent_model.specs.declared.knowledge.PendingQuestion.{PendingQuestion}
use Rattle.agent_model.specs.StayingPrimary.{is_staying}
use Rattle.event_book.specs.Kinds.{AllAre}
use Rattle.lease_model.specs.States.{Agent, State}
use Rattle.lease_model.proofs.Tools.{none-some, some-is}
use Rattle.lease_parts.specs.Declaring.{works_of}
use Rattle.lease_inputs.specs.InputEvents.{IsMessageOf, Asks, AsksPeer, AnswersPeer, AnswersRequest, IsOfInput}
use Rattle.lease_parts.specs.Kept.{IsKept}
use Rattle.agent_roles.specs.Asks.{IsQuestion}
use Rattle.lease_parts.specs.Waiting.{IsAddressed, IsPeerBody}
use Rattle.lease_parts.proofs.Fitting.{SendsAddressed}
use Rattle.lease_inputs.proofs.InputKinds.{IsOpening}
use Rattle.lease_inputs.proofs.InputOutputs.{GoesBetween}

-- ---- the event with which it begins
pub record IsBegun (m : ℕ) (cluster later : Cluster) : Type 0 where
  pub processes : later.facts.processes ≡ cluster.facts.processes
  pub clock : later.facts.clock ≡ cluster.facts.clock
  pub servers : later.facts.servers ≡ cluster.facts.servers
  pub deadlines : later.facts.deadlines ≡ cluster.facts.deadlines
  pub holds : later.facts.holds ≡ cluster.facts.holds
  pub members : later.facts.members ≡ cluster.facts.members
  pub bases : later.failsafe_deadlines ≡ cluster.failsafe_deadlines
  pub sent : later.facts.sent ≡ cluster.facts.sent

pub begun-by : (m : ℕ) (cluster : Cluster) (heard : Option ℕ) (kind : EventKind) → IsOpening heard kind
    → IsBegun m cluster (cluster_after cluster kind)
begun-by m cluster heard (kinds.Agent (agents.Woken by)) is = record {
  processes = refl;
  clock = refl;
  servers = refl;
  deadlines = refl;
  holds = refl;
  members = refl;
  bases = refl;
  sent = refl;
}
begun-by m cluster heard (kinds.Agent (agents.Operated by action)) is = record {
  processes = refl;
  clock = refl;
  servers = refl;
  deadlines = refl;
  holds = refl;
  members = refl;
  bases = refl;
  sent = refl;
}
begun-by m cluster heard (kinds.Message (Delivered number)) is = record {
  processes = refl;
  clock = refl;
  servers = refl;
  deadlines = refl;
  holds = refl;
  members = refl;
  bases = refl;
  sent = refl;
}
begun-by m cluster heard _ is = absurd is

pub opening-addressed : (members : List Member) (mode : Bool) (heard : Option ℕ) (kind : EventKind)
    → IsOpening heard kind → SendsAddressed members mode kind
opening-addressed members mode heard (kinds.Agent (agents.Woken by)) is = tt
opening-addressed members mode heard (kinds.Agent (agents.Operated by action)) is = tt
opening-addressed members mode heard (kinds.Message (Delivered number)) is = tt
opening-addressed members mode heard _ is = absurd is

pub opening-mode : (mode : Bool) (heard : Option ℕ) (kind : EventKind) → IsOpening heard kind → LeavesMode mode kind
opening-mode mode heard (kinds.Agent (agents.Woken by)) is = tt
opening-mode mode heard (kinds.Agent (agents.Operated by action)) is = tt
opening-mode mode heard (kinds.Message (Delivered number)) is = tt
opening-mode mode heard _ is = absurd is

pub opening-sent : (heard : Option ℕ) (kind : EventKind) (last : ℕ) → IsOpening heard kind → sent_after last kind ≡ last
opening-sent heard (kinds.Agent (agents.Woken by)) last is = refl
opening-sent heard (kinds.Agent (agents.Operated by action)) last is = refl
opening-sent heard (kinds.Message (Delivered number)) last is = refl
opening-sent heard _ last is = absurd is

-- what outputs with this property ask: the key store is asked a question, each
-- question has a number that counts from 1, and none asks to change failsafe mode
pub record AskWell (mode : Bool) (Q : Output → Type 0) : Type 0 where
  pub store : (sequence : ℕ) (body : Body) → Q (outputs.Message (outgoing.Send targets.Store sequence body))
      → IsQuestion body
  pub numbered : (to : Target) (sequence : ℕ) (body : Body)
      → Q (outputs.Message (outgoing.Send to sequence body)) → 0 < sequence
  pub leaves : (to : Target) (sequence : ℕ) (body : Body)
      → Q (outputs.Message (outgoing.Send to sequence body)) → IsModeAsked mode body

-- so is a message
abbrev IsSentWell : Bool → Message → Type 0
IsSentWell mode message = IsAddressed message.from message.to message.body
    × ((is_answer message.body ≡ false → 0 < message.sequence) × IsModeAsked mode message.body)

asks-peer : (body : Body) → IsAsk body → IsPeerBody body
asks-peer peer_bodies.Ask is = tt
asks-peer (peer_bodies.FailsafeRequest ttl) is = tt
asks-peer _ is = absurd is

no-answer : true ≡ false → ⊥
no-answer e = cc

sent-well : (mode : Bool) (member : Member) (incarnation : ℕ) (Q : Output → Type 0) → AskWell mode Q
    → (message : Message) → IsMessageOf member incarnation Q message → IsSentWell mode message
sent-well mode member incarnation Q asks message (Asks is) =
    subst (IsSentWell mode) (sym is.is) (
      asks.store is.sequence is.body is.from,
      (
        (λ _. asks.numbered targets.Store is.sequence is.body is.from),
        asks.leaves targets.Store is.sequence is.body is.from,
      ),
    )
sent-well mode member incarnation Q asks message (AsksPeer peer id sequence body ask is from) =
    subst (IsSentWell mode) (sym is) (
      asks-peer body ask,
      ((λ _. asks.numbered (targets.Member id) sequence body from), asks.leaves (targets.Member id) sequence body from),
    )
sent-well mode member incarnation Q asks message (AnswersPeer peer id asked sequence answer is from) =
    subst (IsSentWell mode) (sym is) (tt, ((λ e. absurd (no-answer e)), tt))
sent-well mode member incarnation Q asks message (AnswersRequest peer id asked sequence accepted at is from) =
    subst (IsSentWell mode) (sym is) (tt, ((λ e. absurd (no-answer e)), tt))

pub mine-addressed : (members : List Member) (mode : Bool) (member : Member) (incarnation heard : ℕ)
    (Q : Output → Type 0)
    → AskWell mode Q → (kind : EventKind) → IsOfInput member incarnation heard Q kind
    → GoesBetween members kind → SendsAddressed members mode kind
mine-addressed members mode member incarnation heard Q asks (kinds.Message (Sent number message)) is between =
    let well = sent-well mode member incarnation Q asks message is in (well.0, (well.1.0, (well.1.1, between)))
mine-addressed members mode member incarnation heard Q asks (kinds.Message (Delivered number)) is between = absurd is
mine-addressed members mode member incarnation heard Q asks (kinds.Message (Lost number)) is between = tt
mine-addressed members mode member incarnation heard Q asks _ is between = tt

pub mine-mode : (mode : Bool) (member : Member) (incarnation heard : ℕ) (Q : Output → Type 0) (kind : EventKind)
    → IsOfInput member incarnation heard Q kind → LeavesMode mode kind
mine-mode mode member incarnation heard Q (kinds.Store happening) is = absurd is
mine-mode mode member incarnation heard Q _ is = tt

pub both-are : (P R : EventKind → Type 0) (events : List Event) → AllAre P events → AllAre R events
    → AllAre (λ kind. P kind × R kind) events
both-are P R [] p r = tt
both-are P R (event ∷ events) p r = ((p.0, r.0), both-are P R events p.1 r.1)

-- the premises say that watchdogs work
pub kept-if-works : (head : HeadText) (book : List Event) (cluster : Cluster) (events : List Event)
    → (((m : ℕ) → works_of head m ≡ true) → IsKept head book cluster events) → IsKept head book cluster events
kept-if-works head book cluster events kept = record {
  inside = λ front rest e meets. (kept meets.hands_off.watched).inside front rest e meets;
  behind = λ meets. (kept meets.hands_off.watched).behind meets;
}

pub volatile-same : (a b : Bool) (x y : Option _) → a ≡ b → x ≡ y
    → ◌≡◌ {A = VolatileState} (record { live = a; agent = x }) (record { live = b; agent = y })
volatile-same a b x y p q = cc

-- an agent hears a grant in time, on which it may come to act, since no hold of it is active
pub record ArmsInTime (s : State) (m : ℕ) (heard : Option ℕ) : Type 0 where
  pub fed : Fed s m heard
  pub in_time : IsOnTime (s.declared.margin m) s.clock fed.grant.moment
  pub free : (s.members m).hold ≤ s.clock

pub ready-seen : (role : RoleFacts) (knows : Knowledge) → ready_seen (Some (role_seen role knows)) ≡ is_ready role
ready-seen Follower knows = refl
ready-seen (Holder revision) knows = refl
ready-seen (Ready revision) knows = refl
ready-seen (Leader revision) knows = refl
ready-seen (Ending revision why) knows = refl
ready-seen Unleased knows = refl

pub clock-of : (number : ℕ) (kind : EventKind) → KeepsMomentOf number kind → KeepsClockAndRuns kind
clock-of number (kinds.Message (Sent other message)) is = tt
clock-of number (kinds.Message _) is = tt
clock-of number kinds.Tick is = absurd is
clock-of number (kinds.Agent (agents.Started agent incarnation)) is = absurd is
clock-of number _ is = tt

-- the acknowledgements that an agent waits for, as the law sees them
pub record IsCheck (ask : Ask) (found : Option PendingQuestion) (failsafe_check : FailsafeCheck) : Type 0 where
  pub waited : PendingQuestion
  pub is : found ≡ Some waited
  pub staying : is_staying waited.question ≡ true
  pub sequence : failsafe_check.sequence ≡ waited.sequence
  pub members : failsafe_check.members ≡ set_members ask.members

pub check-is : (ask : Ask) (found : Option PendingQuestion) (failsafe_check : FailsafeCheck)
    → check_seen ask found ≡ Some failsafe_check → IsCheck ask found failsafe_check
check-is ask None failsafe_check e = absurd (none-some failsafe_check e)
check-is ask (Some one) failsafe_check e = by (is_staying one.question) refl e
  where
    check-now : FailsafeCheck
    check-now = record {
      sequence = one.sequence;
      ttl = one.ttl.0;
      sent = one.sent.0;
      members = set_members ask.members;
      yes = set_members ask.acknowledged;
    }

    by : (test : Bool) → is_staying one.question ≡ test
        → (if test then Some check-now else None) ≡ Some failsafe_check → IsCheck ask (Some one) failsafe_check
    by true stay same = let is : check-now ≡ failsafe_check = some-is check-now failsafe_check same in record {
      waited = one;
      is = refl;
      staying = stay;
      sequence = ap (λ (c : FailsafeCheck). c.sequence) (sym is);
      members = ap (λ (c : FailsafeCheck). c.members) (sym is);
    }
    by false stay same = absurd (none-some failsafe_check same)
