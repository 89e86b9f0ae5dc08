-- What holds of each event that an input of an agent brings.
use Rattle.std.proofs.Common.{◌≡◌, ◌⊎◌, ◌<◌, ℕ, Bool, true, false, List, [], ◌∷◌, Option, Some, None, refl, sym, subst, ap, ◌∙◌, inl, inr}
use Rattle.pat_base.specs.declared.member_id.MemberId.{MemberId}
use Rattle.pat_base.specs.declared.ticks.Ticks.{Ticks}
use Rattle.event_book.specs.declared.event.Event.{Event}
use Rattle.event_book.specs.declared.event.EventKind.{EventKind}
use Rattle.event_book.specs.declared.event.EventKind.TheVariants as kinds
use Rattle.event_book.specs.declared.event.AgentEvent.TheVariants as agents
use Rattle.event_book.specs.declared.event.MessageEvent.TheVariants.{Sent, Delivered, Lost}
use Rattle.event_book.specs.declared.event.ServerEvent.TheVariants as servers
use Rattle.event_book.specs.declared.event.WatchdogEvent.TheVariants as watchdogs
use Rattle.event_book.specs.declared.link.LinkEnd.{LinkEnd}
use Rattle.event_book.specs.declared.link.LinkEnd.TheVariants as ends
use Rattle.event_book.specs.declared.member.Member.{Member}
use Rattle.event_book.specs.declared.member.ServerOf.{ServerOf}
use Rattle.event_book.specs.declared.message.Body.{Body}
use Rattle.event_book.specs.declared.message.Body.TheVariants as bodies
use Rattle.event_book.specs.declared.message.Message.{Message}
use Rattle.agent_model.specs.declared.output.Output.{Output}
use Rattle.agent_model.specs.declared.output.Output.TheVariants as outputs
use Rattle.agent_model.specs.declared.output.Outgoing.TheVariants as outgoing
use Rattle.agent_model.specs.declared.output.Telling.TheVariants as tellings
use Rattle.agent_model.specs.declared.output.Target.TheVariants as targets
use Rattle.agent_lease_law.specs.Lawful.{query_in}
use Rattle.agent_roles.specs.Asks.{IsAsk}
use Rattle.cluster_model.specs.Messages.{agent_message}
use Rattle.lease_model.specs.Leases.{Query, Read, Question, Flying, Requested, FailsafeRequested, Acknowledged}
use Rattle.event_book.specs.Premises.{Taking, taken_after, IsHandsOffKind}
use Rattle.lease_model.specs.Past.{Past, first_past, flying_of, past_after, past_over, query_of}
use Rattle.lease_model.specs.Feeds.{KeepsMomentOf}
use Rattle.event_book.specs.Kinds.{AllAre}
use Rattle.lease_model.specs.Showing.{IsOwn}
use Rattle.lease_model.specs.Stores.{IsSpanned}
use Rattle.lease_model.proofs.Tools.{some-is}
use Rattle.std.proofs.lemmas.Bool.{cases_eq}
use Rattle.lease_book.specs.Groups.{IsMemberEnd, IsOfMembers as IsFromMembers, IsNumberedAbove}
use Rattle.lease_book.specs.Sending.{SendsOnly, flying_from}
use Rattle.lease_book.proofs.Flights.{asked-there, asked-new, flying-same}
use Rattle.lease_inputs.specs.InputEvents.{IsMessageOf, Asks, AsksPeer, AnswersPeer, AnswersRequest, IsOfInput}
use Rattle.lease_parts.specs.Machines.{IsWithinMembers}

-- the event with which an input begins: its agent is woken, or asked by an operator, or a message comes to it
abbrev pub IsOpening : Option ℕ → EventKind → Type 0
IsOpening heard (kinds.Agent (agents.Woken by)) = heard ≡ None
IsOpening heard (kinds.Agent (agents.Operated by action)) = heard ≡ None
IsOpening heard (kinds.Message (Delivered number)) = heard ≡ Some number
IsOpening heard _ = ⊥

pub opening-own : (m : ℕ) (heard : Option ℕ) (kind : EventKind) → IsOpening heard kind → IsOwn m kind
opening-own m heard (kinds.Agent (agents.Woken by)) is = tt
opening-own m heard (kinds.Agent (agents.Operated by action)) is = tt
opening-own m heard (kinds.Message (Delivered number)) is = tt
opening-own m heard _ is = absurd is

pub opening-taken : (clock : ℕ) (taken : List Taking) (heard : Option ℕ) (kind : EventKind)
    → IsOpening heard kind → taken_after clock taken kind ≡ taken
opening-taken clock taken heard (kinds.Agent (agents.Woken by)) is = refl
opening-taken clock taken heard (kinds.Agent (agents.Operated by action)) is = refl
opening-taken clock taken heard (kinds.Message (Delivered number)) is = refl
opening-taken clock taken heard _ is = absurd is

pub opening-clock : (heard : Option ℕ) (kind : EventKind) → IsOpening heard kind → (past : Past)
    → (past_after past kind).clock ≡ past.clock
opening-clock heard (kinds.Agent (agents.Woken by)) is past = refl
opening-clock heard (kinds.Agent (agents.Operated by action)) is past = refl
opening-clock heard (kinds.Message (Delivered number)) is past = refl
opening-clock heard _ is past = absurd is

pub opening-sends : (P : Flying → Type 0) (clock : ℕ) (heard : Option ℕ) (kind : EventKind)
    → IsOpening heard kind → SendsOnly P clock kind
opening-sends P clock heard (kinds.Agent (agents.Woken by)) is = tt
opening-sends P clock heard (kinds.Agent (agents.Operated by action)) is = tt
opening-sends P clock heard (kinds.Message (Delivered number)) is = tt
opening-sends P clock heard _ is = absurd is

pub opening-from : (heard : Option ℕ) (kind : EventKind) → IsOpening heard kind → IsFromMembers kind
opening-from heard (kinds.Agent (agents.Woken by)) is = tt
opening-from heard (kinds.Agent (agents.Operated by action)) is = tt
opening-from heard (kinds.Message (Delivered number)) is = tt
opening-from heard _ is = absurd is

pub opening-above : (last : ℕ) (heard : Option ℕ) (kind : EventKind) → IsOpening heard kind → IsNumberedAbove last kind
opening-above last heard (kinds.Agent (agents.Woken by)) is = tt
opening-above last heard (kinds.Agent (agents.Operated by action)) is = tt
opening-above last heard (kinds.Message (Delivered number)) is = tt
opening-above last heard _ is = absurd is

pub opening-members : (count : ℕ) (heard : Option ℕ) (kind : EventKind) → IsOpening heard kind
    → IsWithinMembers count kind
opening-members count heard (kinds.Agent (agents.Woken by)) is = tt
opening-members count heard (kinds.Agent (agents.Operated by action)) is = tt
opening-members count heard (kinds.Message (Delivered number)) is = tt
opening-members count heard _ is = absurd is

pub opening-hands_off : (heard : Option ℕ) (kind : EventKind) → IsOpening heard kind → IsHandsOffKind kind
opening-hands_off heard (kinds.Agent (agents.Woken by)) is = tt
opening-hands_off heard (kinds.Agent (agents.Operated by action)) is = tt
opening-hands_off heard (kinds.Message (Delivered number)) is = tt
opening-hands_off heard _ is = absurd is

pub opening-moments : (n : ℕ) (heard : Option ℕ) (kind : EventKind) → IsOpening heard kind → KeepsMomentOf n kind
opening-moments n heard (kinds.Agent (agents.Woken by)) is = tt
opening-moments n heard (kinds.Agent (agents.Operated by action)) is = tt
opening-moments n heard (kinds.Message (Delivered number)) is = tt
opening-moments n heard _ is = absurd is

-- this holds of what flies of the messages that outputs with this property send
pub record MaySend (member : Member) (incarnation : ℕ) (Q : Output → Type 0) (P : Flying → Type 0) (clock : ℕ) : Type
    0 where
  pub store : (sequence : ℕ) (body : Body) (query : Query)
      → Q (outputs.Message (outgoing.Send targets.Store sequence body))
      → query_in body ≡ Some query → P (Requested (record {
        member = member.id.number;
        incarnation = incarnation;
        sequence = sequence;
        sent = clock;
        query = query;
      }))
  pub asks : (to : MemberId) (sequence : ℕ) (ttl : Ticks)
      → Q (outputs.Message (outgoing.Send (targets.Member to) sequence (bodies.FailsafeRequest ttl)))
      → P (FailsafeRequested
      (record { member = member.id.number; incarnation = incarnation; sequence = sequence; ttl = ttl.0; sent = clock }))
  pub says : (to : MemberId) (run sequence : ℕ) → Q (outputs.Message (outgoing.FailsafeAnswer to run sequence true))
      → P (Acknowledged (record { member = to.number; incarnation = run; sequence = sequence; by = member.id.number }))

-- ---- one of its further events
module _ (member : Member) (incarnation heard : ℕ) (Q : Output → Type 0) where
  abbrev Mine : EventKind → Type 0
  Mine kind = IsOfInput member incarnation heard Q kind

  pub mine-own : (kind : EventKind) → Mine kind → IsOwn member.id.number kind
  mine-own (kinds.Watchdog (watchdogs.Armed by until answer)) is = ap (λ (b : Member). b.id.number) is.0
  mine-own (kinds.Watchdog (watchdogs.Fed by until basis)) is = ap (λ (b : Member). b.id.number) is.0
  mine-own (kinds.Watchdog (watchdogs.Disarmed by)) is = ap (λ (b : Member). b.id.number) is
  mine-own (kinds.Watchdog (watchdogs.Measured by from)) is = ap (λ (b : Member). b.id.number) is
  mine-own (kinds.Watchdog (watchdogs.Reset by)) is = absurd is
  mine-own (kinds.Watchdog (watchdogs.HoldTaken by until from r sequence)) is = ap (λ (b : Member). b.id.number) is.0
  mine-own kinds.Tick is = absurd is
  mine-own (kinds.Store happening) is = absurd is
  mine-own (kinds.Agent (agents.Passed by)) is = tt
  mine-own (kinds.Agent _) is = absurd is
  mine-own _ is = tt

  -- where its outputs take no hold but under number 0
  pub mine-taken :
      ((until : Ticks) (id : MemberId) (sequence : ℕ) → Q (outputs.Tell (tellings.HoldTaken until id sequence)) →
      sequence ≡ 0)
      → (clock : ℕ) (taken : List Taking) (kind : EventKind) → Mine kind → taken_after clock taken kind ≡ taken
  mine-taken none clock taken (kinds.Watchdog (watchdogs.HoldTaken by until from r sequence)) is =
      subst (λ (n : ℕ). taken_after clock taken (kinds.Watchdog (watchdogs.HoldTaken by until from r n)) ≡ taken)
      (sym (none until is.1.id sequence is.1.by)) refl
  mine-taken none clock taken _ is = refl

  sent-from : (message : Message) → IsMessageOf member incarnation Q message → IsMemberEnd message.from
  sent-from message (Asks question) = subst (λ (x : Message). IsMemberEnd x.from) (sym question.is) tt
  sent-from message (AsksPeer peer id sequence body asks is from) =
      subst (λ (x : Message). IsMemberEnd x.from) (sym is) tt
  sent-from message (AnswersPeer peer id asked sequence answer is from) =
      subst (λ (x : Message). IsMemberEnd x.from) (sym is) tt
  sent-from message (AnswersRequest peer id asked sequence accepted at is from) =
      subst (λ (x : Message). IsMemberEnd x.from) (sym is) tt

  pub mine-from : (kind : EventKind) → Mine kind → IsFromMembers kind
  mine-from (kinds.Message (Sent number message)) is = sent-from message is
  mine-from (kinds.Message (Delivered number)) is = absurd is
  mine-from (kinds.Store happening) is = absurd is
  mine-from _ is = tt

  pub mine-hands_off : (kind : EventKind) → Mine kind → IsHandsOffKind kind
  mine-hands_off (kinds.Store happening) is = absurd is
  mine-hands_off (kinds.Server (servers.Promoted server)) is = absurd is
  mine-hands_off _ is = tt

  pub mine-spanned : (kind : EventKind) → Mine kind → IsSpanned kind
  mine-spanned (kinds.Store happening) is = absurd is
  mine-spanned _ is = tt

  pub mine-members : (count : ℕ) → member.id.number < count → (kind : EventKind) → Mine kind
      → IsWithinMembers count kind
  mine-members count small (kinds.Watchdog (watchdogs.Armed by until answer)) is =
      subst (λ (b : Member). b.id.number < count) (sym is.0) small
  mine-members count small (kinds.Watchdog (watchdogs.Fed by until basis)) is =
      subst (λ (b : Member). b.id.number < count) (sym is.0) small
  mine-members count small (kinds.Watchdog (watchdogs.HoldTaken by until from r sequence)) is =
      subst (λ (b : Member). b.id.number < count) (sym is.0) small
  mine-members count small (kinds.Server (servers.Began server timeline)) is =
      subst (λ (s : ServerOf). s.id.number < count) (sym is.0) small
  mine-members count small (kinds.Agent (agents.Started agent r)) is = absurd is
  mine-members count small _ is = tt

  -- what is flying of a question
  flying-by : (P : Flying → Type 0) (clock sequence : ℕ) (body : Body)
      → ((query : Query) → query_in body ≡ Some query → P (Requested (record {
        member = member.id.number;
        incarnation = incarnation;
        sequence = sequence;
        sent = clock;
        query = query;
      })))
      → (flying : Flying)
      → flying_from clock (agent_message member ends.Store incarnation sequence body) ≡ Some flying → P flying
  flying-by P clock sequence bodies.Read is flying e = subst P (some-is _ flying e) (is Read refl)
  flying-by P clock sequence (bodies.Request txn) is flying e = subst P (some-is _ flying e) (is (query_of txn) refl)
  flying-by P clock sequence _ is flying e = absurd (no-flying flying e)
    where
      no-flying : (flying : Flying) → ◌≡◌ {A = Option Flying} None (Some flying) → ⊥
      no-flying flying e = cc

  -- the law reads nothing that members ask and answer one another
  unread : (P : Flying → Type 0) (clock : ℕ) (message read : Message) → message ≡ read
      → flying_from clock read ≡ None → (flying : Flying) → flying_from clock message ≡ Some flying → P flying
  unread P clock message read is none flying e =
      absurd (none-flies flying (sym (ap (λ (x : Message). flying_from clock x) is ∙ none) ∙ e))
    where
      none-flies : (flying : Flying) → ◌≡◌ {A = Option Flying} None (Some flying) → ⊥
      none-flies flying e = cc

  -- a question that is asked of another member, of which the law reads a failsafe request alone
  asks-flies : (P : Flying → Type 0) (clock : ℕ) (peer : Member) (id : MemberId) (sequence : ℕ) (body : Body)
      → IsAsk body → MaySend member incarnation Q P clock
      → Q (outputs.Message (outgoing.Send (targets.Member id) sequence body))
      → (flying : Flying)
      → flying_from clock (agent_message member (ends.Member peer) incarnation sequence body) ≡ Some flying → P flying
  asks-flies P clock peer id sequence bodies.Ask asks may from flying e =
      unread P clock _ (agent_message member (ends.Member peer) incarnation sequence bodies.Ask) refl refl flying e
  asks-flies P clock peer id sequence (bodies.FailsafeRequest ttl) asks may from flying e =
      subst P (some-is _ flying e) (may.asks id sequence ttl from)
  asks-flies P clock peer id sequence _ asks may from flying e = absurd asks

  -- an answer to a failsafe request of another one, of which the law reads an acknowledgement alone
  says-flies : (P : Flying → Type 0) (clock : ℕ) (peer : Member) (id : MemberId) (asked sequence : ℕ) (accepted : Bool)
      → peer.id.number ≡ id.number → MaySend member incarnation Q P clock
      → Q (outputs.Message (outgoing.FailsafeAnswer id asked sequence accepted))
      → (flying : Flying)
      → flying_from clock (agent_message member (ends.Member peer) asked sequence (bodies.FailsafeAnswer accepted))
      ≡ Some flying
      → P flying
  says-flies P clock peer id asked sequence true at may from flying e =
      subst P (ap (λ (n : ℕ). Acknowledged (record {
        member = n;
        incarnation = asked;
        sequence = sequence;
        by = member.id.number;
      })) (sym at) ∙ some-is _ flying e) (may.says id asked sequence from)
  says-flies P clock peer id asked sequence false at may from flying e = unread P clock _
      (agent_message member (ends.Member peer) asked sequence (bodies.FailsafeAnswer false)) refl refl flying e

  sent-flies : (P : Flying → Type 0) (clock : ℕ) → MaySend member incarnation Q P clock → (message : Message)
      → IsMessageOf member incarnation Q message → (flying : Flying) → flying_from clock message ≡ Some flying
      → P flying
  sent-flies P clock may message (Asks is) flying e =
      flying-by P clock is.sequence is.body (λ query here. may.store is.sequence is.body query is.from here) flying
      (ap (λ (x : Message). flying_from clock x) (sym is.is) ∙ e)
  sent-flies P clock may message (AsksPeer peer id sequence body asks is from) flying e = asks-flies P clock
      peer id sequence body asks may from flying (ap (λ (x : Message). flying_from clock x) (sym is) ∙ e)
  sent-flies P clock may message (AnswersPeer peer id asked sequence answer is from) flying e = unread P clock message
      (agent_message member (ends.Member peer) asked sequence (bodies.Answer answer)) is refl flying e
  sent-flies P clock may message (AnswersRequest peer id asked sequence accepted at is from) flying e = says-flies P
      clock peer id asked sequence accepted at may from flying (ap (λ (x : Message). flying_from clock x) (sym is) ∙ e)

  pub mine-sends : (P : Flying → Type 0) (clock : ℕ) → MaySend member incarnation Q P clock
      → (kind : EventKind) → Mine kind → SendsOnly P clock kind
  mine-sends P clock may (kinds.Message (Sent number message)) is = (
    sent-from message is,
    λ flying e. sent-flies P clock may message is flying e,
  )
  mine-sends P clock may (kinds.Message (Delivered number)) is = absurd is
  mine-sends P clock may kinds.Tick is = absurd is
  mine-sends P clock may _ is = tt

-- ---- the questions that events ask
reads-now : (p q : Past) (from to : LinkEnd) (incarnation sequence : ℕ) (body : Body) → IsMemberEnd from
    → p.clock ≡ q.clock → flying_of p from to incarnation sequence body ≡ flying_of q from to incarnation sequence body
reads-now p q (ends.Member by) to incarnation sequence body is same =
    flying-same p q (ends.Member by) to incarnation sequence body same tt
reads-now p q ends.Store to incarnation sequence body is same = absurd is

asked-one : (P : Flying → Type 0) (past : Past) (kind : EventKind) → SendsOnly P past.clock kind
    → (i : ℕ) (q : Question) → (past_after past kind).asked i ≡ Some q → (past.asked i ≡ Some q) ⊎ P (Requested q)
asked-one P past (kinds.Message (Sent number message)) is i q e =
    let one : Option Flying =
    flying_of past message.from message.to message.incarnation message.sequence message.body in
    elim (cases_eq i number) [
      | inl here ↦
          elim (asked-new past.asked number one q
          (ap (λ (n : ℕ). (past_after past (kinds.Message (Sent number message))).asked n) (sym here) ∙ e)) [
            | inl new ↦ inr (is.1 (Requested q) (reads-now (record first_past {
              clock = past.clock;
            }) past message.from message.to message.incarnation message.sequence message.body is.0 refl ∙ new))
            | inr old ↦ inl (ap past.asked here ∙ old)
          ]
      | inr other ↦ inl (sym (asked-there past.asked number one i other) ∙ e)
    ]
asked-one P past (kinds.Message (Delivered number)) is i q e = inl e
asked-one P past (kinds.Message (Lost number)) is i q e = inl e
asked-one P past _ is i q e = inl e

still-now : (P : Flying → Type 0) (clock : ℕ) (past : Past) (kind : EventKind) → SendsOnly P clock kind
    → (past_after past kind).clock ≡ past.clock
still-now P clock past kinds.Tick is = absurd is
still-now P clock past _ is = refl

pub asked-over : (P : Flying → Type 0) (clock : ℕ) (past : Past) (events : List Event) → past.clock ≡ clock
    → AllAre (SendsOnly P clock) events
    → (i : ℕ) (q : Question) → (past_over past events).asked i ≡ Some q → (past.asked i ≡ Some q) ⊎ P (Requested q)
asked-over P clock past [] now all i q e = inl e
asked-over P clock past (event ∷ events) now all i q e =
    elim (asked-over P clock (past_after past event.kind) events
    (still-now P clock past event.kind all.0 ∙ now) all.1 i q e) [
      | inl was ↦ asked-one P past event.kind (subst (λ (n : ℕ). SendsOnly P n event.kind) (sym now) all.0) i q was
      | inr new ↦ inr new
    ]
