-- What agents in synchronous mode wait for, behind an input of one of them.
use Rattle.std.proofs.Common.{ℕ, ◌≡◌, ◌≢◌, ◌⊎◌, ◌≤◌, ◌<◌, ◌==◌, Bool, true, false, cond, List, [], ◌∷◌, Option, Some, All, Contains, slice_get, option_map, refl, ◌∙◌, ap, sym, subst, arith, inl, inr}
use Rattle.std.proofs.lemmas.List.Elements.{All-contains}
use Rattle.pat_base.specs.declared.member_set.MemberSet.{MemberSet}
use Rattle.pat_base.specs.declared.ticks.Ticks.{Ticks}
use Rattle.pat_base.specs.Changes.{with_changed}
use Rattle.store_keys.specs.declared.txn.Txn.{Txn}
use Rattle.store_keys.specs.declared.txn.Txn.TheVariants as txns
use Rattle.store_keys.specs.declared.txn.SyncTxn.TheVariants as sync_txns
use Rattle.event_book.specs.declared.event.AgentEvent.TheVariants as agents
use Rattle.event_book.specs.declared.event.Event.{Event}
use Rattle.event_book.specs.declared.event.EventKind.{EventKind}
use Rattle.event_book.specs.declared.event.EventKind.TheVariants as kinds
use Rattle.event_book.specs.declared.event.MessageEvent.TheVariants.{Sent, Delivered, Lost}
use Rattle.event_book.specs.declared.link.LinkEnd.TheVariants as ends
use Rattle.event_book.specs.declared.member.Member.{Member}
use Rattle.event_book.specs.declared.message.Body.{Body}
use Rattle.event_book.specs.declared.message.Body.TheVariants as bodies
use Rattle.event_book.specs.declared.message.Message.{Message}
use Rattle.event_book.specs.Facts.{Facts}
use Rattle.event_book.specs.Flight.{sent_after}
use Rattle.event_book.specs.Functions.{put_at, set_members}
use Rattle.script_model.specs.Script.{HeadText}
use Rattle.agent_model.specs.declared.heard.Heard.{Heard}
use Rattle.agent_model.specs.declared.knowledge.Question.{Question}
use Rattle.agent_model.specs.declared.knowledge.Question.TheVariants.{Claiming, Syncing}
use Rattle.agent_model.specs.declared.knowledge.Settling.TheVariants.{KeepsList, NamesStandbys, ClearsList}
use Rattle.agent_model.specs.declared.knowledge.PendingQuestion.{PendingQuestion}
use Rattle.agent_model.specs.declared.machine.Machine.{Machine}
use Rattle.agent_model.specs.declared.output.Output.{Output}
use Rattle.agent_model.specs.declared.output.Output.TheVariants as outputs
use Rattle.agent_model.specs.declared.output.Outgoing.TheVariants as outgoing
use Rattle.agent_model.specs.declared.output.Target.TheVariants as targets
use Rattle.agent_model.specs.Agents.{AgentFacts, Outcome, outcome_from}
use Rattle.agent_commit_law.specs.Committing.{AsksInSynchronousMode, FollowsSynchronousMode}
use Rattle.agent_sending.specs.Modes.{AsksMode}
use Rattle.agent_model.specs.Decisions.{asks_sync}
use Rattle.agent_model.specs.Table.{step}
use Rattle.cluster_model.specs.declared.heard_message.HeardMessage.{HeardMessage}
use Rattle.cluster_model.specs.Cluster.{agent_after, agent_facts_after, cluster_after, cluster_over}
use Rattle.cluster_model.specs.Inputs.{moment_of}
use Rattle.cluster_model.specs.Machines.{points_of}
use Rattle.cluster_model.specs.Messages.{output_events}
use Rattle.cluster_model.specs.Parts.{each}
use Rattle.cluster_model.specs.State.{Cluster}
use Rattle.lease_model.specs.Leases.{Flying, Read, Requested, Question as Asked}
use Rattle.lease_model.specs.Past as lease_past
use Rattle.event_book.specs.Kinds.{AllAre}
use Rattle.lease_model.proofs.Tools.{eq-from, ne-from, none-some, put-here, put-there, some-is}
use Rattle.std.proofs.lemmas.Bool.{cases_eq}
use Rattle.lease_book.specs.Flights as bridge_flights
use Rattle.lease_book.specs.Groups.{AreNumberedAbove, IsNumberedAbove}
use Rattle.lease_book.proofs.Flights.{asked-new, asked-there, none-requested, requested-is}
use Rattle.commit_actions.specs.Flights.{SyncRequest}
use Rattle.commit_actions.specs.Past.{Past, Query, SyncQuery, claim_request, past_after, past_over, publish_request, query_sent}
use Rattle.run_promise.specs.Members.{member_count}
use Rattle.lease_hearing.specs.Hearing.{IsHeardWell}
use Rattle.lease_inputs.specs.InputEvents.{IsMessageOf, Asks, AsksPeer, AnswersPeer, AnswersRequest, IsOfInput}
use Rattle.agent_questions.specs.Questions.{AsksAnew, AsksFor, IsPutBy, IsPutByBody, SendsBetween, WaitsOn, Same, Nothing, New}
use Rattle.lease_parts.specs.Declaring.{declared_of}
use Rattle.lease_parts.specs.Waiting.{IsAgentSound}
use Rattle.lease_inputs.proofs.InputKept.{agents-are, anew, mine, numbers, small}
use Rattle.lease_inputs.proofs.InputKinds.{IsOpening}
use Rattle.lease_inputs.proofs.InputSeen.{IsFound}
use Rattle.lease_inputs.proofs.InputStays.{clock-one}
use Rattle.lease_inputs.proofs.InputWaiting.{IsNew, new-number, the-after}
use Rattle.cluster_model.proofs.Places.{get-changed}
use Rattle.commit_parts.specs.Agents.{AreAgentsSynchronous, IsAgentSynchronous, IsWriteAsked, IsWriteOf}
use Rattle.commit_parts.specs.Bridged.{CommitsBridged}
use Rattle.commit_parts.specs.Reading.{past_of}

-- a question that an input of this member asks in this incarnation, and what commits read of it
pub record IsNewlyAsked (member : Member) (incarnation clock : ℕ) (outs : List Output) (q : Asked)
    (query : Query) : Type 0 where
  pub new : IsNew member.id.number incarnation clock outs q
  pub asks : query ≡ query_sent (ends.Member member) incarnation new.sequence new.body

-- a question was asked before, and commits read of it what they did; or the input asks it
abbrev pub OldOrNew : Member → ℕ → ℕ → List Output → (ℕ → Option Asked) → (ℕ → Query) → ℕ → Asked → Query → Type 0
OldOrNew member incarnation clock outs named asked i q query =
    ((named i ≡ Some q) × (query ≡ asked i)) ⊎ IsNewlyAsked member incarnation clock outs q query

-- ---- what is put to the key store
-- commits read a write of the sync key, with the standbys that the question asks for
abbrev IsPut : Member → ℕ → ℕ → Question → Body → Type 0
IsPut member incarnation sequence question body = (request : SyncRequest)
    × (query_sent (ends.Member member) incarnation sequence body ≡ SyncQuery request) × IsWriteOf question request

put-by : (member : Member) (incarnation sequence : ℕ) (on : Bool) (question : Question) (txn : Txn)
    → IsPutBy question txn → FollowsSynchronousMode on question
    → IsPut member incarnation sequence question (bodies.Request txn)
put-by member incarnation sequence on Claiming (txns.Sync (sync_txns.Claim revision sync)) puts follows = (
  claim_request member.id.number incarnation sequence revision sync,
  refl,
  record { writes = refl; standbys = λ r n. refl },
)
put-by member incarnation sequence on (Syncing KeepsList)
    (txns.Sync (sync_txns.SetSync revision sync standbys may_lack)) puts
    follows = (
      publish_request member.id.number incarnation sequence revision sync standbys may_lack,
      refl,
      record { writes = refl; standbys = λ r. tt },
    )
put-by member incarnation sequence on (Syncing (NamesStandbys set))
    (txns.Sync (sync_txns.SetSync revision sync standbys may_lack)) puts
    follows = (
      publish_request member.id.number incarnation sequence revision sync standbys may_lack,
      refl,
      record { writes = refl; standbys = λ r n. ap (λ (names : MemberSet). set_members names n) puts },
    )
put-by member incarnation sequence on (Syncing ClearsList) txn puts follows = absurd follows
put-by member incarnation sequence on _ _ puts follows = absurd puts

put-body : (member : Member) (incarnation sequence : ℕ) (on : Bool) (question : Question) (body : Body)
    → IsPutByBody question body → FollowsSynchronousMode on question → IsPut member incarnation sequence question body
put-body member incarnation sequence on question (bodies.Request txn) puts follows =
    put-by member incarnation sequence on question txn puts follows
put-body member incarnation sequence on question _ puts follows = absurd puts

-- ---- the agent whose input it is
module _ (member : Member) (clock : ℕ) (now : Ticks) (agent : AgentFacts) (outcome : Outcome)
    (named later : ℕ → Option Asked) (asked after : ℕ → Query)
    (questions : (i : ℕ) (q : Asked) → later i ≡ Some q →
    OldOrNew member agent.knows.incarnation clock outcome.outputs named asked i q (after i))
    (anew : AsksAnew now agent.knows outcome.knows outcome.outputs)
    (sound : IsAgentSound named member.id.number agent) where
  abbrev M : ℕ
  M = member.id.number

  -- numbers of questions that the input asks are new
  number-high : (q : Asked) → IsNew M agent.knows.incarnation clock outcome.outputs q
      → agent.knows.sequence < q.sequence
  number-high q new = (new-number M clock now agent.knows outcome.knows outcome.outputs named later q new anew.sends).0

  -- it waits on for a write that was asked before
  same-write : (waited : PendingQuestion) → agent.knows.waited ≡ Some waited
      → IsWriteAsked named asked M agent.knows.incarnation waited
      → IsWriteAsked later after M outcome.knows.incarnation waited
  same-write waited is old i q e by incarnation sequence = elim (questions i q e) [
    | inl was ↦ let before = old i q was.0 by (incarnation ∙ anew.incarnation) sequence in
        (before.0, was.1 ∙ before.1, before.2)
    | inr new ↦ absurd (omega (arith, number-high q new.new, sequence, (sound.waits waited is).counted))
  ]

  -- it waits for a write that it asks
  new-write : AsksInSynchronousMode outcome.knows → (waited : PendingQuestion) → outcome.knows.waited ≡ Some waited
      → agent.knows.sequence < waited.sequence → All (AsksFor waited) outcome.outputs → asks_sync waited.question ≡ true
      → IsWriteAsked later after M outcome.knows.incarnation waited
  new-write on waited is above asks writes i q e by incarnation sequence = elim (questions i q e) [
    | inl was ↦ absurd (omega (arith, sound.last i q was.0 by (incarnation ∙ anew.incarnation), sequence, above))
    | inr new ↦
        let says = All-contains (AsksFor waited) outcome.outputs
        (outputs.Message (outgoing.Send targets.Store new.new.sequence new.new.body)) asks new.new.among
        (sym (ap (λ (x : Asked). x.sequence) new.new.is) ∙ sequence) in
        let put = put-body member agent.knows.incarnation new.new.sequence outcome.knows.turn_settings.synchronous_mode
        waited.question new.new.body (says.write writes) (on waited is) in
        (put.0, new.asks ∙ put.1, put.2)
  ]

  writes-by : AsksInSynchronousMode outcome.knows → IsAgentSynchronous named asked M agent
      → WaitsOn now agent.knows outcome.knows outcome.outputs
      → (waited : PendingQuestion) → outcome.knows.waited ≡ Some waited → asks_sync waited.question ≡ true
      → IsWriteAsked later after M outcome.knows.incarnation waited
  writes-by on old (Same is) waited e writes = same-write waited (sym is ∙ e) (old.writes waited (sym is ∙ e) writes)
  writes-by on old (Nothing is) waited e writes = absurd (none-some waited (sym is ∙ e))
  writes-by on old (New one is above counted sent span asks) waited e writes =
      let same : one ≡ waited = some-is one waited (sym is ∙ e) in
      new-write on waited e (subst (λ (w : PendingQuestion). agent.knows.sequence < w.sequence) same above)
      (subst (λ (w : PendingQuestion). All (AsksFor w) outcome.outputs) same asks) writes

  agent-synchronous : AsksInSynchronousMode outcome.knows → IsAgentSynchronous named asked M agent
      → IsAgentSynchronous later after M (record { role = outcome.role; knows = outcome.knows })
  agent-synchronous on old = record { on = on; writes = writes-by on old anew.waits }

  -- an agent of another member waits as it did
  other-synchronous : (n : ℕ) (other : AgentFacts) → n ≢ M → IsAgentSynchronous named asked n other
      → IsAgentSynchronous later after n other
  other-synchronous n other apart old = record {
    on = old.on;
    writes = λ waited is writes i q e by incarnation sequence. elim (questions i q e) [
      | inl was ↦ let before = old.writes waited is writes i q was.0 by incarnation sequence in
          (before.0, was.1 ∙ before.1, before.2)
      | inr new ↦ absurd (apart (sym by ∙ ap (λ (x : Asked). x.member) new.new.is))
    ];
  }

-- behind an input of an agent that leaves synchronous mode on
pub agents-synchronous : (count : ℕ) (member : Member) (clock : ℕ) (now : Ticks) (agent : AgentFacts)
    (outcome : Outcome) (named later : ℕ → Option Asked) (asked after : ℕ → Query) (known : List (Option AgentFacts))
    → slice_get known member.id.number ≡ Some (Some agent) → member.id.number < count
    → ((i : ℕ) (q : Asked) → later i ≡ Some q →
    OldOrNew member agent.knows.incarnation clock outcome.outputs named asked i q (after i))
    → AsksAnew now agent.knows outcome.knows outcome.outputs → IsAgentSound named member.id.number agent
    → AsksInSynchronousMode outcome.knows
    → AreAgentsSynchronous count named asked known
    → AreAgentsSynchronous count later after (with_changed known member.id.number (agent_after (Some outcome)))
agents-synchronous count member clock now agent outcome named later asked after known here small questions anew sound on
    old =
    record {
      each = λ n one is. by n one (n == member.id.number) refl
          (sym (get-changed known member.id.number n (agent_after (Some outcome))) ∙ is);
      members = λ i q e. elim (questions i q e) [
        | inl was ↦ old.members i q was.0
        | inr new ↦ subst (λ (n : ℕ). n < count) (sym (ap (λ (x : Asked). x.member) new.new.is)) small
      ];
    }
  where
    by : (n : ℕ) (one : AgentFacts) (same : Bool) → (n == member.id.number) ≡ same
        → cond same (option_map (agent_after (Some outcome)) (slice_get known n)) (slice_get known n) ≡ Some (Some one)
        → IsAgentSynchronous later after n one
    by n one true same e =
        subst (λ (a : AgentFacts). IsAgentSynchronous later after n a) (the-after (slice_get known n) outcome one e)
        (subst (λ (k : ℕ). IsAgentSynchronous later after k (record { role = outcome.role; knows = outcome.knows }))
        (sym (eq-from n member.id.number same))
        (agent-synchronous member clock now agent outcome named later asked after questions anew sound on
        (old.each member.id.number agent here)))
    by n one false same e = other-synchronous member clock now agent outcome named later asked after questions
        anew sound n one (ne-from n member.id.number same) (old.each n one e)

-- ---- what the events of an input ask
-- what members say to one another is no question to the key store
unasked-peer : (named : lease_past.Past) (by m incarnation sequence : ℕ) (body : Body) (q : Asked)
    → lease_past.peer_in_flight_of named by m incarnation sequence body ≡ Some (Requested q) → ⊥
unasked-peer named by m incarnation sequence (bodies.FailsafeRequest ttl) q e = cc
unasked-peer named by m incarnation sequence (bodies.FailsafeAnswer true) q e = cc
unasked-peer named by m incarnation sequence (bodies.FailsafeAnswer false) q e = none-requested q e
unasked-peer named by m incarnation sequence _ q e = none-requested q e

module _ (member : Member) (incarnation heard : ℕ) (outs : List Output) (Q : Output → Type 0)
    (within : (sequence : ℕ) (body : Body) → Q (outputs.Message (outgoing.Send targets.Store sequence body)) →
    Contains outs (outputs.Message (outgoing.Send targets.Store sequence body))) where
  abbrev Mine : EventKind → Type 0
  Mine kind = IsOfInput member incarnation heard Q kind

  abbrev AreLow : (ℕ → Option Asked) → ℕ → Type 0
  AreLow named last = (i : ℕ) (q : Asked) → named i ≡ Some q → i ≤ last

  question-new : (named : lease_past.Past) (sequence : ℕ) (body : Body) (q : Asked) (query : Query)
      → Contains outs (outputs.Message (outgoing.Send targets.Store sequence body))
      → query ≡ query_sent (ends.Member member) incarnation sequence body
      → lease_past.question_in_flight_of named member.id.number incarnation sequence body ≡ Some (Requested q)
      → IsNewlyAsked member incarnation named.clock outs q query
  question-new named sequence bodies.Read q query among asks e = record {
    new = record {
      sequence = sequence;
      body = bodies.Read;
      query = Read;
      among = among;
      query_is = refl;
      is = sym (requested-is _ q e);
    };
    asks = asks;
  }
  question-new named sequence (bodies.Request txn) q query among asks e = record {
    new = record {
      sequence = sequence;
      body = bodies.Request txn;
      query = lease_past.query_of txn;
      among = among;
      query_is = refl;
      is = sym (requested-is _ q e);
    };
    asks = asks;
  }
  question-new named sequence _ q query among asks e = absurd (none-requested q e)

  message-new : (named : lease_past.Past) (message : Message) (q : Asked) (query : Query)
      → IsMessageOf member incarnation Q message
      → query ≡ query_sent message.from message.incarnation message.sequence message.body
      → lease_past.flying_of named message.from message.to message.incarnation message.sequence message.body
      ≡ Some (Requested q)
      → IsNewlyAsked member incarnation named.clock outs q query
  message-new named message q query (Asks is) asks e =
      question-new named is.sequence is.body q query (within is.sequence is.body is.from)
      (asks ∙ ap (λ (x : Message). query_sent x.from x.incarnation x.sequence x.body) is.is)
      (ap (λ (x : Message). lease_past.flying_of named x.from x.to x.incarnation x.sequence x.body) (sym is.is) ∙ e)
  message-new named message q query (AsksPeer peer id sequence body puts is from) asks e =
      absurd (unasked-peer named member.id.number peer.id.number incarnation sequence body q
      (ap (λ (x : Message). lease_past.flying_of named x.from x.to x.incarnation x.sequence x.body) (sym is) ∙ e))
  message-new named message q query (AnswersPeer peer id sender sequence answer is from) asks e =
      absurd (none-requested q
      (ap (λ (x : Message). lease_past.flying_of named x.from x.to x.incarnation x.sequence x.body) (sym is) ∙ e))
  message-new named message q query (AnswersRequest peer id sender sequence accepted at is from) asks e =
      absurd (unasked-peer named member.id.number peer.id.number sender sequence (bodies.FailsafeAnswer accepted) q
      (ap (λ (x : Message). lease_past.flying_of named x.from x.to x.incarnation x.sequence x.body) (sym is) ∙ e))

  asked-one : (named : lease_past.Past) (past : Past) (kind : EventKind) (last : ℕ) → Mine kind
      → IsNumberedAbove last kind → AreLow named.asked last
      → (i : ℕ) (q : Asked) → (lease_past.past_after named kind).asked i ≡ Some q
      → OldOrNew member incarnation named.clock outs named.asked past.asked i q ((past_after past kind).asked i)
  asked-one named past (kinds.Message (Sent number message)) last is above low i q e =
      let flying : Option Flying =
      lease_past.flying_of named message.from message.to message.incarnation message.sequence message.body in
      let asks : Query = query_sent message.from message.incarnation message.sequence message.body in
      elim (cases_eq i number) [
        | inl here ↦
            elim (asked-new named.asked number flying q
            (ap (λ (n : ℕ). lease_past.asked_with named.asked number flying n) (sym here) ∙ e)) [
              | inl new ↦
                  inr (message-new named message q (put_at past.asked number asks i) is
                  (ap (λ (n : ℕ). put_at past.asked number asks n) here ∙ put-here past.asked number asks) new)
              | inr was ↦ absurd (omega (arith, above, low number q was))
            ]
        | inr other ↦
            inl (sym (asked-there named.asked number flying i other) ∙ e, put-there past.asked number asks i other)
      ]
  asked-one named past (kinds.Message (Delivered number)) last is above low i q e = absurd is
  asked-one named past (kinds.Message (Lost number)) last is above low i q e = inl (e, refl)
  asked-one named past _ last is above low i q e = inl (e, refl)

  -- numbers rise
  low-one : (named : lease_past.Past) (kind : EventKind) (last : ℕ) → Mine kind → IsNumberedAbove last kind
      → AreLow named.asked last → AreLow (lease_past.past_after named kind).asked (sent_after last kind)
  low-one named (kinds.Message (Sent number message)) last is above low i q e = elim (cases_eq i number) [
    | inl here ↦ omega (arith, here)
    | inr other ↦
        let small = low i q
        (sym (asked-there named.asked number
        (lease_past.flying_of named message.from message.to message.incarnation message.sequence message.body) i other)
        ∙ e) in
        omega (arith, small, above)
  ]
  low-one named (kinds.Message (Delivered number)) last is above low i q e = absurd is
  low-one named (kinds.Message (Lost number)) last is above low i q e = low i q e
  low-one named _ last is above low i q e = low i q e

  asked-rest : (named : lease_past.Past) (past : Past) (events : List Event) (clock last : ℕ)
      → named.clock ≡ clock → AllAre Mine events → AreNumberedAbove last events → AreLow named.asked last
      → (i : ℕ) (q : Asked) → (lease_past.past_over named events).asked i ≡ Some q
      → OldOrNew member incarnation clock outs named.asked past.asked i q ((past_over past events).asked i)
  asked-rest named past [] clock last at all above low i q e = inl (e, refl)
  asked-rest named past (event ∷ events) clock last at all above low i q e =
      elim (asked-rest (lease_past.past_after named event.kind) (past_after past event.kind) events clock
      (sent_after last event.kind)
      (clock-one member incarnation heard Q named.clock event.kind all.0 ∙ at) all.1 above.1
      (low-one named event.kind last all.0 above.0 low) i q e) [
        | inl kept ↦ elim (asked-one named past event.kind last all.0 above.0 low i q kept.0) [
          | inl was ↦ inl (was.0, kept.1 ∙ was.1)
          | inr new ↦
              inr (subst (λ (n : ℕ).
              IsNewlyAsked member incarnation n outs q ((past_over (past_after past event.kind) events).asked i)) at
              (record { new = new.new; asks = kept.1 ∙ new.asks }))
        ]
        | inr new ↦ inr new
      ]

  behind-opening : (named : lease_past.Past) (past : Past) (hn : Option ℕ) (kind : EventKind)
      (rest : List Event) (last : ℕ) → AreLow named.asked last → IsOpening hn kind → AllAre Mine rest
      → AreNumberedAbove (sent_after last kind) rest
      → (i : ℕ) (q : Asked) → (lease_past.past_over (lease_past.past_after named kind) rest).asked i ≡ Some q
      → OldOrNew member incarnation named.clock outs named.asked past.asked i q
      ((past_over (past_after past kind) rest).asked i)
  behind-opening named past hn (kinds.Agent (agents.Woken by)) rest last low opens all above =
      asked-rest (lease_past.past_after named (kinds.Agent (agents.Woken by)))
      (past_after past (kinds.Agent (agents.Woken by))) rest named.clock last refl all above low
  behind-opening named past hn (kinds.Agent (agents.Operated by action)) rest last low opens all above =
      asked-rest (lease_past.past_after named (kinds.Agent (agents.Operated by action)))
      (past_after past (kinds.Agent (agents.Operated by action))) rest named.clock last refl all above low
  behind-opening named past hn (kinds.Message (Delivered number)) rest last low opens all above =
      asked-rest (lease_past.past_after named (kinds.Message (Delivered number)))
      (past_after past (kinds.Message (Delivered number))) rest named.clock last refl all above low
  behind-opening named past hn _ rest last low opens all above = absurd opens

  -- what is asked behind an input was asked before, or the input asks it
  pub asked-behind : (named : lease_past.Past) (past : Past) (facts : Facts) (hn : Option ℕ) (opening : Event)
      (rest : List Event) → bridge_flights.IsSameFlight named facts → IsOpening hn opening.kind → AllAre Mine rest
      → AreNumberedAbove facts.sent (opening ∷ rest)
      → (i : ℕ) (q : Asked) → (lease_past.past_over named (opening ∷ rest)).asked i ≡ Some q
      → OldOrNew member incarnation named.clock outs named.asked past.asked i q
      ((past_over past (opening ∷ rest)).asked i)
  asked-behind named past facts hn opening rest same opens all above =
      behind-opening named past hn opening.kind rest facts.sent same.asked opens all above.1

-- ---- an input of an agent in a run
module _ (head : HeadText) (book : List Event) (cluster : Cluster) (good : CommitsBridged head book cluster)
    (member : Member) (agent : AgentFacts) (machine : Machine) (found : IsFound cluster member machine)
    (here : slice_get cluster.agents member.id.number ≡ Some (Some agent)) (heard : Heard) (hn : Option ℕ)
    (message : HeardMessage) (opening : EventKind) (opens : IsOpening hn opening)
    (numbered : (n : ℕ) → hn ≡ Some n → (message.number ≡ n) × (n ≤ cluster.facts.sent))
    (low : message.number ≤ cluster.facts.sent)
    (well : IsHeardWell (declared_of head).failsafe cluster.facts.members
    (lease_past.past_of book).flight member heard hn message) where
  abbrev After : Outcome
  After = step (moment_of cluster) (points_of cluster member) heard (outcome_from agent.role agent.knows machine [])

  abbrev First : Cluster
  First = cluster_after cluster opening

  abbrev Events : List Event
  Events = record { tick = record { 0 = First.facts.clock }; kind = opening }
      ∷ each (output_events member message) First After.outputs

  abbrev Named : lease_past.Past
  Named = lease_past.past_of book

  abbrev P : Past
  P = past_of head book

  -- it leaves all agents as synchronous mode has them
  pub agents-behind : agent_facts_after cluster opening
      ≡ with_changed cluster.agents member.id.number (agent_after (Some After))
      → AsksInSynchronousMode After.knows
      → AreAgentsSynchronous (member_count head) (lease_past.past_over Named Events).asked
      (past_over P Events).asked (cluster_over cluster Events).agents
  agents-behind acts on =
      let new = anew head book cluster good.lease member agent machine found here heard hn message opening
      opens numbered low well in
      let Q : Output → Type 0 = λ out. Contains After.outputs out
      × (SendsBetween agent.knows.sequence After.knows.sequence out × AsksMode (declared_of head).failsafe out) in
      subst (AreAgentsSynchronous (member_count head) (lease_past.past_over Named Events).asked
      (past_over P Events).asked)
      (sym (agents-are head book cluster good.lease member agent machine found here heard hn message opening
      opens numbered low well acts))
      (agents-synchronous (member_count head) member Named.clock (moment_of cluster) agent After Named.asked
      (lease_past.past_over Named Events).asked P.asked (past_over P Events).asked cluster.agents here
      (small head book cluster good.lease member agent machine found here heard hn message opening opens
      numbered low well)
      (asked-behind member agent.knows.incarnation message.number After.outputs Q (λ sequence body is. is.0)
      Named P cluster.facts hn (record { tick = record { 0 = First.facts.clock }; kind = opening })
      (each (output_events member message) First After.outputs) good.lease.matched.flight opens
      (mine head book cluster good.lease member agent machine found here heard hn message opening opens
      numbered low well)
      (numbers head book cluster good.lease member agent machine found here heard hn message opening opens
      numbered low well))
      new (good.lease.matched.waiting.agents member.id.number agent here) on good.fits.agents)
