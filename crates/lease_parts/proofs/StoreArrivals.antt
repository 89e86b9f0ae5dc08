-- A message that comes to the key store keeps the law: the store's decision and its answer are one action.
use Rattle.std.proofs.Common.{ℕ, ◌≡◌, ◌<◌, ◌+◌, ◌++◌, nat_le, Bool, true, false, List, [], length, slice_get, Option, Some, refl, ◌∙◌, ap, sym, subst, arith}
use Rattle.pat_base.specs.declared.ticks.Ticks.{Ticks}
use Rattle.store_keys.specs.declared.txn.Txn.{Txn}
use Rattle.lease_store.specs.Decision.{Decision, Grant, Refusal, decision_on}
use Rattle.store_keys.specs.TxnKinds.{txn_kind_of}
use Rattle.event_book.specs.declared.event.Event.{Event}
use Rattle.event_book.specs.declared.event.EventKind.TheVariants as kinds
use Rattle.event_book.specs.declared.event.MessageEvent.TheVariants.{Delivered, Lost}
use Rattle.event_book.specs.declared.link.LinkEnd.{LinkEnd}
use Rattle.event_book.specs.declared.link.LinkEnd.TheVariants as ends
use Rattle.event_book.specs.declared.member.Member.{Member}
use Rattle.event_book.specs.declared.message.Body.{Body}
use Rattle.event_book.specs.declared.message.Body.TheVariants as bodies
use Rattle.event_book.specs.declared.message.Message.{Message}
use Rattle.event_book.specs.Flight.{InFlightFacts, in_flight}
use Rattle.agent_model.specs.Agents.{AgentFacts}
use Rattle.script_model.specs.Script.{HeadText}
use Rattle.cluster_model.specs.Cluster.{agent_facts_reached, agent_facts_reached_at, cluster_after, cluster_over}
use Rattle.cluster_model.specs.Limits.{most_in_flight}
use Rattle.cluster_model.specs.Messages.{answer_events, arrival_events_at, decision_events, lost_at_once, published_names}
use Rattle.pat_base.specs.declared.name.Name.{Name}
use Rattle.cluster_model.specs.Parts.{event_of, events_of}
use Rattle.cluster_model.specs.State.{Cluster}
use Rattle.lease_model.specs.Actions.{Deliver}
use Rattle.lease_model.specs.Books.{IsShown}
use Rattle.lease_model.specs.Claims.{BeginsBehind, MayBeginBehind}
use Rattle.lease_model.specs.Leases.{Question}
use Rattle.lease_model.specs.Past.{Past, VolatileState, first_past, past_of, past_over, state_of}
use Rattle.event_book.specs.Premises.{AreHandsOff}
use Rattle.event_book.specs.Kinds.{AllAre}
use Rattle.lease_model.specs.Showing.{granted_events, read_events, refused_events}
use Rattle.lease_model.specs.Stores.{IsSpannedTxn}
use Rattle.lease_law.proofs.Showing.{past-append}
use Rattle.lease_book.specs.Flights.{AreCausal, IsSameBook}
use Rattle.lease_book.specs.Waiting.{IsLastRun}
use Rattle.lease_book.proofs.Delivering.{granted-delivery, read-delivery, refused-delivery}
use Rattle.lease_book.proofs.Groups.{granted-causal, read-causal, refused-causal}
use Rattle.lease_model.specs.Modes.{IsModeAsked, IsModeSet}
use Rattle.lease_parts.specs.Bridged.{Bridged, IsMatched, KnowThemselves}
use Rattle.lease_parts.specs.Declaring.{declared_of}
use Rattle.run_promise.specs.Members.{declared_members}
use Rattle.lease_parts.specs.Kept.{IsKept}
use Rattle.lease_parts.specs.Machines.{live_in, run_in}
use Rattle.lease_parts.specs.Volatile.{agent_now, volatile_of}
use Rattle.lease_parts.specs.Waiting.{AreAgentsSound, IsAddressed, IsKnownEnd}
use Rattle.lease_parts.proofs.Actions.{action-kept}
use Rattle.lease_parts.proofs.Composing.{kept-none, kept-then}
use Rattle.lease_parts.proofs.Ending.{kept-loss}
use Rattle.lease_parts.proofs.Fitting.{IsFitting, fits-of, fits-over, matched-from}
use Rattle.lease_parts.proofs.Promoting.{hands-off-back}

-- these events leave agents and servers, and ask nothing
pub record LeavesMembers (past : Past) (cluster : Cluster) (events : List Event) : Type 0 where
  pub agents : (cluster_over cluster events).agents ≡ cluster.agents
  pub servers : (cluster_over cluster events).facts.servers ≡ cluster.facts.servers
  pub processes : (cluster_over cluster events).facts.processes ≡ cluster.facts.processes
  pub asked : (past_over past events).asked ≡ past.asked

pub same-volatile : (before after : Cluster) → after.agents ≡ before.agents
    → after.facts.servers ≡ before.facts.servers → volatile_of after ≡ volatile_of before
same-volatile before after agents servers =
    ap (λ (xs : List (Option AgentFacts)). volatile_of (record {
      scope = after.scope;
      options = after.options;
      facts = after.facts;
      failsafe_deadlines = after.failsafe_deadlines;
      agents = xs;
    })) agents
    ∙ ap (λ ss. λ (m : ℕ). let state : VolatileState =
    record { live = live_in ss m; agent = agent_now (slice_get before.agents m) } in state)
    servers

-- what agents know is the same
pub matched-after : (head : HeadText) (past : Past) (cluster : Cluster) (events : List Event)
    → AreCausal past cluster.facts events → AllAre (IsFitting head) events
    → LeavesMembers past cluster events → IsMatched head past cluster
    → IsMatched head (past_over past events) (cluster_over cluster events)
matched-after head past cluster events causal all leaves old =
    let later : Cluster = cluster_over cluster events in
    matched-from head (past_over past events) later
    (fits-over head past cluster events causal all (fits-of head past cluster old))
    (ap (λ xs. length xs) leaves.agents ∙ old.agents_sized)
    (subst (λ processes. KnowThemselves (declared_of head).failsafe processes later.agents) (sym leaves.processes)
    (subst (λ agents. KnowThemselves (declared_of head).failsafe cluster.facts.processes agents)
    (sym leaves.agents) old.agents))
    (λ m. subst (λ (asked : ℕ → Option Question). IsLastRun asked m (run_in later.facts.processes m)) (sym leaves.asked)
    (subst (λ processes. IsLastRun past.asked m (run_in processes m)) (sym leaves.processes) (old.waiting.runs m)))
    (subst (λ (asked : ℕ → Option Question). AreAgentsSound asked later.agents) (sym leaves.asked)
    (subst (λ agents. AreAgentsSound past.asked agents) (sym leaves.agents) old.waiting.agents))

-- one delivery to the key store
delivery-kept : (head : HeadText) (book : List Event) (cluster : Cluster) (events : List Event)
    (number answer : ℕ) (granted : Bool) → Bridged head book cluster
    → ((P : List Event → ℕ → Type 0) → BeginsBehind P [] events) → LeavesMembers (past_of book) cluster events
    → AreCausal (past_of book) cluster.facts events
    → (AreHandsOff events → AllAre (IsFitting head) events)
    → IsShown (declared_of head) book (volatile_of cluster)
    (record { action = Deliver number answer granted; events = events; volatile_states = volatile_of cluster })
    → IsKept head book cluster events
delivery-kept head book cluster events number answer granted good begins leaves causal fitting shown =
    let later : Cluster = cluster_over cluster events in
    action-kept head book cluster events (Deliver number answer granted) good
    (begins (MayBeginBehind (state_of (declared_of head) (past_of book) (volatile_of cluster))
    (Deliver number answer granted)))
    (λ meets. record {
      lawful = tt;
      shows = tt;
      shown =
          subst (λ (v : ℕ → VolatileState). IsShown (declared_of head) book (volatile_of cluster)
          (record { action = Deliver number answer granted; events = events; volatile_states = v }))
          (sym (same-volatile cluster later leaves.agents leaves.servers)) shown;
      matched = subst (λ (past : Past). IsMatched head past later) (sym (past-append first_past book events))
          (matched-after head (past_of book) cluster events causal
          (fitting (hands-off-back book events meets.hands_off.events)) leaves good.matched);
    })

-- a message that is sent beyond the most in flight is lost at once
lost-kept : (head : HeadText) (book : List Event) (cluster : Cluster) (test : Bool) (number : ℕ)
    → Bridged head book cluster → IsKept head book cluster (events_of cluster (lost_at_once test number))
lost-kept head book cluster true number good =
    kept-then head book cluster (event_of cluster (kinds.Message (Lost number))) []
    (kept-loss head book cluster number good) (λ later. kept-none head _ _ later)
lost-kept head book cluster false number good = kept-none head book cluster good

more-sent : (sent : ℕ) → sent < sent + 1
more-sent sent = omega arith

module _ (head : HeadText) (book : List Event) (cluster : Cluster) (number : ℕ) (message : InFlightFacts)
    (good : Bridged head book cluster)
    (found : in_flight cluster.facts.flight number ≡ Some message) (by : Member) (incarnation sequence : ℕ) where
  abbrev Later : Cluster
  Later = cluster_after cluster (kinds.Message (Delivered number))

  abbrev Moment : Ticks
  Moment = record { 0 = cluster.facts.clock }

  abbrev Asks : Body → Type 0
  Asks body = message.message
      ≡ record { from = ends.Member by; to = ends.Store; incarnation = incarnation; sequence = sequence; body = body }

  same-book : IsSameBook (past_of book) cluster.facts
  same-book = record { store = good.matched.store; flight = good.matched.flight }

  abbrev Mode : Bool
  Mode = (declared_of head).failsafe

  -- an event that neither sends nor is granted
  plain : Unit {0} × (Unit {0} × (Unit {0} × Unit {0}))
  plain = (tt, (tt, (tt, tt)))

  no-question : true ≡ false → ⊥
  no-question e = cc

  -- an answer is no question
  answers : (body : Body) → Asks body
      → Unit {0}
      × (Unit {0} ×
      ((Unit {0} ×
      ((true ≡ false → 0 < sequence) × (Unit {0} × (Unit {0} × IsKnownEnd (declared_members head) (ends.Member by))))) ×
      Unit {0}))
  answers body is = (
    tt,
    (
      tt,
      (
        (
          tt,
          (
            λ e. absurd (no-question e),
            (
              tt,
              (
                tt,
                subst (λ (members : List Member). IsKnownEnd members (ends.Member by)) good.matched.members
                    (subst (λ (m : Message). IsKnownEnd cluster.facts.members m.from) is
                    (good.matched.failsafe.between number message found).0),
              ),
            ),
          ),
        ),
        tt,
      ),
    ),
  )

  -- what is asked doesn't change the mode
  asks-mode : (txn : Txn) → Asks (bodies.Request txn) → IsModeSet Mode txn
  asks-mode txn is =
      subst (λ (m : Message). IsModeAsked Mode m.body) is (good.matched.failsafe.asked number message found)

  reached : (body : Body) → Asks body
      → agent_facts_reached cluster (in_flight cluster.facts.flight number) ≡ cluster.agents
  reached body is =
      ap (agent_facts_reached cluster) found ∙ ap (λ (m : Message). agent_facts_reached_at cluster message m.to) is

  read-kept : Asks bodies.Read
      → IsKept head book cluster
      (event_of cluster (kinds.Message (Delivered number)) ++ answer_events Later number (record {
        from = ends.Member by;
        to = ends.Store;
        incarnation = incarnation;
        sequence = sequence;
        body = bodies.Read;
      }))
  read-kept is =
      let answer : ℕ = cluster.facts.sent + 1 in
      let events : List Event = read_events Moment number answer by incarnation sequence in
      let above = more-sent cluster.facts.sent in
      kept-then head book cluster events
      (events_of (cluster_over cluster events)
      (lost_at_once (nat_le most_in_flight (length Later.facts.flight)) answer))
      (delivery-kept head book cluster events number answer true good (λ P. (tt, (tt, tt)))
      (record { agents = reached bodies.Read is; servers = refl; processes = refl; asked = refl })
      (read-causal (past_of book) cluster.facts Moment number answer by incarnation sequence above)
      (λ hands_off. (plain, (answers (bodies.Read) is, tt)))
      (read-delivery (declared_of head) book cluster.facts
      (volatile_of cluster) Moment number answer message by incarnation sequence same-book found is above).0)
      (λ later. lost-kept head (book ++ events) (cluster_over cluster events)
      (nat_le most_in_flight (length Later.facts.flight)) answer later)

  decision-kept : (txn : Txn) (decision : Decision) → Asks (bodies.Request txn) → IsSpannedTxn txn
      → decision_on cluster.facts.keys cluster.facts.clock txn ≡ decision
      → IsKept head book cluster
      (event_of cluster (kinds.Message (Delivered number)) ++ decision_events Later number (record {
        from = ends.Member by;
        to = ends.Store;
        incarnation = incarnation;
        sequence = sequence;
        body = bodies.Request txn;
      }) txn decision (ends.Member by))
  decision-kept txn Grant is span decides =
      let answer : ℕ = cluster.facts.sent + 1 in
      let names : List Name = published_names cluster.facts.members txn in
      let events : List Event = granted_events Moment number answer by incarnation sequence txn names in
      let above = more-sent cluster.facts.sent in
      kept-then head book cluster events
      (events_of (cluster_over cluster events)
      (lost_at_once (nat_le most_in_flight (length Later.facts.flight)) answer))
      (delivery-kept head book cluster events number answer true good (λ P. (tt, (tt, (tt, tt))))
      (record { agents = reached (bodies.Request txn) is; servers = refl; processes = refl; asked = refl })
      (granted-causal (past_of book) cluster.facts Moment number answer message by incarnation sequence txn
      names good.matched.flight found is above span)
      (λ hands_off. (plain, ((hands_off.1.0, (tt, (tt, asks-mode txn is))), (answers (bodies.Request txn) is, tt))))
      (granted-delivery (declared_of head) book cluster.facts (volatile_of cluster) Moment number answer
      message by incarnation sequence txn names same-book found is above span decides).0)
      (λ later. lost-kept head (book ++ events) (cluster_over cluster events)
      (nat_le most_in_flight (length Later.facts.flight)) answer later)
  decision-kept txn (Refusal key expected) is span decides =
      let answer : ℕ = cluster.facts.sent + 1 in
      let events : List Event =
      refused_events Moment number answer by incarnation sequence (txn_kind_of txn) key expected in
      let above = more-sent cluster.facts.sent in
      kept-then head book cluster events
      (events_of (cluster_over cluster events)
      (lost_at_once (nat_le most_in_flight (length Later.facts.flight)) answer))
      (delivery-kept head book cluster events number answer false good (λ P. (tt, (tt, (tt, tt))))
      (record { agents = reached (bodies.Request txn) is; servers = refl; processes = refl; asked = refl })
      (refused-causal (past_of book) cluster.facts Moment number answer by incarnation sequence
      (txn_kind_of txn) key expected above)
      (λ hands_off. (plain, (plain, (answers (bodies.Request txn) is, tt))))
      (refused-delivery (declared_of head) book cluster.facts (volatile_of cluster) Moment number answer
      message by incarnation sequence txn (txn_kind_of txn) key expected same-book found is above decides).0)
      (λ later. lost-kept head (book ++ events) (cluster_over cluster events)
      (nat_le most_in_flight (length Later.facts.flight)) answer later)

-- by whom it comes, and what it says
store-by : (head : HeadText) (book : List Event) (cluster : Cluster) (number : ℕ) (message : InFlightFacts)
    (from : LinkEnd) (incarnation sequence : ℕ) (body : Body) → Bridged head book cluster
    → in_flight cluster.facts.flight number ≡ Some message
    → message.message
    ≡ record { from = from; to = ends.Store; incarnation = incarnation; sequence = sequence; body = body }
    → IsAddressed from ends.Store body
    → IsKept head book cluster
    (event_of cluster (kinds.Message (Delivered number))
    ++ answer_events (cluster_after cluster (kinds.Message (Delivered number))) number
    (record { from = from; to = ends.Store; incarnation = incarnation; sequence = sequence; body = body }))
store-by head book cluster number message ends.Store incarnation sequence body good found is addressed =
    absurd addressed
store-by head book cluster number message (ends.Member by) incarnation sequence bodies.Read good found is addressed =
    read-kept head book cluster number message good found by incarnation sequence is
store-by head book cluster number message (ends.Member by) incarnation sequence (bodies.Request txn) good found is
    addressed =
    decision-kept head book cluster number message good found by incarnation sequence txn
    (decision_on cluster.facts.keys cluster.facts.clock txn) is addressed refl
store-by head book cluster number message (ends.Member by) incarnation sequence _ good found is addressed =
    absurd addressed

pub kept-store-arrival : (head : HeadText) (book : List Event) (cluster : Cluster) (number : ℕ)
    (message : InFlightFacts) → Bridged head book cluster
    → in_flight cluster.facts.flight number ≡ Some message → message.message.to ≡ ends.Store
    → IsKept head book cluster (arrival_events_at cluster number message ends.Store)
kept-store-arrival head book cluster number message good found to =
    let m : Message = message.message in
    let is : m
    ≡ record { from = m.from; to = ends.Store; incarnation = m.incarnation; sequence = m.sequence; body = m.body } =
    ap (λ (end : LinkEnd). let one : Message =
    record { from = m.from; to = end; incarnation = m.incarnation; sequence = m.sequence; body = m.body } in one)
    to in
    let well = good.matched.waiting.carried number message found in
    subst (λ (one : Message). IsKept head book cluster
    (event_of cluster (kinds.Message (Delivered number))
    ++ answer_events (cluster_after cluster (kinds.Message (Delivered number))) number one))
    (sym is)
    (store-by head book cluster number message m.from m.incarnation m.sequence m.body good found is
    (subst (λ (end : LinkEnd). IsAddressed m.from end m.body) to well.addressed))
