-- A message that comes to the key store upholds commits.
use Rattle.std.proofs.Common.{ℕ, ◌≡◌, ◌<◌, ◌≤◌, ◌+◌, ◌++◌, nat_le, Bool, true, false, List, [], ◌∷◌, length, slice_get, Option, Some, None, refl, ◌∙◌, ap, sym, subst, inl, inr, arith}
use Rattle.pat_base.specs.declared.name.Name.{Name}
use Rattle.pat_base.specs.declared.ticks.Ticks.{Ticks}
use Rattle.lease_store.specs.Decision.{Decision, Grant, Refusal, decision_on}
use Rattle.store_keys.specs.declared.txn.Txn.{Txn}
use Rattle.store_keys.specs.declared.txn.Txn.TheVariants as txns
use Rattle.store_keys.specs.declared.txn.LeaseTxn.TheVariants as lease_txns
use Rattle.store_keys.specs.declared.txn.SyncTxn.TheVariants as sync_txns
use Rattle.store_keys.specs.TxnKinds.{txn_kind_of}
use Rattle.event_book.specs.declared.event.Event.{Event}
use Rattle.event_book.specs.declared.event.EventKind.TheVariants as kinds
use Rattle.event_book.specs.declared.event.MessageEvent.TheVariants.{Delivered}
use Rattle.event_book.specs.declared.link.LinkEnd.{LinkEnd}
use Rattle.event_book.specs.declared.link.LinkEnd.TheVariants as ends
use Rattle.event_book.specs.declared.member.Member.{Member}
use Rattle.event_book.specs.declared.message.Body.{Body}
use Rattle.event_book.specs.declared.message.Body.TheVariants as bodies
use Rattle.event_book.specs.declared.message.Message.{Message}
use Rattle.event_book.specs.Flight.{InFlightFacts, in_flight}
use Rattle.event_book.specs.Functions.{put_at}
use Rattle.agent_model.specs.Agents.{AgentFacts}
use Rattle.pg_model.specs.Facts.{ServerFacts}
use Rattle.script_model.specs.Script.{HeadText}
use Rattle.cluster_model.specs.Cluster.{agent_facts_reached, agent_facts_reached_at, cluster_after, cluster_over}
use Rattle.cluster_model.specs.Limits.{most_in_flight}
use Rattle.cluster_model.specs.Messages.{answer_events, arrival_events_at, decision_events, lost_at_once, published_names}
use Rattle.cluster_model.specs.Parts.{event_of, events_of}
use Rattle.cluster_model.specs.State.{Cluster}
use Rattle.lease_model.specs.Leases.{Question}
use Rattle.lease_model.specs.Past as lease_past
use Rattle.event_book.specs.Kinds.{AllAre}
use Rattle.lease_model.specs.Showing.{granted_events, read_events, refused_events}
use Rattle.lease_model.specs.Stores.{IsSpannedTxn, is_granted as is_grant}
use Rattle.lease_model.proofs.Tools.{put-there}
use Rattle.agent_commit_law.specs.Committing.{IsSynchronousBody, IsSynchronousTxn}
use Rattle.commit_actions.specs.Keys.{strict_quorum}
use Rattle.commit_actions.specs.Actions.{Action, IsNumbered}
use Rattle.commit_showing.specs.Books.{Transition}
use Rattle.commit_actions.specs.Past.{claim_request, OtherQuery, Past, Setup, VolatileState, past_after, past_over}
use Rattle.commit_actions.specs.States.{State}
use Rattle.commit_book.specs.Deliveries.{ComparesNoSync, IsDelivered, MayBeGranted, granted_if, is_told}
use Rattle.commit_book.specs.Flights.{AreCausal}
use Rattle.commit_book.proofs.Delivering.{claim-decided, granted-delivery, read-delivery, refused-delivery}
use Rattle.commit_book.proofs.Groups.{granted-causal, read-causal, refused-causal}
use Rattle.commit_servers.specs.Acting.{Fits, IsAside}
use Rattle.commit_servers.specs.Matching.{live_in}
use Rattle.commit_servers.proofs.Beginning.{fits-aside}
use Rattle.run_promise.specs.Members.{member_count}
use Rattle.lease_parts.specs.Kept.{IsKept}
use Rattle.run_promise.specs.Promise.{Upholds}
use Rattle.lease_parts.specs.Waiting.{IsAddressed}
use Rattle.lease_parts.proofs.StoreArrivals.{kept-store-arrival}
use Rattle.commit_parts.specs.Bridged.{CommitsBridged, kept_commits}
use Rattle.commit_parts.specs.Reading.{agent_now, past_of, setup_of, state_of_run, volatile_of}
use Rattle.commit_parts.proofs.Commands.{goes-loss}
use Rattle.commit_parts.proofs.Given.{numbered-request, snapshot-allowed}
use Rattle.commit_parts.proofs.Going.{Goes, GoesFrom, goes-after, goes-none, upheld-gone}
use Rattle.commit_parts.proofs.Over.{AskSynchronously}
use Rattle.commit_parts.specs.Moving.{volatile_last}
use Rattle.commit_parts.specs.Ordered.{AllInOrder, HappensInOrder}
use Rattle.event_book.specs.declared.event.StoreEvent.TheVariants as stores
use Rattle.commit_book.proofs.Flights.{request-flying}
use Rattle.commit_showing.specs.Changes.{EachChangesOnce}
use Rattle.commit_showing.proofs.Claims.{claim-named}

-- ---- deliveries as they go
fits-asides : (past : Past) (cluster : Cluster) (events : List Event) (volatile_states : ℕ → VolatileState)
    → AllAre IsAside events → Fits past cluster.facts volatile_states
    → Fits (past_over past events) (cluster_over cluster events).facts volatile_states
fits-asides past cluster [] volatile_states all fits = fits
fits-asides past cluster (event ∷ events) volatile_states all fits =
    fits-asides (past_after past event.kind) (cluster_after cluster event.kind) events volatile_states all.1
    (fits-aside past cluster.facts volatile_states event.kind all.0 fits)

same-volatile : (before later : Cluster) → later.agents ≡ before.agents
    → later.facts.servers ≡ before.facts.servers → volatile_of before ≡ volatile_of later
same-volatile before later agents servers =
    ap (λ (known : List (Option AgentFacts)). λ (m : ℕ). let state : VolatileState =
    record { live = live_in before.facts.servers m; agent = agent_now (slice_get known m) } in state)
    (sym agents)
    ∙ ap (λ (known : List ServerFacts). λ (m : ℕ). let state : VolatileState =
    record { live = live_in known m; agent = agent_now (slice_get later.agents m) } in state)
    (sym servers)

-- what a delivery leaves as it was, and what it asks
record LeavesAsked (count quorum : ℕ) (named : lease_past.Past) (past : Past) (cluster : Cluster) (number : ℕ)
    (events : List Event) (transitions : List Transition) : Type 0 where
  agents : (cluster_over cluster events).agents ≡ cluster.agents
  servers : (cluster_over cluster events).facts.servers ≡ cluster.facts.servers
  named_same : (lease_past.past_over named events).asked ≡ named.asked
  asked : (i : ℕ) → i < number → (past_over past events).asked i ≡ past.asked i
  asides : AllAre IsAside events
  asks : (s : State) → AskSynchronously s count quorum events
  ordered : AllInOrder past cluster events
  once : EachChangesOnce transitions

goes-delivery : (setup : Setup) (named : lease_past.Past) (past : Past) (cluster : Cluster) (number : ℕ)
    (events : List Event) (transitions : List Transition) → Fits past cluster.facts (volatile_of cluster)
    → IsDelivered setup past cluster.facts (volatile_of cluster) events transitions
    → volatile_last (volatile_of cluster) transitions ≡ volatile_of cluster
    → ((i : ℕ) (question : Question) → named.asked i ≡ Some question → i < number) → AreCausal past cluster.facts events
    → LeavesAsked setup.member_count strict_quorum named past cluster number events transitions
    → Goes setup named past cluster events
goes-delivery setup named past cluster number events transitions fits delivered last before causal leaves =
    let later : Cluster = cluster_over cluster events in
    let same : volatile_of cluster ≡ volatile_of later = same-volatile cluster later leaves.agents leaves.servers in
    record {
      moves = record {
        transitions = transitions;
        whole = delivered.whole;
        allowed = delivered.allowed;
        once = leaves.once;
        last = last ∙ same;
        fits = subst (λ (v : ℕ → VolatileState). Fits (past_over past events) later.facts v) same
            (fits-asides past cluster events (volatile_of cluster) leaves.asides fits);
      };
      left = record {
        leave = record {
          agents = λ m agent is. sym (ap (λ (known : List (Option AgentFacts)). slice_get known m) leaves.agents) ∙ is;
          asked = λ i question is.
              let asked = ap (λ (f : ℕ → Option Question). f i) (sym leaves.named_same) ∙ is in
              (asked, leaves.asked i (before i question asked));
        };
        causal = causal;
        asks = leaves.asks;
        ordered = leaves.ordered;
      };
    }

-- ---- a message that is sent beyond the most in flight is lost at once
goes-lost : (setup : Setup) (cluster : Cluster) (test : Bool) (number : ℕ)
    → GoesFrom setup cluster (events_of cluster (lost_at_once test number))
goes-lost setup cluster true number = goes-loss setup cluster number
goes-lost setup cluster false number = goes-none setup cluster

more-sent : (sent : ℕ) → sent < sent + 1
more-sent sent = omega arith

up-to : (i sent : ℕ) → i ≤ sent → i < sent + 1
up-to i sent small = omega (arith, small)

other-number : (i number : ℕ) → i < number → i ≡ number → ⊥
other-number i number small is = omega (arith, small, is)

last-granted : (states : ℕ → VolatileState) (told : Bool) (tick : Ticks) (number answer : ℕ) (by : Member)
    (incarnation sequence : ℕ) (txn : Txn) (standbys : List Name) (action : Action)
    → volatile_last states (granted_if told states action tick number answer by incarnation sequence txn standbys)
    ≡ states
last-granted states true tick number answer by incarnation sequence txn standbys action = refl
last-granted states false tick number answer by incarnation sequence txn standbys action = refl

once-granted : (states : ℕ → VolatileState) (told : Bool) (tick : Ticks) (number answer : ℕ) (by : Member)
    (incarnation sequence : ℕ) (txn : Txn) (standbys : List Name) (action : Action)
    → EachChangesOnce (granted_if told states action tick number answer by incarnation sequence txn standbys)
once-granted states true tick number answer by incarnation sequence txn standbys action = (inl (tt, inr (tt, tt)), tt)
once-granted states false tick number answer by incarnation sequence txn standbys action =
    (inl (tt, inr tt), (inr tt, tt))

compares-none : (count quorum : ℕ) (txn : Txn) → IsSynchronousTxn count quorum txn → ComparesNoSync txn
compares-none count quorum (txns.Lease (lease_txns.Create info ttl failsafe None)) is = tt
compares-none count quorum (txns.Lease (lease_txns.Create info ttl failsafe (Some sync))) is = absurd is
compares-none count quorum _ is = tt

granted-may : (count quorum : ℕ) (s : State) (m incarnation sequence : ℕ) (txn : Txn)
    → IsSynchronousTxn count quorum txn → IsNumbered (s.members m) incarnation sequence
    → MayBeGranted s m incarnation sequence txn
granted-may count quorum s m incarnation sequence (txns.Lease (lease_txns.Create info ttl failsafe None)) is numbered =
    numbered
granted-may count quorum s m incarnation sequence (txns.Lease (lease_txns.Create info ttl failsafe (Some sync))) is
    numbered =
    absurd is
granted-may count quorum s m incarnation sequence (txns.Lease (lease_txns.Renew revision info ttl status row failsafe))
    is numbered =
    numbered
granted-may count quorum s m incarnation sequence (txns.Sync (sync_txns.DropSync revision sync)) is numbered = absurd is
granted-may count quorum s m incarnation sequence _ is numbered = tt

module _ (head : HeadText) (book : List Event) (cluster : Cluster) (number : ℕ) (message : InFlightFacts)
    (good : CommitsBridged head book cluster)
    (found : in_flight cluster.facts.flight number ≡ Some message) (by : Member) (incarnation sequence : ℕ) where
  abbrev Later : Cluster
  Later = cluster_after cluster (kinds.Message (Delivered number))

  abbrev Moment : Ticks
  Moment = record { 0 = cluster.facts.clock }

  abbrev Answer : ℕ
  Answer = cluster.facts.sent + 1

  abbrev Says : Body → Message
  Says body =
      record { from = ends.Member by; to = ends.Store; incarnation = incarnation; sequence = sequence; body = body }

  abbrev Events : Body → List Event
  Events body = event_of cluster (kinds.Message (Delivered number)) ++ answer_events Later number (Says body)

  reached : (body : Body) → message.message ≡ Says body
      → agent_facts_reached cluster (in_flight cluster.facts.flight number) ≡ cluster.agents
  reached body is =
      ap (agent_facts_reached cluster) found ∙ ap (λ (m : Message). agent_facts_reached_at cluster message m.to) is

  before : (i : ℕ) (question : Question) → (lease_past.past_of book).asked i ≡ Some question → i < Answer
  before i question asked = up-to i cluster.facts.sent (good.lease.matched.flight.asked i question asked)

  not-asked : (i : ℕ) → i < Answer → put_at (past_of head book).asked Answer OtherQuery i ≡ (past_of head book).asked i
  not-asked i small = put-there (past_of head book).asked Answer OtherQuery i (other-number i Answer small)

  -- a claim that is granted found no sync key, or one that names its sender
  grant-ordered : (txn : Txn) → message.message ≡ Says (bodies.Request txn)
      → decision_on cluster.facts.keys cluster.facts.clock txn ≡ Grant
      → HappensInOrder (past_after (past_of head book) (kinds.Message (Delivered number))) Later
      (kinds.Store (stores.Granted number by txn (published_names cluster.facts.members txn)))
  grant-ordered (txns.Sync (sync_txns.Claim revision sync)) is decides =
      claim-named (state_of_run head book cluster) number
      (claim_request by.id.number incarnation sequence revision sync) good.sound
      (request-flying (past_of head book) cluster.facts number message by incarnation sequence
      (txns.Sync (sync_txns.Claim revision sync)) good.fits.store.flight found is)
      refl
      (sym (claim-decided (past_of head book) cluster.facts by.id.number incarnation sequence revision sync
      good.fits.store.store)
      ∙ ap is_grant decides)
  grant-ordered _ is decides = tt

  -- the whole of it, where the delivery goes
  answered : (body : Body) (events : List Event)
      → Goes (setup_of head) (lease_past.past_of book) (past_of head book) cluster events
      → IsKept head book cluster
      (events ++ events_of (cluster_over cluster events)
      (lost_at_once (nat_le most_in_flight (length Later.facts.flight)) Answer))
      → Upholds (kept_commits head) book cluster
      (events ++ events_of (cluster_over cluster events)
      (lost_at_once (nat_le most_in_flight (length Later.facts.flight)) Answer))
  answered body events goes kept =
      let lost = nat_le most_in_flight (length Later.facts.flight) in
      upheld-gone head book cluster (events ++ events_of (cluster_over cluster events) (lost_at_once lost Answer)) good
      (goes-after (setup_of head) (lease_past.past_of book) (past_of head book) cluster events
      (events_of (cluster_over cluster events) (lost_at_once lost Answer)) goes
      (goes-lost (setup_of head) (cluster_over cluster events) lost Answer)) kept

  read-upheld : message.message ≡ Says bodies.Read → IsKept head book cluster (Events bodies.Read)
      → Upholds (kept_commits head) book cluster (Events bodies.Read)
  read-upheld is kept =
      let events : List Event = read_events Moment number Answer by incarnation sequence in
      let above = more-sent cluster.facts.sent in
      answered bodies.Read events
      (goes-delivery (setup_of head) (lease_past.past_of book)
      (past_of head book) cluster Answer events _ good.fits.servers
      (read-delivery (setup_of head) (past_of head book) cluster.facts (volatile_of cluster) Moment number Answer
      message by incarnation sequence good.fits.store found is above (snapshot-allowed head book cluster good Answer))
      refl before
      (read-causal (past_of head book) cluster.facts Moment number Answer by incarnation sequence above)
      (record {
        agents = reached bodies.Read is;
        servers = refl;
        named_same = refl;
        asked = not-asked;
        asides = (tt, (tt, tt));
        asks = λ s. (tt, ((tt, tt), tt));
        ordered = (tt, (tt, tt));
        once = (inl (tt, inr tt), tt);
      })) kept

  decision-upheld : (txn : Txn) (decision : Decision) → message.message ≡ Says (bodies.Request txn)
      → IsSpannedTxn txn → IsSynchronousTxn (member_count head) strict_quorum txn
      → decision_on cluster.facts.keys cluster.facts.clock txn ≡ decision
      → IsKept head book cluster
      (event_of cluster (kinds.Message (Delivered number))
      ++ decision_events Later number (Says (bodies.Request txn)) txn decision (ends.Member by))
      → Upholds (kept_commits head) book cluster
      (event_of cluster (kinds.Message (Delivered number))
      ++ decision_events Later number (Says (bodies.Request txn)) txn decision (ends.Member by))
  decision-upheld txn Grant is span on decides kept =
      let names : List Name = published_names cluster.facts.members txn in
      let events : List Event = granted_events Moment number Answer by incarnation sequence txn names in
      let above = more-sent cluster.facts.sent in
      answered (bodies.Request txn) events
      (goes-delivery (setup_of head) (lease_past.past_of book)
      (past_of head book) cluster Answer events _ good.fits.servers
      (granted-delivery (setup_of head) (past_of head book) cluster.facts (volatile_of cluster) Moment number
      Answer message by incarnation sequence txn names refl good.fits.store found is above span decides
      (granted-may (member_count head) strict_quorum (state_of_run head book cluster) by.id.number incarnation
      sequence txn on (numbered-request head book cluster good number message by incarnation sequence txn found is)))
      (last-granted (volatile_of cluster) (is_told txn) Moment number Answer by incarnation sequence txn names _) before
      (granted-causal (past_of head book) cluster.facts Moment number Answer message by incarnation sequence
      txn names good.fits.store found is above span decides)
      (record {
        agents = reached (bodies.Request txn) is;
        servers = refl;
        named_same = refl;
        asked = not-asked;
        asides = (tt, (tt, (tt, tt)));
        asks = λ s. (tt, (on, ((tt, tt), tt)));
        ordered = (tt, (grant-ordered txn is decides, (tt, tt)));
        once =
            once-granted (volatile_of cluster) (is_told txn) Moment number Answer by incarnation sequence txn names _;
      })) kept
  decision-upheld txn (Refusal key expected) is span on decides kept =
      let events : List Event =
      refused_events Moment number Answer by incarnation sequence (txn_kind_of txn) key expected in
      let above = more-sent cluster.facts.sent in
      answered (bodies.Request txn) events
      (goes-delivery (setup_of head) (lease_past.past_of book)
      (past_of head book) cluster Answer events _ good.fits.servers
      (refused-delivery (setup_of head) (past_of head book) cluster.facts
      (volatile_of cluster) Moment number Answer message by incarnation sequence txn (txn_kind_of txn) key
      expected good.fits.store found is above decides (compares-none (member_count head) strict_quorum txn on))
      refl before
      (refused-causal (past_of head book) cluster.facts Moment number Answer by incarnation sequence
      (txn_kind_of txn) key expected above)
      (record {
        agents = reached (bodies.Request txn) is;
        servers = refl;
        named_same = refl;
        asked = not-asked;
        asides = (tt, (tt, (tt, tt)));
        asks = λ s. (tt, (tt, ((tt, tt), tt)));
        ordered = (tt, (tt, (tt, tt)));
        once = (inr (tt, (tt, tt)), tt);
      })) kept

-- by whom it comes, and what it says
store-by : (head : HeadText) (book : List Event) (cluster : Cluster) (number : ℕ) (message : InFlightFacts)
    (from : LinkEnd) (incarnation sequence : ℕ) (body : Body) → CommitsBridged head book cluster
    → in_flight cluster.facts.flight number ≡ Some message
    → message.message
    ≡ record { from = from; to = ends.Store; incarnation = incarnation; sequence = sequence; body = body }
    → IsAddressed from ends.Store body → IsSynchronousBody (member_count head) strict_quorum body
    → IsKept head book cluster
    (event_of cluster (kinds.Message (Delivered number))
    ++ answer_events (cluster_after cluster (kinds.Message (Delivered number))) number
    (record { from = from; to = ends.Store; incarnation = incarnation; sequence = sequence; body = body }))
    → Upholds (kept_commits head) book cluster
    (event_of cluster (kinds.Message (Delivered number))
    ++ answer_events (cluster_after cluster (kinds.Message (Delivered number))) number
    (record { from = from; to = ends.Store; incarnation = incarnation; sequence = sequence; body = body }))
store-by head book cluster number message ends.Store incarnation sequence body good found is addressed on kept =
    absurd addressed
store-by head book cluster number message (ends.Member by) incarnation sequence bodies.Read good found is addressed on
    kept =
    read-upheld head book cluster number message good found by incarnation sequence is kept
store-by head book cluster number message (ends.Member by) incarnation sequence (bodies.Request txn) good found is
    addressed on kept =
    decision-upheld head book cluster number message good found by incarnation sequence txn
    (decision_on cluster.facts.keys cluster.facts.clock txn) is addressed on refl kept
store-by head book cluster number message (ends.Member by) incarnation sequence _ good found is addressed on kept =
    absurd addressed

pub upheld-arrival : (head : HeadText) (book : List Event) (cluster : Cluster) (number : ℕ) (message : InFlightFacts)
    → CommitsBridged head book cluster
    → in_flight cluster.facts.flight number ≡ Some message → message.message.to ≡ ends.Store
    → Upholds (kept_commits head) book cluster (arrival_events_at cluster number message ends.Store)
upheld-arrival head book cluster number message good found to =
    let m : Message = message.message in
    let is : m
    ≡ record { from = m.from; to = ends.Store; incarnation = m.incarnation; sequence = m.sequence; body = m.body } =
    ap (λ (end : LinkEnd). let one : Message =
    record { from = m.from; to = end; incarnation = m.incarnation; sequence = m.sequence; body = m.body } in one)
    to in
    let well = good.lease.matched.waiting.carried number message found in
    let Answers : (Message → List Event) = λ one. event_of cluster (kinds.Message (Delivered number))
    ++ answer_events (cluster_after cluster (kinds.Message (Delivered number))) number one in
    subst (λ (one : Message). Upholds (kept_commits head) book cluster (Answers one)) (sym is)
    (store-by head book cluster number message m.from m.incarnation m.sequence m.body good found is
    (subst (λ (end : LinkEnd). IsAddressed m.from end m.body) to well.addressed)
    (good.fits.requests number message found)
    (subst (λ (one : Message). IsKept head book cluster (Answers one)) is
    (kept-store-arrival head book cluster number message good.lease found to)))
