-- The events of a delivery to the key store, folded, are the action; and what suffices for any other.
use Rattle.std.proofs.Common.{◌≡◌, ℕ, Bool, true, false, List, [], ◌∷◌, ◌++◌, Option, Some, None, refl, ◌∙◌, ap, sym, subst}
use Rattle.std.proofs.Math.Path.{fun_ext}
use Rattle.pat_base.specs.declared.name.Name.{Name}
use Rattle.pat_base.specs.declared.ticks.Ticks.{Ticks}
use Rattle.store_keys.specs.declared.key.Key.{Key}
use Rattle.store_keys.specs.declared.txn.Expected.{Expected}
use Rattle.store_keys.specs.declared.txn.Txn.{Txn}
use Rattle.store_keys.specs.declared.txn.Txn.TheVariants as txns
use Rattle.store_keys.specs.declared.txn.LeaseTxn.TheVariants as lease_txns
use Rattle.store_keys.specs.declared.txn_kind.TxnKind.{TxnKind}
use Rattle.lease_store.specs.Writes.{is_lease}
use Rattle.lease_store.specs.Decision.{Decision, Grant as Granting, Refusal as Refusing, decision_on}
use Rattle.event_book.specs.declared.event.Event.{Event}
use Rattle.event_book.specs.declared.event.EventKind.{EventKind}
use Rattle.event_book.specs.declared.event.EventKind.TheVariants as kinds
use Rattle.event_book.specs.declared.event.MessageEvent.{MessageEvent}
use Rattle.event_book.specs.declared.event.StoreEvent.TheVariants as stores
use Rattle.event_book.specs.declared.event.MessageEvent.TheVariants as messages
use Rattle.event_book.specs.declared.member.Member.{Member}
use Rattle.event_book.specs.Facts.{Facts}
use Rattle.event_book.specs.Writers.{writes_over}
use Rattle.lease_model.specs.Leases.{LeaderKey, FailsafeKey, Read, Question, Grant, Answer, FailsafeRequest, Acknowledgement, Flying, Requested, Answered, FailsafeRequested, Acknowledged}
use Rattle.event_book.specs.Premises.{Taking}
use Rattle.lease_model.specs.States.{Machine, Declared, State}
use Rattle.lease_model.specs.Outcomes.{Outcome, refused_outcome, outcome_of, with_outcome, with_question, delivered}
use Rattle.lease_model.specs.Actions.{Action, Tick, Deliver, Lose, Input, Start, Kill, Crash, Note, act}
use Rattle.lease_model.specs.Past.{Past, query_of, grant_of, flying_of, asked_with, asked_by, past_flight_by, past_after, past_over, first_past, past_of, VolatileState, machine_of, state_of}
use Rattle.lease_model.specs.Books.{Transition, IsShown}
use Rattle.lease_model.specs.Stores.{IsSameStore, lease_given, granted_outcome, is_granted, outcome_by}
use Rattle.lease_model.specs.Showing.{granted_events, refused_events, read_events}
use Rattle.lease_model.proofs.Tools.{put-all, dropped, put-here, put-there}
use Rattle.lease_law.proofs.Runs.{writes-past}
use Rattle.lease_law.proofs.Showing.{state-eq, past-append}
use Rattle.lease_law.proofs.Deciding.{outcome-decision_if}

-- ---- each question in flight is among those that were asked
answered-no : (a : Answer) (q : Question) → ◌≡◌ {A = Option Flying} (Some (Answered a)) (Some (Requested q)) → ⊥
answered-no a q e = cc

failsafe_requested-no : (b : FailsafeRequest) (q : Question)
    → ◌≡◌ {A = Option Flying} (Some (FailsafeRequested b)) (Some (Requested q)) → ⊥
failsafe_requested-no b q e = cc

acknowledged-no : (h : Acknowledgement) (q : Question)
    → ◌≡◌ {A = Option Flying} (Some (Acknowledged h)) (Some (Requested q)) → ⊥
acknowledged-no h q e = cc

none-no : (q : Question) → ◌≡◌ {A = Option Flying} None (Some (Requested q)) → ⊥
none-no q e = cc

requested-is : (r q : Question) → ◌≡◌ {A = Option Flying} (Some (Requested r)) (Some (Requested q)) → r ≡ q
requested-is r q e = cc

asked-here : (asked : ℕ → Option Question) (number : ℕ) (flying : Option Flying) (q : Question)
    → flying ≡ Some (Requested q) → asked_with asked number flying number ≡ Some q
asked-here asked number (Some (Requested r)) q e =
    put-here asked number (Some r) ∙ ap (λ (x : Question). Some x) (requested-is r q e)
asked-here asked number (Some (Answered a)) q e = absurd (answered-no a q e)
asked-here asked number (Some (FailsafeRequested b)) q e = absurd (failsafe_requested-no b q e)
asked-here asked number (Some (Acknowledged h)) q e = absurd (acknowledged-no h q e)
asked-here asked number None q e = absurd (none-no q e)

asked-there : (asked : ℕ → Option Question) (number : ℕ) (flying : Option Flying) (n : ℕ) → (n ≡ number → ⊥)
    → asked_with asked number flying n ≡ asked n
asked-there asked number (Some (Requested r)) n other = put-there asked number (Some r) n other
asked-there asked number _ n other = refl

abbrev Remembers : (ℕ → Option Question) → (ℕ → Option Flying) → Type 0
Remembers asked flight = (i : ℕ) (q : Question) → flight i ≡ Some (Requested q) → asked i ≡ Some q

remembers-message : (past : Past) (e : MessageEvent) → Remembers past.asked past.flight
    → Remembers (asked_by past e) (past_flight_by past e)
remembers-message past (messages.Sent number message) old i q at =
    let flying : Option Flying =
    flying_of past message.from message.to message.incarnation message.sequence message.body in
    put-all past.flight number flying (λ n o. o ≡ Some (Requested q) → asked_with past.asked number flying n ≡ Some q)
    (λ e. asked-here past.asked number flying q e)
    (λ n other e. asked-there past.asked number flying n other ∙ old n q e) i at
remembers-message past (messages.Delivered number) old i q at = old i q (dropped past.flight number i (Requested q) at)
remembers-message past (messages.Lost number) old i q at = old i q (dropped past.flight number i (Requested q) at)

remembers-by : (past : Past) (kind : EventKind) → Remembers past.asked past.flight
    → Remembers (past_after past kind).asked (past_after past kind).flight
remembers-by past (kinds.Message e) old = remembers-message past e old
remembers-by past _ old = old

remembers-after : (past : Past) (book : List Event) → Remembers past.asked past.flight
    → Remembers (past_over past book).asked (past_over past book).flight
remembers-after past [] old = old
remembers-after past (event ∷ book) old =
    remembers-after (past_after past event.kind) book (remembers-by past event.kind old)

remembers : (book : List Event) → Remembers (past_of book).asked (past_of book).flight
remembers book = remembers-after first_past book (λ i q at. absurd (none-no q at))

-- ---- what suffices for an action to be shown
question-kept : (s : State) (i j : ℕ) (granted : Bool) (o : Option Flying)
    → (with_question s i j granted o).declared ≡ s.declared
question-kept s i j granted (Some (Requested q)) = refl
question-kept s i j granted _ = refl

declared-kept : (s : State) (a : Action) → (act s a).declared ≡ s.declared
declared-kept s (Tick stops) = refl
declared-kept s (Deliver i j granted) = question-kept s i j granted (s.flight i)
declared-kept s (Lose i) = refl
declared-kept s (Input m input) = refl
declared-kept s (Start m) = refl
declared-kept s (Kill m) = refl
declared-kept s (Crash m) = refl
declared-kept s Note = refl

declared-eq : (d d' : Declared) (c : ℕ) (k : Option LeaderKey) (f : Option FailsafeKey) (t : ℕ)
    (fl : ℕ → Option Flying) (tk : List Taking) (ms : ℕ → Machine) (w : ℕ → Bool) → d ≡ d' →
    ◌≡◌ {A = State} (record {
      declared = d;
      clock = c;
      leader = k;
      failsafe = f;
      revision = t;
      flight = fl;
      taken = tk;
      members = ms;
      writes = w;
    }) (record {
      declared = d';
      clock = c;
      leader = k;
      failsafe = f;
      revision = t;
      flight = fl;
      taken = tk;
      members = ms;
      writes = w;
    })
declared-eq d d' c k f t fl tk ms w e = cc

pub parts-shown : (declared : Declared) (book : List Event) (volatile_states : ℕ → VolatileState)
    (transition : Transition) → let past =
    past_of (book ++ transition.events) in
    let s = act (state_of declared (past_of book) volatile_states) transition.action in
    past.clock ≡ s.clock → past.leader ≡ s.leader → past.failsafe ≡ s.failsafe → past.revision ≡ s.revision
    → ((i : ℕ) → past.flight i ≡ s.flight i) → past.taken ≡ s.taken
    → ((m : ℕ) → machine_of past (transition.volatile_states m) m ≡ s.members m)
    → IsShown declared book volatile_states transition
parts-shown declared book volatile_states transition = λ clock leader failsafe revision flight taken members.
    let past : Past = past_of (book ++ transition.events) in
    let s : State = act (state_of declared (past_of book) volatile_states) transition.action in
    let w : (ℕ → Bool) = writes_over (past_of book).writes transition.events in
    let writes : past.writes ≡ w = ap (λ (p : Past). p.writes) (past-append first_past book transition.events)
    ∙ writes-past (past_of book) transition.events in
    state-eq declared past.clock s.clock past.leader s.leader past.failsafe s.failsafe past.revision
    s.revision past.flight s.flight past.taken s.taken
    (λ m. machine_of past (transition.volatile_states m) m) s.members past.writes w
    clock leader failsafe revision (fun_ext flight) taken (fun_ext members) writes
    ∙ declared-eq declared s.declared s.clock s.leader s.failsafe s.revision s.flight s.taken s.members w
    (sym (declared-kept (state_of declared (past_of book) volatile_states) transition.action))

-- ---- a delivery
granted-grant : (past : Past) (member incarnation sequence sent : ℕ) (txn : Txn)
    → grant_of (is_lease txn) past (Some (record {
      member = member;
      incarnation = incarnation;
      sequence = sequence;
      sent = sent;
      query = query_of txn;
    })) ≡ lease_given past.clock past.revision past.failsafe sent (query_of txn)
granted-grant past member incarnation sequence sent (txns.Lease (lease_txns.Create info ttl failsafe sync)) = refl
granted-grant past member incarnation sequence sent
    (txns.Lease (lease_txns.Renew compared info ttl status row failsafe)) =
    refl
granted-grant past member incarnation sequence sent _ = refl

delivered-is : (s : State) (i j : ℕ) (granted : Bool) (q : Question) (d : Outcome) → s.flight i ≡ Some (Requested q)
    → outcome_of s.clock s.leader s.failsafe s.revision q.member q.sent granted q.query ≡ d
    → delivered s i j granted ≡ with_outcome s i j q d
delivered-is s i j granted q d at is =
    ap (λ (o : Option Flying). with_question s i j granted o) at ∙ ap (λ (x : Outcome). with_outcome s i j q x) is

-- the past after a granted request, but for the answer
abbrev Granted : Past → ℕ → Member → Txn → List Name → Past
Granted past i by txn standbys =
    past_after (past_after past (kinds.Message (messages.Delivered i))) (kinds.Store (stores.Granted i by txn standbys))

shown-from : (declared : Declared) (book : List Event) (volatile_states : ℕ → VolatileState) (i j : ℕ) (granted : Bool)
    (events : List Event) (q : Question) (d : Outcome) → (past_of book).flight i ≡ Some (Requested q) →
    outcome_of (past_of book).clock (past_of book).leader (past_of book).failsafe
    (past_of book).revision q.member q.sent granted q.query ≡ d →
    state_of declared (past_over (past_of book) events) volatile_states
    ≡ record (with_outcome (state_of declared (past_of book) volatile_states) i j q d) {
      writes =
          writes_over (past_of book).writes events;
    } →
    IsShown declared book volatile_states
    (record { action = Deliver i j granted; events = events; volatile_states = volatile_states })
shown-from declared book volatile_states i j granted events q d at is same =
    ap (λ (past : Past). state_of declared past volatile_states) (past-append first_past book events) ∙ same
    ∙ sym (ap (λ (s : State). record s { writes = writes_over (past_of book).writes events })
    (delivered-is (state_of declared (past_of book) volatile_states) i j granted q d at is))

pub granted-shown : (declared : Declared) (book : List Event) (facts : Facts) (volatile_states : ℕ → VolatileState)
    (tick : Ticks) (i j : ℕ) (by : Member) (incarnation sequence sent : ℕ) (txn : Txn) (standbys : List Name) →
    IsSameStore (past_of book) facts → decision_on facts.keys facts.clock txn ≡ Granting →
    (past_of book).flight i ≡ Some (Requested (record {
      member = by.id.number;
      incarnation = incarnation;
      sequence = sequence;
      sent = sent;
      query = query_of txn;
    })) →
    IsShown declared book volatile_states (record {
      action = Deliver i j true;
      events = granted_events tick i j by incarnation sequence txn standbys;
      volatile_states = volatile_states;
    })
granted-shown declared book facts volatile_states tick i j by incarnation sequence sent txn standbys same decision at =
    let past : Past = past_of book in
    let q : Question = record {
      member = by.id.number;
      incarnation = incarnation;
      sequence = sequence;
      sent = sent;
      query = query_of txn;
    } in
    let d : Outcome =
    granted_outcome past.clock past.leader past.failsafe past.revision by.id.number sent (query_of txn) in
    let mid : Past = Granted past i by txn standbys in
    let is : outcome_of past.clock past.leader past.failsafe past.revision by.id.number sent true (query_of txn) ≡ d =
    subst (λ (x : Decision).
    outcome_of past.clock past.leader past.failsafe past.revision by.id.number sent (is_granted x) (query_of txn)
    ≡ outcome_by x past.clock past.leader past.failsafe past.revision by.id.number sent (query_of txn))
    decision
    (outcome-decision_if past facts by.id.number sent txn same) in
    let grant : grant_of (is_lease txn) mid (past.asked i) ≡ d.grant =
    ap (λ (o : Option Question). grant_of (is_lease txn) mid o) (remembers book i q at)
    ∙ granted-grant mid by.id.number incarnation sequence sent txn in
    shown-from declared book volatile_states i j true
    (granted_events tick i j by incarnation sequence txn standbys) q d at is
    (ap (λ (g : Option Grant). record (with_outcome (state_of declared past volatile_states) i j q (record d {
      grant = g;
    })) { writes = past.writes }) grant)

pub refused_outcome-shown : (declared : Declared) (book : List Event) (facts : Facts)
    (volatile_states : ℕ → VolatileState) (tick : Ticks) (i j : ℕ) (by : Member)
    (incarnation sequence sent : ℕ) (txn : Txn) (request : TxnKind) (key : Key) (found : Expected) →
    IsSameStore (past_of book) facts → decision_on facts.keys facts.clock txn ≡ Refusing key found →
    (past_of book).flight i ≡ Some (Requested (record {
      member = by.id.number;
      incarnation = incarnation;
      sequence = sequence;
      sent = sent;
      query = query_of txn;
    })) →
    IsShown declared book volatile_states (record {
      action = Deliver i j false;
      events = refused_events tick i j by incarnation sequence request key found;
      volatile_states = volatile_states;
    })
refused_outcome-shown declared book facts volatile_states tick i j by incarnation sequence sent txn request key found
    same decision at =
    let past : Past = past_of book in
    shown-from declared book volatile_states i j false
    (refused_events tick i j by incarnation sequence request key found) (record {
      member = by.id.number;
      incarnation = incarnation;
      sequence = sequence;
      sent = sent;
      query = query_of txn;
    }) (refused_outcome past.leader past.failsafe past.revision) at
    (subst (λ (x : Decision).
    outcome_of past.clock past.leader past.failsafe past.revision by.id.number sent (is_granted x) (query_of txn)
    ≡ outcome_by x past.clock past.leader past.failsafe past.revision by.id.number sent (query_of txn))
    decision
    (outcome-decision_if past facts by.id.number sent txn same))
    refl

pub read-shown : (declared : Declared) (book : List Event) (volatile_states : ℕ → VolatileState)
    (tick : Ticks) (i j : ℕ) (by : Member) (incarnation sequence sent : ℕ) →
    (past_of book).flight i
    ≡ Some (Requested
    (record { member = by.id.number; incarnation = incarnation; sequence = sequence; sent = sent; query = Read })) →
    IsShown declared book volatile_states (record {
      action = Deliver i j true;
      events = read_events tick i j by incarnation sequence;
      volatile_states = volatile_states;
    })
read-shown declared book volatile_states tick i j by incarnation sequence sent at =
    let past : Past = past_of book in
    shown-from declared book volatile_states i j true (read_events tick i j by incarnation sequence)
    (record { member = by.id.number; incarnation = incarnation; sequence = sequence; sent = sent; query = Read })
    (record {
      leader = past.leader;
      failsafe = past.failsafe;
      revision = past.revision;
      snapshot = true;
      grant = None;
    }) at refl refl
