-- Each event keeps that the past has the messages in flight as the book leaves them.
use Rattle.std.proofs.Common.{◌≡◌, ℕ, ◌≤◌, ◌<◌, ◌==◌, Bool, true, false, cond, List, Option, Some, None, refl, ◌∙◌, ap, sym, subst, arith}
use Rattle.std.specs.FinMap.{find}
use Rattle.pat_base.specs.declared.lsn.Lsn.{Lsn}
use Rattle.pat_base.specs.declared.name.Name.{Name}
use Rattle.pat_base.specs.declared.server_state.Required.{Required}
use Rattle.lease_store.specs.Answers.{present_pairs}
use Rattle.store_keys.specs.Settings.{Settings}
use Rattle.store_keys.specs.declared.key.Key.TheVariants as keys
use Rattle.store_keys.specs.declared.txn.Txn.{Txn}
use Rattle.lease_store.specs.KeyOrder.{key_cmp}
use Rattle.event_book.specs.declared.event.EventKind.{EventKind}
use Rattle.event_book.specs.declared.event.EventKind.TheVariants as kinds
use Rattle.event_book.specs.declared.event.MessageEvent.TheVariants.{Sent, Delivered, Lost}
use Rattle.event_book.specs.declared.link.LinkEnd.{LinkEnd}
use Rattle.event_book.specs.declared.link.LinkEnd.TheVariants as ends
use Rattle.event_book.specs.declared.member.Member.{Member}
use Rattle.event_book.specs.declared.message.Body.{Body}
use Rattle.event_book.specs.declared.message.Body.TheVariants as bodies
use Rattle.event_book.specs.declared.message.Message.{Message}
use Rattle.event_book.specs.Flight.{InFlightFacts, in_flight, without_message, launched, snapshot_for, grant_for}
use Rattle.event_book.specs.Facts.{Facts, facts_after, start_of}
use Rattle.event_book.specs.Functions.{put_at}
use Rattle.event_book.specs.Logs.{Logs}
use Rattle.lease_model.specs.Leases.{LeaderKey, FailsafeKey}
use Rattle.lease_model.proofs.Tools.{some-is, none-some, put-all, put-here, put-there, dropped}
use Rattle.lease_book.proofs.Entries.{in-with, in-without}
use Rattle.lease_book.proofs.Flights as lease_flights
use Rattle.lease_book.proofs.Flights.{snapshot-leader, snapshot-failsafe}
use Rattle.lease_book.specs.Flights as lease_causes
use Rattle.lease_book.specs.Flights.{Rises}
use Rattle.commit_actions.specs.Keys.{SyncKey}
use Rattle.commit_actions.specs.Flights.{Aim, ClaimSync, CreateLeader, PublishStandbys, SyncRequest, Flying, Requested, LeaseGranted, SnapshotSent}
use Rattle.commit_actions.specs.Actions.{sync_key_by}
use Rattle.commit_actions.specs.Past.{Past, Query, LeaseQuery, CarryQuery, SyncQuery, OtherQuery, first_past, query_of, query_sent, is_keyless, is_leaderless, failsafe_revision_of, leader_revision, lease_grant_of, sync_grant_of, request_grant_of, snapshot_of, grant_in_flight_of, answer_in_flight_of, query_in_flight_of, request_in_flight_of, race_answer_of, peer_in_flight_of, flying_of, past_after}
use Rattle.commit_book.specs.Keys.{sync_key_of, IsSameKeys}
use Rattle.commit_book.specs.Flights.{past_at_sending, flying_if, is_leasing, IsNamed, HasWritten, IsWritten, AnswersBody, Answers, IsAnswered, IsSameFlight}
use Rattle.commit_book.proofs.Keys.{sync-present}

pub flight-first : (logs : Logs) (required : List Required) (confirmed : List (List (Option Lsn))) (first : Settings)
    (names : List Name) (base : ℕ) → IsSameFlight (first_past logs required confirmed) (start_of first names base)
flight-first logs required confirmed first names base = record {
  lease = lease_flights.flight-first first names base;
  same = λ i. refl;
  asked = λ i above. refl;
  kept = λ i carried e. absurd (none-some carried e);
  answers = λ i carried e. absurd (none-some carried e);
}

-- ---- what commits read of a message as it is sent: two pasts that agree on these parts tell it alike
record ReadsSame (p q : Past) : Type 0 where
  sync : p.sync ≡ q.sync
  leader : p.lease.leader ≡ q.lease.leader
  failsafe : p.lease.failsafe ≡ q.lease.failsafe

-- and on these, where it grants the request of this number
record GrantsSame (p q : Past) (request : ℕ) : Type 0 where
  reads : ReadsSame p q
  revision : p.lease.revision ≡ q.lease.revision
  asked : p.asked request ≡ q.asked request

abbrev SameBody : Past → Past → Body → Type 0
SameBody p q bodies.Snapshot = ReadsSame p q
SameBody p q (bodies.Granted request leased) = GrantsSame p q request
SameBody p q _ = Unit {0}

abbrev Same : Past → Past → LinkEnd → LinkEnd → Body → Type 0
Same p q ends.Store (ends.Member member) body = SameBody p q body
Same p q _ to body = Unit {0}

lease-same : (p q : Past) (m incarnation sequence : ℕ) → p.lease.revision ≡ q.lease.revision → ReadsSame p q
    → lease_grant_of p m incarnation sequence ≡ lease_grant_of q m incarnation sequence
lease-same p q m incarnation sequence revision reads =
    ap (λ (r : ℕ). Some
    (LeaseGranted (record { member = m; incarnation = incarnation; sequence = sequence; revision = r; sync = p.sync })))
    revision
    ∙ ap (λ (k : Option SyncKey). Some (LeaseGranted (record {
      member = m;
      incarnation = incarnation;
      sequence = sequence;
      revision = q.lease.revision;
      sync = k;
    }))) reads.sync

snapshot-same : (p q : Past) (keyless leaderless : Bool) → ReadsSame p q
    → snapshot_of p keyless leaderless ≡ snapshot_of q keyless leaderless
snapshot-same p q keyless leaderless reads =
    ap (λ (k : Option SyncKey). Some (SnapshotSent (record {
      sync = k;
      keyless = keyless;
      leaderless = leaderless;
      failsafe_revision = failsafe_revision_of p.lease.failsafe;
    }))) reads.sync
    ∙ ap (λ (f : Option FailsafeKey). Some (SnapshotSent (record {
      sync = q.sync;
      keyless = keyless;
      leaderless = leaderless;
      failsafe_revision = failsafe_revision_of f;
    }))) reads.failsafe

request-same : (p q : Past) (request : SyncRequest) (aim : Aim) → p.lease.revision ≡ q.lease.revision
    → ReadsSame p q → request_grant_of p request aim ≡ request_grant_of q request aim
request-same p q request CreateLeader revision reads =
    lease-same p q request.member request.incarnation request.sequence revision reads
request-same p q request ClaimSync revision reads = ap (λ (k : Option SyncKey). sync_grant_of k request) reads.sync
request-same p q request (PublishStandbys standbys quorum) revision reads =
    ap (λ (k : Option SyncKey). sync_grant_of k request) reads.sync

granted-same : (p q : Past) (m incarnation sequence : ℕ) (query : Query) → p.lease.revision ≡ q.lease.revision
    → ReadsSame p q
    → grant_in_flight_of p m incarnation sequence query ≡ grant_in_flight_of q m incarnation sequence query
granted-same p q m incarnation sequence LeaseQuery revision reads = lease-same p q m incarnation sequence revision reads
granted-same p q m incarnation sequence (CarryQuery by compared) revision reads =
    lease-same p q m incarnation sequence revision reads
granted-same p q m incarnation sequence (SyncQuery request) revision reads =
    request-same p q request request.aim revision reads
granted-same p q m incarnation sequence OtherQuery revision reads = snapshot-same p q false false reads

answer-same : (p q : Past) (m incarnation sequence : ℕ) (body : Body) → SameBody p q body
    → answer_in_flight_of p m incarnation sequence body ≡ answer_in_flight_of q m incarnation sequence body
answer-same p q m incarnation sequence bodies.Snapshot is =
    ap (λ (l : Option LeaderKey). snapshot_of p (is_keyless l p.lease.failsafe) (is_leaderless l)) is.leader
    ∙ ap (λ (f : Option FailsafeKey). snapshot_of p (is_keyless q.lease.leader f) (is_leaderless q.lease.leader))
    is.failsafe
    ∙ snapshot-same p q (is_keyless q.lease.leader q.lease.failsafe) (is_leaderless q.lease.leader) is
answer-same p q m incarnation sequence (bodies.Granted request leased) is =
    granted-same p q m incarnation sequence (p.asked request) is.revision is.reads
    ∙ ap (λ (query : Query). grant_in_flight_of q m incarnation sequence query) is.asked
answer-same p q m incarnation sequence _ is = refl

flying-same : (p q : Past) (from to : LinkEnd) (incarnation sequence : ℕ) (body : Body) → Same p q from to body
    → flying_of p from to incarnation sequence body ≡ flying_of q from to incarnation sequence body
flying-same p q (ends.Member by) ends.Store incarnation sequence body is = refl
flying-same p q ends.Store (ends.Member member) incarnation sequence body is =
    answer-same p q member.id.number incarnation sequence body is
flying-same p q (ends.Member by) (ends.Member member) incarnation sequence body is = refl
flying-same p q ends.Store ends.Store incarnation sequence body is = refl

-- ---- and so what a grant answers
wrote-same : (p q : Past) (request : SyncRequest) (aim : Aim) → p.lease.revision ≡ q.lease.revision
    → ReadsSame p q → HasWritten p request aim → HasWritten q request aim
wrote-same p q request CreateLeader revision reads is =
    sym (ap leader_revision reads.leader) ∙ is ∙ ap (λ (r : ℕ). Some r) revision
wrote-same p q request ClaimSync revision reads is =
    sym reads.sync ∙ is ∙ ap (λ (r : ℕ). Some (sync_key_by request.member r ClaimSync)) revision
wrote-same p q request (PublishStandbys standbys quorum) revision reads is =
    sym reads.sync ∙ is ∙ ap (λ (r : ℕ). Some (sync_key_by request.member r (PublishStandbys standbys quorum))) revision

written-same : (p q : Past) (query : Query) → p.lease.revision ≡ q.lease.revision → ReadsSame p q
    → IsWritten p query → IsWritten q query
written-same p q LeaseQuery revision reads is =
    sym (ap leader_revision reads.leader) ∙ is ∙ ap (λ (r : ℕ). Some r) revision
written-same p q (CarryQuery by compared) revision reads is =
    sym (ap leader_revision reads.leader) ∙ is ∙ ap (λ (r : ℕ). Some r) revision
written-same p q (SyncQuery request) revision reads is = wrote-same p q request request.aim revision reads is
written-same p q OtherQuery revision reads is = tt

answers-body-same : (p q : Past) (last more m incarnation sequence : ℕ) (body : Body) → last ≤ more → SameBody p q body
    → AnswersBody p last m incarnation sequence body → AnswersBody q more m incarnation sequence body
answers-body-same p q last more m incarnation sequence (bodies.Granted request leased) later is old = record {
  before = omega (arith, later, old.before);
  named = subst (λ (query : Query). IsNamed m incarnation sequence query) is.asked old.named;
  leasing = ap is_leasing (sym is.asked) ∙ old.leasing;
  written = subst (λ (query : Query). IsWritten q query) is.asked
      (written-same p q (p.asked request) is.revision is.reads old.written);
}
answers-body-same p q last more m incarnation sequence _ later is old = tt

answers-same : (p q : Past) (last more : ℕ) (from to : LinkEnd) (incarnation sequence : ℕ) (body : Body)
    → last ≤ more → Same p q from to body → Answers p last from to incarnation sequence body
    → Answers q more from to incarnation sequence body
answers-same p q last more (ends.Member by) to incarnation sequence body later is old = tt
answers-same p q last more ends.Store ends.Store incarnation sequence body later is old = tt
answers-same p q last more ends.Store (ends.Member member) incarnation sequence body later is old =
    answers-body-same p q last more member.id.number incarnation sequence body later is old

-- ---- a message that is sent carries the keys as they are
-- what is carried with a message of this body
abbrev Carried : Facts → Message → LinkEnd → Body → InFlightFacts
Carried facts message to body = record {
  message = message;
  sent = record { 0 = facts.clock };
  snapshot = snapshot_for body (present_pairs facts.clock facts.keys.pairs);
  grant = grant_for body to facts.keys.revision;
}

-- these requests are those up to the last, and more
abbrev Keeps : ℕ → (ℕ → Query) → (ℕ → Query) → Type 0
Keeps last asked more = (i : ℕ) → i ≤ last → asked i ≡ more i

snapshot-sync : (past : Past) (facts : Facts) → IsSameKeys past facts
    → past.sync ≡ sync_key_of (find key_cmp keys.Sync (present_pairs facts.clock facts.keys.pairs))
snapshot-sync past facts same = same.sync ∙ ap sync_key_of (sym (sync-present facts.clock past facts same))

sent-body : (past : Past) (facts : Facts) (more : ℕ → Query) (message : Message) (member : Member)
    (incarnation sequence : ℕ) (body : Body) → IsSameKeys past facts → Keeps facts.sent past.asked more
    → AnswersBody past facts.sent member.id.number incarnation sequence body
    → SameBody past (past_at_sending more (Carried facts message (ends.Member member) body)) body
sent-body past facts more message member incarnation sequence bodies.Snapshot same keeps answers = record {
  sync = snapshot-sync past facts same;
  leader = snapshot-leader past.lease facts same.lease;
  failsafe = snapshot-failsafe past.lease facts same.lease;
}
sent-body past facts more message member incarnation sequence (bodies.Granted request leased) same keeps answers =
    record {
      reads = record {
        sync = snapshot-sync past facts same;
        leader = snapshot-leader past.lease facts same.lease;
        failsafe = snapshot-failsafe past.lease facts same.lease;
      };
      revision = same.lease.revision;
      asked = keeps request answers.before;
    }
sent-body past facts more message member incarnation sequence _ same keeps answers = tt

sent-reads : (past : Past) (facts : Facts) (more : ℕ → Query) (message : Message) (from to : LinkEnd)
    (incarnation sequence : ℕ) (body : Body) → IsSameKeys past facts → Keeps facts.sent past.asked more
    → Answers past facts.sent from to incarnation sequence body
    → Same past (past_at_sending more (Carried facts message to body)) from to body
sent-reads past facts more message (ends.Member by) to incarnation sequence body same keeps answers = tt
sent-reads past facts more message ends.Store ends.Store incarnation sequence body same keeps answers = tt
sent-reads past facts more message ends.Store (ends.Member member) incarnation sequence body same keeps answers =
    sent-body past facts more message member incarnation sequence body same keeps answers

-- ---- more requests are asked
grown-body : (last : ℕ) (asked more : ℕ → Query) (carried : InFlightFacts) (m incarnation sequence : ℕ) (body : Body)
    → Keeps last asked more → AnswersBody (past_at_sending asked carried) last m incarnation sequence body
    → SameBody (past_at_sending asked carried) (past_at_sending more carried) body
grown-body last asked more carried m incarnation sequence bodies.Snapshot keeps is =
    record { sync = refl; leader = refl; failsafe = refl }
grown-body last asked more carried m incarnation sequence (bodies.Granted request leased) keeps is = record {
  reads = record { sync = refl; leader = refl; failsafe = refl };
  revision = refl;
  asked = keeps request is.before;
}
grown-body last asked more carried m incarnation sequence _ keeps is = tt

grown-reads : (last : ℕ) (asked more : ℕ → Query) (carried : InFlightFacts) (from to : LinkEnd)
    (incarnation sequence : ℕ) (body : Body) → Keeps last asked more
    → Answers (past_at_sending asked carried) last from to incarnation sequence body
    → Same (past_at_sending asked carried) (past_at_sending more carried) from to body
grown-reads last asked more carried (ends.Member by) to incarnation sequence body keeps is = tt
grown-reads last asked more carried ends.Store ends.Store incarnation sequence body keeps is = tt
grown-reads last asked more carried ends.Store (ends.Member member) incarnation sequence body keeps is =
    grown-body last asked more carried member.id.number incarnation sequence body keeps is

abbrev AnswersCarried : (ℕ → Query) → ℕ → InFlightFacts → Type 0
AnswersCarried asked last carried = Answers (past_at_sending asked carried) last carried.message.from
    carried.message.to carried.message.incarnation carried.message.sequence carried.message.body

answers-grown : (last number : ℕ) (asked more : ℕ → Query) (carried : InFlightFacts) → last ≤ number
    → Keeps last asked more → AnswersCarried asked last carried → AnswersCarried more number carried
answers-grown last number asked more carried later keeps is =
    answers-same (past_at_sending asked carried) (past_at_sending more carried) last number carried.message.from
    carried.message.to carried.message.incarnation carried.message.sequence carried.message.body later
    (grown-reads last asked more carried carried.message.from carried.message.to carried.message.incarnation
    carried.message.sequence carried.message.body keeps is)
    is

flying-grown : (last : ℕ) (asked more : ℕ → Query) (found : Option InFlightFacts) → Keeps last asked more
    → ((carried : InFlightFacts) → found ≡ Some carried → AnswersCarried asked last carried)
    → flying_if asked found ≡ flying_if more found
flying-grown last asked more None keeps is = refl
flying-grown last asked more (Some carried) keeps is =
    flying-same (past_at_sending asked carried) (past_at_sending more carried) carried.message.from
    carried.message.to carried.message.incarnation carried.message.sequence carried.message.body
    (grown-reads last asked more carried carried.message.from carried.message.to carried.message.incarnation
    carried.message.sequence carried.message.body keeps (is carried refl))

-- ---- a message is sent
abbrev AsksBody : InFlightFacts → Query
AsksBody carried =
    query_sent carried.message.from carried.message.incarnation carried.message.sequence carried.message.body

-- the requests so far with what this message asks
abbrev More : Past → ℕ → Message → ℕ → Query
More past number message =
    put_at past.asked number (query_sent message.from message.incarnation message.sequence message.body)

keeps-sent : (past : Past) (facts : Facts) (number : ℕ) (message : Message) → facts.sent < number
    → Keeps facts.sent past.asked (More past number message)
keeps-sent past facts number message above i small =
    sym (put-there past.asked number (query_sent message.from message.incarnation message.sequence message.body) i
    (λ e. omega (arith, e, above, small)))

sent-at : (past : Past) (facts : Facts) (number : ℕ) (message : Message) (i : ℕ) (b : Bool)
    → IsSameKeys past facts → IsSameFlight past facts → facts.sent < number
    → Answers past facts.sent message.from message.to message.incarnation message.sequence message.body
    → cond b (flying_of past message.from message.to message.incarnation message.sequence message.body) (past.flight i)
    ≡ flying_if (More past number message)
    (cond b (Some (launched facts.clock facts.keys message)) (in_flight facts.flight i))
sent-at past facts number message i true same old above answers =
    let more : (ℕ → Query) = More past number message in
    flying-same past (past_at_sending more (launched facts.clock facts.keys message)) message.from message.to
    message.incarnation message.sequence message.body
    (sent-reads past facts more message message.from message.to message.incarnation message.sequence message.body same
    (keeps-sent past facts number message above) answers)
sent-at past facts number message i false same old above answers =
    old.same i
    ∙ flying-grown facts.sent past.asked (More past number message) (in_flight facts.flight i)
    (keeps-sent past facts number message above) (old.answers i)

flight-sent : (past : Past) (facts : Facts) (number : ℕ) (message : Message)
    → lease_causes.IsCausal past.lease facts (kinds.Message (Sent number message))
    → IsAnswered past facts (kinds.Message (Sent number message))
    → IsSameKeys past facts → IsSameFlight past facts
    → IsSameFlight (past_after past (kinds.Message (Sent number message)))
    (facts_after facts (kinds.Message (Sent number message)))
flight-sent past facts number message causal answers same old =
    let above = causal.0 in
    let query : Query = query_sent message.from message.incarnation message.sequence message.body in
    let more : (ℕ → Query) = More past number message in
    let one : InFlightFacts = launched facts.clock facts.keys message in
    let keeps : Keeps facts.sent past.asked more = keeps-sent past facts number message above in
    record {
      lease =
          lease_flights.flight-by past.lease facts (kinds.Message (Sent number message)) causal same.lease old.lease;
      same = λ i. sent-at past facts number message i (i == number) same old above answers
          ∙ ap (λ (o : Option InFlightFacts). flying_if more o) (sym (in-with facts.flight number one i));
      asked = λ i high. put-there past.asked number query i (λ e. omega (arith, e, high))
          ∙ old.asked i (omega (arith, above, high));
      kept = λ i carried e.
          put-all (in_flight facts.flight) number (Some one) (λ n o. o ≡ Some carried → more n ≡ AsksBody carried)
          (λ is. put-here past.asked number query ∙ ap AsksBody (some-is one carried is))
          (λ n other is. put-there past.asked number query n other ∙ old.kept n carried is) i
          (sym (in-with facts.flight number one i) ∙ e);
      answers = λ i carried e. put-all (in_flight facts.flight) number (Some one)
          (λ n o. o ≡ Some carried → AnswersCarried more number carried)
          (λ is. subst (λ (c : InFlightFacts). AnswersCarried more number c) (some-is one carried is)
          (answers-same past (past_at_sending more one) facts.sent number message.from message.to
          message.incarnation message.sequence message.body (omega (arith, above))
          (sent-reads past facts more message message.from message.to message.incarnation message.sequence
          message.body same keeps answers)
          answers))
          (λ n other is. answers-grown facts.sent number past.asked more carried (omega (arith, above)) keeps
          (old.answers n carried is))
          i (sym (in-with facts.flight number one i) ∙ e);
    }

-- ---- a message is in flight no more
gone-at : (past : Past) (facts : Facts) (i : ℕ) (b : Bool) → IsSameFlight past facts
    → cond b None (past.flight i) ≡ flying_if past.asked (cond b None (in_flight facts.flight i))
gone-at past facts i true old = refl
gone-at past facts i false old = old.same i

-- what is in flight without this message was so with it
found-before : (facts : Facts) (number i : ℕ) (carried : InFlightFacts) → Rises 0 facts.flight
    → in_flight (without_message facts.flight number) i ≡ Some carried → in_flight facts.flight i ≡ Some carried
found-before facts number i carried order e =
    dropped (in_flight facts.flight) number i carried (sym (in-without 0 facts.flight number i order) ∙ e)

gone-same : (past : Past) (facts : Facts) (number i : ℕ) → IsSameFlight past facts
    → put_at past.flight number None i ≡ flying_if past.asked (in_flight (without_message facts.flight number) i)
gone-same past facts number i old =
    gone-at past facts i (i == number) old
    ∙ ap (λ (o : Option InFlightFacts). flying_if past.asked o)
    (sym (in-without 0 facts.flight number i old.lease.order))

pub flight-by : (past : Past) (facts : Facts) (kind : EventKind) → lease_causes.IsCausal past.lease facts kind
    → IsAnswered past facts kind → IsSameKeys past facts → IsSameFlight past facts
    → IsSameFlight (past_after past kind) (facts_after facts kind)
flight-by past facts (kinds.Message (Sent number message)) causal answers same old =
    flight-sent past facts number message causal answers same old
flight-by past facts (kinds.Message (Delivered number)) causal answers same old = record {
  lease = lease_flights.flight-by past.lease facts (kinds.Message (Delivered number)) tt same.lease old.lease;
  same = λ i. gone-same past facts number i old;
  asked = old.asked;
  kept = λ i carried e. old.kept i carried (found-before facts number i carried old.lease.order e);
  answers = λ i carried e. old.answers i carried (found-before facts number i carried old.lease.order e);
}
flight-by past facts (kinds.Message (Lost number)) causal answers same old = record {
  lease = lease_flights.flight-by past.lease facts (kinds.Message (Lost number)) tt same.lease old.lease;
  same = λ i. gone-same past facts number i old;
  asked = old.asked;
  kept = λ i carried e. old.kept i carried (found-before facts number i carried old.lease.order e);
  answers = λ i carried e. old.answers i carried (found-before facts number i carried old.lease.order e);
}
flight-by past facts kind causal answers same old = record {
  lease = lease_flights.flight-by past.lease facts kind tt same.lease old.lease;
  same = old.same;
  asked = old.asked;
  kept = old.kept;
  answers = old.answers;
}

-- ---- what is in flight, and that it was asked
pub heard : (past : Past) (facts : Facts) (i : ℕ) (carried : InFlightFacts) (message : Message)
    → IsSameFlight past facts → in_flight facts.flight i ≡ Some carried → carried.message ≡ message
    → past.flight i
    ≡ flying_of (past_at_sending past.asked carried) message.from message.to message.incarnation
    message.sequence message.body
heard past facts i carried message same here is =
    same.same i ∙ ap (λ (o : Option InFlightFacts). flying_if past.asked o) here
    ∙ ap (λ (m : Message). flying_of (past_at_sending past.asked carried) m.from m.to m.incarnation m.sequence m.body)
    is

pub request-asked : (past : Past) (facts : Facts) (i : ℕ) (carried : InFlightFacts) (by : Member)
    (incarnation sequence : ℕ) (txn : Txn) → IsSameFlight past facts → in_flight facts.flight i ≡ Some carried
    → carried.message ≡ record {
      from = ends.Member by;
      to = ends.Store;
      incarnation = incarnation;
      sequence = sequence;
      body = bodies.Request txn;
    }
    → past.asked i ≡ query_of by.id.number incarnation sequence txn
request-asked past facts i carried by incarnation sequence txn same here is =
    same.kept i carried here ∙ ap (λ (m : Message). query_sent m.from m.incarnation m.sequence m.body) is

-- an answer, to a request or in a race, is no request
none-requested : (w : SyncRequest) → ◌≡◌ {A = Option Flying} None (Some (Requested w)) → ⊥
none-requested w e = cc

requested-is : (v w : SyncRequest) → ◌≡◌ {A = Option Flying} (Some (Requested v)) (Some (Requested w)) → v ≡ w
requested-is v w e = cc

lease-requested : (p : Past) (m incarnation sequence : ℕ) (w : SyncRequest)
    → lease_grant_of p m incarnation sequence ≡ Some (Requested w) → ⊥
lease-requested p m incarnation sequence w e = cc

snapshot-requested : (p : Past) (keyless leaderless : Bool) (w : SyncRequest)
    → snapshot_of p keyless leaderless ≡ Some (Requested w) → ⊥
snapshot-requested p keyless leaderless w e = cc

write-requested : (sync : Option SyncKey) (request w : SyncRequest)
    → sync_grant_of sync request ≡ Some (Requested w) → ⊥
write-requested None request w e = none-requested w e
write-requested (Some key) request w e = cc

grant-requested : (p : Past) (request : SyncRequest) (aim : Aim) (w : SyncRequest)
    → request_grant_of p request aim ≡ Some (Requested w) → ⊥
grant-requested p request CreateLeader w e = lease-requested p request.member request.incarnation request.sequence w e
grant-requested p request ClaimSync w e = write-requested p.sync request w e
grant-requested p request (PublishStandbys standbys quorum) w e = write-requested p.sync request w e

granted-requested : (p : Past) (m incarnation sequence : ℕ) (query : Query) (w : SyncRequest)
    → grant_in_flight_of p m incarnation sequence query ≡ Some (Requested w) → ⊥
granted-requested p m incarnation sequence LeaseQuery w e = lease-requested p m incarnation sequence w e
granted-requested p m incarnation sequence (CarryQuery by compared) w e = lease-requested p m incarnation sequence w e
granted-requested p m incarnation sequence (SyncQuery request) w e = grant-requested p request request.aim w e
granted-requested p m incarnation sequence OtherQuery w e = snapshot-requested p false false w e

answer-requested : (p : Past) (m incarnation sequence : ℕ) (body : Body) (w : SyncRequest)
    → answer_in_flight_of p m incarnation sequence body ≡ Some (Requested w) → ⊥
answer-requested p m incarnation sequence bodies.Snapshot w e =
    snapshot-requested p (is_keyless p.lease.leader p.lease.failsafe) (is_leaderless p.lease.leader) w e
answer-requested p m incarnation sequence (bodies.Granted request leased) w e =
    granted-requested p m incarnation sequence (p.asked request) w e
answer-requested p m incarnation sequence _ w e = none-requested w e

race-requested : (by m incarnation sequence : ℕ) (end : Option Lsn) (w : SyncRequest)
    → race_answer_of by m incarnation sequence end ≡ Some (Requested w) → ⊥
race-requested by m incarnation sequence None w e = none-requested w e
race-requested by m incarnation sequence (Some end) w e = cc

peer-requested : (by m incarnation sequence : ℕ) (body : Body) (w : SyncRequest)
    → peer_in_flight_of by m incarnation sequence body ≡ Some (Requested w) → ⊥
peer-requested by m incarnation sequence (bodies.Answer answer) w e =
    race-requested by m incarnation sequence answer.end w e
peer-requested by m incarnation sequence _ w e = none-requested w e

query-from : (query : Query) (w : SyncRequest) → query_in_flight_of query ≡ Some (Requested w) → query ≡ SyncQuery w
query-from (SyncQuery request) w e = ap (λ (x : SyncRequest). SyncQuery x) (requested-is request w e)
query-from LeaseQuery w e = absurd (none-requested w e)
query-from (CarryQuery by compared) w e = absurd (none-requested w e)
query-from OtherQuery w e = absurd (none-requested w e)

asked-body : (m incarnation sequence : ℕ) (body : Body) (w : SyncRequest)
    → request_in_flight_of m incarnation sequence body ≡ Some (Requested w) → (member : Member)
    → member.id.number ≡ m → query_sent (ends.Member member) incarnation sequence body ≡ SyncQuery w
asked-body m incarnation sequence (bodies.Request txn) w e member is =
    ap (λ (n : ℕ). query_of n incarnation sequence txn) is ∙ query-from (query_of m incarnation sequence txn) w e
asked-body m incarnation sequence _ w e member is = absurd (none-requested w e)

asked-from : (p : Past) (from to : LinkEnd) (incarnation sequence : ℕ) (body : Body) (w : SyncRequest)
    → flying_of p from to incarnation sequence body ≡ Some (Requested w)
    → query_sent from incarnation sequence body ≡ SyncQuery w
asked-from p (ends.Member by) ends.Store incarnation sequence body w e =
    asked-body by.id.number incarnation sequence body w e by refl
asked-from p ends.Store (ends.Member member) incarnation sequence body w e =
    absurd (answer-requested p member.id.number incarnation sequence body w e)
asked-from p (ends.Member by) (ends.Member member) incarnation sequence body w e =
    absurd (peer-requested by.id.number member.id.number incarnation sequence body w e)
asked-from p ends.Store ends.Store incarnation sequence body w e = absurd (none-requested w e)

asked-if : (asked : ℕ → Query) (found : Option InFlightFacts) (w : SyncRequest)
    → flying_if asked found ≡ Some (Requested w)
    → (carried : InFlightFacts) × ((found ≡ Some carried) × (AsksBody carried ≡ SyncQuery w))
asked-if asked None w e = absurd (none-requested w e)
asked-if asked (Some carried) w e = (
  carried,
  (
    refl,
    asked-from (past_at_sending asked carried) carried.message.from carried.message.to
        carried.message.incarnation carried.message.sequence carried.message.body w e,
  ),
)

pub requested-asked : (past : Past) (facts : Facts) (i : ℕ) (request : SyncRequest) → IsSameFlight past facts
    → past.flight i ≡ Some (Requested request) → past.asked i ≡ SyncQuery request
requested-asked past facts i request same at =
    let found = asked-if past.asked (in_flight facts.flight i) request (sym (same.same i) ∙ at) in
    same.kept i found.0 found.1.0 ∙ found.1.1

pub request-flying : (past : Past) (facts : Facts) (i : ℕ) (carried : InFlightFacts) (by : Member)
    (incarnation sequence : ℕ) (txn : Txn) → IsSameFlight past facts → in_flight facts.flight i ≡ Some carried
    → carried.message ≡ record {
      from = ends.Member by;
      to = ends.Store;
      incarnation = incarnation;
      sequence = sequence;
      body = bodies.Request txn;
    }
    → past.flight i ≡ query_in_flight_of (query_of by.id.number incarnation sequence txn)
request-flying past facts i carried by incarnation sequence txn same here is = heard past facts i carried (record {
  from = ends.Member by;
  to = ends.Store;
  incarnation = incarnation;
  sequence = sequence;
  body = bodies.Request txn;
}) same here is
