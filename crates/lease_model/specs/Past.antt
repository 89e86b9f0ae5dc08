-- What the events of a book determine of the lease, each part by a small definition of its own.
use Rattle.std.specs.Prelude.{ℕ, ◌+◌, max, Bool, true, false, List, [], ◌∷◌, Option, Some, None}
use Rattle.pat_base.specs.declared.member_set.MemberSet.{MemberSet}
use Rattle.store_keys.specs.declared.txn.Txn.{Txn}
use Rattle.store_keys.specs.declared.txn.LeaseTxn.{LeaseTxn}
use Rattle.store_keys.specs.declared.txn.Txn.TheVariants as txns
use Rattle.store_keys.specs.declared.txn.LeaseTxn.TheVariants as lease_txns
use Rattle.event_book.specs.declared.event.Event.{Event}
use Rattle.event_book.specs.declared.event.EventKind.{EventKind}
use Rattle.event_book.specs.declared.event.EventKind.TheVariants as kinds
use Rattle.event_book.specs.declared.event.MessageEvent.{MessageEvent}
use Rattle.event_book.specs.declared.event.MessageEvent.TheVariants.{Sent, Delivered, Lost}
use Rattle.event_book.specs.declared.event.StoreEvent.TheVariants as stores
use Rattle.event_book.specs.declared.event.WatchdogEvent.{WatchdogEvent}
use Rattle.event_book.specs.declared.event.WatchdogEvent.TheVariants as watchdogs
use Rattle.event_book.specs.declared.link.LinkEnd.{LinkEnd}
use Rattle.event_book.specs.declared.link.LinkEnd.TheVariants as ends
use Rattle.event_book.specs.declared.message.Body.{Body}
use Rattle.event_book.specs.declared.message.Body.TheVariants as bodies
use Rattle.event_book.specs.Clock.{now_after}
use Rattle.event_book.specs.Functions.{put_at, set_members}
use Rattle.event_book.specs.Premises.{Taking, moments_sent_after, taken_after, runs_after}
use Rattle.event_book.specs.Watchdogs.{is_acknowledged}
use Rattle.event_book.specs.Writers.{writes_after}
use Rattle.lease_model.specs.Leases.{LeaderKey, FailsafeKey, Query, Create, Renew, Release, Write, Read, Question, Grant, Answer, Flying, Requested, Answered, FailsafeRequested, Acknowledged}
use Rattle.lease_model.specs.Outcomes.{seen_of, shown_if, failsafe_carried, renewed}
use Rattle.lease_model.specs.States.{Agent, Machine, Declared, State, leader_kept, fresh_agent}

-- the same of a set that may be absent
abbrev pub members_if : Option MemberSet → Option (ℕ → Bool)
members_if None = None
members_if (Some set) = Some (set_members set)

-- what the lease reads of a transaction on the leader key
abbrev pub lease_query : LeaseTxn → Query
lease_query (lease_txns.Create info ttl failsafe sync) = Create ttl.0 failsafe
lease_query (lease_txns.Renew revision info ttl status row failsafe) = Renew revision ttl.0 (members_if failsafe)
lease_query (lease_txns.Release revision) = Release revision

-- of any: the others write
abbrev pub query_of : Txn → Query
query_of (txns.Lease txn) = lease_query txn
query_of _ = Write

-- the ttl that a create or a renewal asks for, in ticks; 0 for other questions
abbrev pub lease_span : Query → ℕ
lease_span (Create ttl expected) = ttl
lease_span (Renew revision ttl carried) = ttl
lease_span _ = 0

-- what a book determines
pub record Past : Type 0 where
  pub clock : ℕ
  pub leader : Option LeaderKey
  pub failsafe : Option FailsafeKey
  pub revision : ℕ
  -- every question to the key store so far, by the number of its message
  pub asked : ℕ → Option Question
  -- the moment at which each message was sent
  pub sent : ℕ → Option ℕ
  pub flight : ℕ → Option Flying
  pub deadline : ℕ → Option ℕ
  pub by_failsafe : ℕ → Bool
  pub hold : ℕ → ℕ
  pub taken : List Taking
  pub runs : ℕ → ℕ
  pub writes : ℕ → Bool

-- the leader key after a renewal granted at this moment, if there is the key
abbrev pub extended_by : ℕ → ℕ → ℕ → Option LeaderKey → Option LeaderKey
extended_by clock revision ttl None = None
extended_by clock revision ttl (Some key) = Some (renewed clock revision ttl key)

-- the leader key after a granted question of this member: created, extended, released, or as it was
abbrev pub leader_granted : ℕ → ℕ → Option LeaderKey → ℕ → Query → Option LeaderKey
leader_granted clock revision leader by (Create ttl expected) =
    Some (record { holder = by; revision = revision + 1; expiry = clock + ttl })
leader_granted clock revision leader by (Renew compared ttl carried) = extended_by clock (revision + 1) ttl leader
leader_granted clock revision leader by (Release compared) = None
leader_granted clock revision leader by _ = leader

-- the leader key after an event
abbrev pub leader_after : ℕ → ℕ → Option LeaderKey → EventKind → Option LeaderKey
leader_after clock revision leader kinds.Tick = leader_kept (clock + 1) leader
leader_after clock revision leader (kinds.Store (stores.Granted number by txn standbys)) =
    leader_granted clock revision leader by.id.number (query_of txn)
leader_after clock revision leader _ = leader

-- the failsafe key after a granted question: only a renewal may write it
abbrev pub failsafe_granted : ℕ → Option FailsafeKey → Query → Option FailsafeKey
failsafe_granted revision failsafe (Renew compared ttl carried) = failsafe_carried (revision + 1) carried failsafe
failsafe_granted revision failsafe _ = failsafe

-- the failsafe key after an event
abbrev pub failsafe_after : ℕ → Option FailsafeKey → EventKind → Option FailsafeKey
failsafe_after revision failsafe (kinds.Store (stores.Granted number by txn standbys)) =
    failsafe_granted revision failsafe (query_of txn)
failsafe_after revision failsafe _ = failsafe

-- the last granted revision, after an event
abbrev pub revision_after : ℕ → EventKind → ℕ
revision_after revision (kinds.Store (stores.Granted number by txn standbys)) = revision + 1
revision_after revision _ = revision

-- the grant that an answer tells: that of the last revision, to this question
abbrev pub grant_of : Bool → Past → Option Question → Option Grant
grant_of true past (Some request) = Some (record {
  revision = past.revision;
  sent = request.sent;
  moment = past.clock;
  ttl = lease_span request.query;
  failsafe = past.failsafe;
})
grant_of _ past _ = None

-- an answer to this member: with a snapshot it shows the keys as they are, and it may tell a grant
abbrev pub answer_of : Past → ℕ → ℕ → ℕ → Bool → Option Grant → Answer
answer_of past member incarnation sequence snapshot grant = record {
  member = member;
  incarnation = incarnation;
  sequence = sequence;
  leader = shown_if snapshot (seen_of past.leader);
  failsafe = shown_if snapshot past.failsafe;
  grant = grant;
}

-- a message of this member to the key store
abbrev pub question_in_flight_of : Past → ℕ → ℕ → ℕ → Body → Option Flying
question_in_flight_of past member incarnation sequence bodies.Read =
    Some (Requested
    (record { member = member; incarnation = incarnation; sequence = sequence; sent = past.clock; query = Read }))
question_in_flight_of past member incarnation sequence (bodies.Request txn) = Some (Requested (record {
  member = member;
  incarnation = incarnation;
  sequence = sequence;
  sent = past.clock;
  query = query_of txn;
}))
question_in_flight_of past member incarnation sequence _ = None

-- a message of the key store to this member
abbrev pub answer_in_flight_of : Past → ℕ → ℕ → ℕ → Body → Option Flying
answer_in_flight_of past member incarnation sequence bodies.Snapshot =
    Some (Answered (answer_of past member incarnation sequence true None))
answer_in_flight_of past member incarnation sequence (bodies.Granted request leased) =
    Some (Answered (answer_of past member incarnation sequence true (grant_of leased past (past.asked request))))
answer_in_flight_of past member incarnation sequence (bodies.Refused request key found) =
    Some (Answered (answer_of past member incarnation sequence false None))
answer_in_flight_of past member incarnation sequence _ = None

-- a message of the first member to the second
abbrev pub peer_in_flight_of : Past → ℕ → ℕ → ℕ → ℕ → Body → Option Flying
peer_in_flight_of past by member incarnation sequence (bodies.FailsafeRequest ttl) =
    Some (FailsafeRequested
    (record { member = by; incarnation = incarnation; sequence = sequence; ttl = ttl.0; sent = past.clock }))
peer_in_flight_of past by member incarnation sequence (bodies.FailsafeAnswer true) =
    Some (Acknowledged (record { member = member; incarnation = incarnation; sequence = sequence; by = by }))
peer_in_flight_of past by member incarnation sequence _ = None

-- what the lease reads of a message that is sent
abbrev pub flying_of : Past → LinkEnd → LinkEnd → ℕ → ℕ → Body → Option Flying
flying_of past (ends.Member member) ends.Store incarnation sequence body =
    question_in_flight_of past member.id.number incarnation sequence body
flying_of past ends.Store (ends.Member member) incarnation sequence body =
    answer_in_flight_of past member.id.number incarnation sequence body
flying_of past (ends.Member by) (ends.Member member) incarnation sequence body =
    peer_in_flight_of past by.id.number member.id.number incarnation sequence body
flying_of past ends.Store ends.Store incarnation sequence body = None

-- the questions so far, and the one that this message carries, if it is a question
abbrev pub asked_with : (ℕ → Option Question) → ℕ → Option Flying → ℕ → Option Question
asked_with asked number (Some (Requested request)) = put_at asked number (Some request)
asked_with asked number _ = asked

-- the messages in flight, after one is sent, delivered or lost
abbrev pub past_flight_by : Past → MessageEvent → ℕ → Option Flying
past_flight_by past (Sent number message) =
    put_at past.flight number (flying_of past message.from message.to message.incarnation message.sequence message.body)
past_flight_by past (Delivered number) = put_at past.flight number None
past_flight_by past (Lost number) = put_at past.flight number None

-- the questions so far, after a message is sent, delivered or lost
abbrev pub asked_by : Past → MessageEvent → ℕ → Option Question
asked_by past (Sent number message) = asked_with past.asked number
    (flying_of past message.from message.to message.incarnation message.sequence message.body)
asked_by past _ = past.asked

-- the messages in flight, after an event
abbrev pub past_flight_after : Past → EventKind → ℕ → Option Flying
past_flight_after past (kinds.Message happening) = past_flight_by past happening
past_flight_after past _ = past.flight

-- the questions so far, after an event
abbrev pub asked_after : Past → EventKind → ℕ → Option Question
asked_after past (kinds.Message happening) = asked_by past happening
asked_after past _ = past.asked

-- the deadline of each watchdog, after one is armed, fed or disarmed, or resets its machine
abbrev pub deadline_by : (ℕ → Option ℕ) → WatchdogEvent → ℕ → Option ℕ
deadline_by deadline (watchdogs.Armed member until answer) = put_at deadline member.id.number (Some until.0)
deadline_by deadline (watchdogs.Fed member until basis) = put_at deadline member.id.number (Some until.0)
deadline_by deadline (watchdogs.Disarmed member) = put_at deadline member.id.number None
deadline_by deadline (watchdogs.Reset member) = put_at deadline member.id.number None
deadline_by deadline _ = deadline

-- whose deadline acknowledgements set last, after a watchdog is armed or fed
abbrev pub by_failsafe_by : (ℕ → Bool) → WatchdogEvent → ℕ → Bool
by_failsafe_by by_failsafe (watchdogs.Armed member until answer) = put_at by_failsafe member.id.number false
by_failsafe_by by_failsafe (watchdogs.Fed member until basis) =
    put_at by_failsafe member.id.number (is_acknowledged basis)
by_failsafe_by by_failsafe _ = by_failsafe

-- when the hold of each member ends, after one takes a hold, which never ends earlier than the one before
abbrev pub hold_by : (ℕ → ℕ) → WatchdogEvent → ℕ → ℕ
hold_by hold (watchdogs.HoldTaken member until from incarnation sequence) =
    put_at hold member.id.number (max (hold member.id.number) until.0)
hold_by hold _ = hold

-- the deadline of each watchdog, after an event
abbrev pub deadline_after : (ℕ → Option ℕ) → EventKind → ℕ → Option ℕ
deadline_after deadline (kinds.Watchdog happening) = deadline_by deadline happening
deadline_after deadline _ = deadline

-- whose deadline acknowledgements set last, after an event
abbrev pub by_failsafe_after : (ℕ → Bool) → EventKind → ℕ → Bool
by_failsafe_after by_failsafe (kinds.Watchdog happening) = by_failsafe_by by_failsafe happening
by_failsafe_after by_failsafe _ = by_failsafe

-- when the hold of each member ends, after an event
abbrev pub hold_after : (ℕ → ℕ) → EventKind → ℕ → ℕ
hold_after hold (kinds.Watchdog happening) = hold_by hold happening
hold_after hold _ = hold

-- what one more event leaves
abbrev pub past_after : Past → EventKind → Past
past_after past kind = record {
  clock = now_after past.clock kind;
  leader = leader_after past.clock past.revision past.leader kind;
  failsafe = failsafe_after past.revision past.failsafe kind;
  revision = revision_after past.revision kind;
  asked = asked_after past kind;
  sent = moments_sent_after past.clock past.sent kind;
  flight = past_flight_after past kind;
  deadline = deadline_after past.deadline kind;
  by_failsafe = by_failsafe_after past.by_failsafe kind;
  hold = hold_after past.hold kind;
  taken = taken_after past.clock past.taken kind;
  runs = runs_after past.runs kind;
  writes = writes_after past.writes kind;
}

-- what a list of events leaves
abbrev pub past_over : Past → List Event → Past
past_over past [] = past
past_over past (event ∷ events) = past_over (past_after past event.kind) events

-- before the first event: there is no leader key and no failsafe key,
-- nothing is in flight, and each agent is in its first incarnation
abbrev pub first_past : Past
first_past = record {
  clock = 0;
  leader = None;
  failsafe = None;
  revision = 1;
  asked = λ i. None;
  sent = λ i. None;
  flight = λ i. None;
  deadline = λ m. None;
  by_failsafe = λ m. false;
  hold = λ m. 0;
  taken = [];
  runs = λ m. 1;
  writes = λ n. false;
}

-- what a book determines of the lease
abbrev pub past_of : List Event → Past
past_of book = past_over first_past book

-- what no event says of a member: whether its server is live, and its agent
pub record VolatileState : Type 0 where
  pub live : Bool
  pub agent : Option Agent

-- before the first event: the server isn't live, and the agent is in its first incarnation
abbrev pub first_volatile_state : VolatileState
first_volatile_state = record { live = false; agent = Some (fresh_agent 1) }

-- the machine of a member, by the book and by what no event says of it
abbrev pub machine_of : Past → VolatileState → ℕ → Machine
machine_of past volatile_state m = record {
  live = volatile_state.live;
  deadline = past.deadline m;
  by_failsafe = past.by_failsafe m;
  hold = past.hold m;
  agent = volatile_state.agent;
  runs = past.runs m;
}

-- the state that a book and the volatile states of its members are
abbrev pub state_of : Declared → Past → (ℕ → VolatileState) → State
state_of declared past volatile_states = record {
  declared = declared;
  clock = past.clock;
  leader = past.leader;
  failsafe = past.failsafe;
  revision = past.revision;
  flight = past.flight;
  taken = past.taken;
  members = λ m. machine_of past (volatile_states m) m;
  writes = past.writes;
}
