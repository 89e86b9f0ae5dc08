-- What the events of a book determine of commits, each part by a small definition of its own.
use Rattle.std.specs.Prelude.{ℕ, ◌+◌, ◌==◌, ◌||◌, Bool, true, false, List, [], ◌∷◌, Option, Some, None, slice_get}
use Rattle.pat_base.specs.declared.lsn.Lsn.{Lsn}
use Rattle.pat_base.specs.declared.member_set.MemberSet.{MemberSet}
use Rattle.pat_base.specs.declared.server_state.Required.{Required}
use Rattle.pat_base.specs.declared.server_state.Required.TheVariants as needs
use Rattle.store_keys.specs.declared.txn.Expected.{Expected}
use Rattle.store_keys.specs.declared.txn.Expected.TheVariants.{Absent, Revision}
use Rattle.store_keys.specs.declared.txn.Txn.{Txn}
use Rattle.store_keys.specs.declared.txn.LeaseTxn.{LeaseTxn}
use Rattle.store_keys.specs.declared.txn.SyncTxn.{SyncTxn}
use Rattle.store_keys.specs.declared.txn.Txn.TheVariants as txns
use Rattle.store_keys.specs.declared.txn.LeaseTxn.TheVariants as lease_txns
use Rattle.store_keys.specs.declared.txn.SyncTxn.TheVariants as sync_txns
use Rattle.wal_model.specs.declared.entry.Entry.{Entry}
use Rattle.pg_model.specs.Facts.{entries_of}
use Rattle.event_book.specs.declared.event.Event.{Event}
use Rattle.event_book.specs.declared.event.EventKind.{EventKind}
use Rattle.event_book.specs.declared.event.EventKind.TheVariants as kinds
use Rattle.event_book.specs.declared.event.MessageEvent.{MessageEvent}
use Rattle.event_book.specs.declared.event.MessageEvent.TheVariants.{Sent, Delivered, Lost}
use Rattle.event_book.specs.declared.event.ReplicationEvent.TheVariants as replications
use Rattle.event_book.specs.declared.event.StoreEvent.TheVariants as stores
use Rattle.event_book.specs.declared.link.LinkEnd.{LinkEnd}
use Rattle.event_book.specs.declared.link.LinkEnd.TheVariants as ends
use Rattle.event_book.specs.declared.message.Body.{Body}
use Rattle.event_book.specs.declared.message.Body.TheVariants as bodies
use Rattle.event_book.specs.Acknowledged.{acknowledged_after}
use Rattle.event_book.specs.Functions.{put_at, set_members}
use Rattle.event_book.specs.Logs.{Logs, logs_after}
use Rattle.event_book.specs.Required.{required_after, confirmed_after}
use Rattle.sync_order.specs.Grown.{grown_after}
use Rattle.lease_model.specs.Leases.{LeaderKey, FailsafeKey}
use Rattle.lease_model.specs.Past as lease_past
use Rattle.commit_actions.specs.Keys.{SyncKey, Confirmers, Nobody, All}
use Rattle.commit_actions.specs.Flights.{Aim, ClaimSync, PublishStandbys, CreateLeader, SyncRequest, Flying, Requested, LeaseGranted, SyncGranted, SnapshotSent, RaceAnswered}
use Rattle.commit_actions.specs.States.{Agent, Machine, State}
use Rattle.commit_actions.specs.Stored.{quorum_written}
use Rattle.commit_actions.specs.Actions.{fresh_agent, longer_log, sync_key_by}

-- what a compare expects: a revision, or absence
abbrev pub revision_in : Expected → Option ℕ
revision_in Absent = None
revision_in (Revision r) = Some r

-- what commits read of a request to the key store: it asks for the leader key, it compares the sync key, or neither
pub data Query : Type 0 where
  LeaseQuery : Query
  -- a renewal of this revision by this member, which carries a set for the failsafe key
  CarryQuery : (member revision : ℕ) → Query
  SyncQuery : SyncRequest → Query
  OtherQuery : Query

-- the requests that compare the sync key, by their member, its incarnation and its number
abbrev pub claim_request : ℕ → ℕ → ℕ → ℕ → Expected → SyncRequest
claim_request member incarnation sequence revision sync = record {
  member = member;
  incarnation = incarnation;
  sequence = sequence;
  leader = revision;
  sync = revision_in sync;
  aim = ClaimSync;
}

-- what a write of the sync key that publishes these standbys, and how many may lack a commit, aims at
abbrev pub published_aim : ℕ → Expected → MemberSet → Option ℕ → Aim
published_aim revision sync standbys may_lack =
    PublishStandbys (set_members standbys)
    (quorum_written (txns.Sync (sync_txns.SetSync revision sync standbys may_lack)))

-- such a write
abbrev pub publish_request : ℕ → ℕ → ℕ → ℕ → Expected → MemberSet → Option ℕ → SyncRequest
publish_request member incarnation sequence revision sync standbys may_lack = record {
  member = member;
  incarnation = incarnation;
  sequence = sequence;
  leader = revision;
  sync = revision_in sync;
  aim = published_aim revision sync standbys may_lack;
}

-- a create that compares the sync key
abbrev pub create_request : ℕ → ℕ → ℕ → Expected → SyncRequest
create_request member incarnation sequence sync = record {
  member = member;
  incarnation = incarnation;
  sequence = sequence;
  leader = 0;
  sync = revision_in sync;
  aim = CreateLeader;
}

-- a create, which may compare the sync key
abbrev pub create_query : ℕ → ℕ → ℕ → Option Expected → Query
create_query member incarnation sequence None = LeaseQuery
create_query member incarnation sequence (Some sync) = SyncQuery (create_request member incarnation sequence sync)

-- a renewal, which may carry a set for the failsafe key
abbrev pub renew_query : ℕ → ℕ → Option MemberSet → Query
renew_query member revision None = LeaseQuery
renew_query member revision (Some members) = CarryQuery member revision

-- what commits read of a transaction on the leader key
abbrev pub lease_query : ℕ → ℕ → ℕ → LeaseTxn → Query
lease_query member incarnation sequence (lease_txns.Create info ttl failsafe sync) =
    create_query member incarnation sequence sync
lease_query member incarnation sequence (lease_txns.Renew revision info ttl status row failsafe) =
    renew_query member revision failsafe
lease_query member incarnation sequence (lease_txns.Release revision) = OtherQuery

-- of one on the sync key, of which a removal publishes nothing
abbrev pub sync_query : ℕ → ℕ → ℕ → SyncTxn → Query
sync_query member incarnation sequence (sync_txns.Claim revision sync) =
    SyncQuery (claim_request member incarnation sequence revision sync)
sync_query member incarnation sequence (sync_txns.SetSync revision sync standbys may_lack) =
    SyncQuery (publish_request member incarnation sequence revision sync standbys may_lack)
sync_query member incarnation sequence (sync_txns.DropSync revision sync) = OtherQuery

-- of any
abbrev pub query_of : ℕ → ℕ → ℕ → Txn → Query
query_of member incarnation sequence (txns.Lease txn) = lease_query member incarnation sequence txn
query_of member incarnation sequence (txns.Sync txn) = sync_query member incarnation sequence txn
query_of member incarnation sequence _ = OtherQuery

-- what a book determines
pub record Past : Type 0 where
  -- what the law of one writer reads of it
  pub lease : lease_past.Past
  pub sync : Option SyncKey
  -- the holder of the leader key asked for a renewal that carries a set, which only a live leader does
  pub holder_was_live : Bool
  -- what each request so far asks, by the number of its message; the messages in flight
  pub asked : ℕ → Query
  pub flight : ℕ → Option Flying
  pub logs : Logs
  pub required : List Required
  -- where the logs ended when required lists last grew
  pub grown : ℕ → ℕ
  pub confirmed : List (List (Option Lsn))
  pub acknowledged_log : List Entry
  pub acknowledged : List ℕ

-- the sync key after a granted transaction of this member on it, under this revision
abbrev pub sync_written : ℕ → ℕ → SyncTxn → Option SyncKey
sync_written by revision (sync_txns.Claim leader expected) = Some (sync_key_by by revision ClaimSync)
sync_written by revision (sync_txns.SetSync leader expected standbys may_lack) =
    Some (sync_key_by by revision (published_aim leader expected standbys may_lack))
sync_written by revision (sync_txns.DropSync leader expected) = None

-- the sync key after any
abbrev pub sync_after_grant : ℕ → ℕ → Option SyncKey → Txn → Option SyncKey
sync_after_grant by revision sync (txns.Sync txn) = sync_written by revision txn
sync_after_grant by revision sync _ = sync

-- the sync key after an event
abbrev pub sync_after : ℕ → Option SyncKey → EventKind → Option SyncKey
sync_after revision sync (kinds.Store (stores.Granted number by txn standbys)) =
    sync_after_grant by.id.number (revision + 1) sync txn
sync_after revision sync _ = sync

-- there is neither a leader key nor a failsafe key
abbrev pub is_keyless : Option LeaderKey → Option FailsafeKey → Bool
is_keyless None None = true
is_keyless _ _ = false

-- there is no leader key
abbrev pub is_leaderless : Option LeaderKey → Bool
is_leaderless None = true
is_leaderless (Some key) = false

-- the member that the leader key names, 0 where there is none; whether that is this one
abbrev pub key_holder : Option LeaderKey → ℕ
key_holder None = 0
key_holder (Some key) = key.holder

-- the leader key names this member
abbrev pub is_holder : Option LeaderKey → ℕ → Bool
is_holder None m = false
is_holder (Some key) m = key.holder == m

-- the revision of the failsafe key
abbrev pub failsafe_revision_of : Option FailsafeKey → Option ℕ
failsafe_revision_of None = None
failsafe_revision_of (Some key) = Some key.revision

-- the holder of the leader key asks for a renewal that carries a set for the failsafe key; a create begins anew
abbrev pub was_live_by_txn : Bool → Option LeaderKey → ℕ → Txn → Bool
was_live_by_txn holder_was_live leader m (txns.Lease (lease_txns.Renew revision info ttl status row (Some members))) =
    holder_was_live || is_holder leader m
was_live_by_txn holder_was_live leader m _ = holder_was_live

-- the holder of the leader key was live, behind a message that is
-- sent: only a request of a member can be a renewal that carries a set
abbrev pub was_live_by_message : Bool → Option LeaderKey → LinkEnd → Body → Bool
was_live_by_message holder_was_live leader (ends.Member member) (bodies.Request txn) =
    was_live_by_txn holder_was_live leader member.id.number txn
was_live_by_message holder_was_live leader _ _ = holder_was_live

-- a create that is granted begins anew; any other grant changes nothing
abbrev pub was_live_by_grant : Bool → Txn → Bool
was_live_by_grant holder_was_live (txns.Lease (lease_txns.Create info ttl failsafe sync)) = false
was_live_by_grant holder_was_live _ = holder_was_live

-- whether the holder was live when it asked for a renewal that carries a set, after an event
abbrev pub was_live_after : Bool → Option LeaderKey → EventKind → Bool
was_live_after holder_was_live leader (kinds.Message (Sent number message)) =
    was_live_by_message holder_was_live leader message.from message.body
was_live_after holder_was_live leader (kinds.Store (stores.Granted number by txn standbys)) =
    was_live_by_grant holder_was_live txn
was_live_after holder_was_live leader _ = holder_was_live

-- what a granted request tells its sender: the sync key that it wrote, or the leader key's new revision
abbrev pub sync_grant_of : Option SyncKey → SyncRequest → Option Flying
sync_grant_of None request = None
sync_grant_of (Some key) request =
    Some (SyncGranted
    (record { member = request.member; incarnation = request.incarnation; sequence = request.sequence; key = key }))

-- the grant of the leader key under the last revision
abbrev pub lease_grant_of : Past → ℕ → ℕ → ℕ → Option Flying
lease_grant_of past member incarnation sequence = Some (LeaseGranted (record {
  member = member;
  incarnation = incarnation;
  sequence = sequence;
  revision = past.lease.revision;
  sync = past.sync;
}))

-- what a granted request that compares the sync key tells: to a create
-- the grant of the leader key, to others the sync key
abbrev pub request_grant_of : Past → SyncRequest → Aim → Option Flying
request_grant_of past request CreateLeader = lease_grant_of past request.member request.incarnation request.sequence
request_grant_of past request _ = sync_grant_of past.sync request

-- a snapshot
abbrev pub snapshot_of : Past → Bool → Bool → Option Flying
snapshot_of past keyless leaderless = Some (SnapshotSent (record {
  sync = past.sync;
  keyless = keyless;
  leaderless = leaderless;
  failsafe_revision = failsafe_revision_of past.lease.failsafe;
}))

-- the answer to a granted request
abbrev pub grant_in_flight_of : Past → ℕ → ℕ → ℕ → Query → Option Flying
grant_in_flight_of past member incarnation sequence LeaseQuery = lease_grant_of past member incarnation sequence
grant_in_flight_of past member incarnation sequence (CarryQuery by revision) =
    lease_grant_of past member incarnation sequence
grant_in_flight_of past member incarnation sequence (SyncQuery request) = request_grant_of past request request.aim
grant_in_flight_of past member incarnation sequence OtherQuery = snapshot_of past false false

-- a message of the key store to this member
abbrev pub answer_in_flight_of : Past → ℕ → ℕ → ℕ → Body → Option Flying
answer_in_flight_of past member incarnation sequence bodies.Snapshot =
    snapshot_of past (is_keyless past.lease.leader past.lease.failsafe) (is_leaderless past.lease.leader)
answer_in_flight_of past member incarnation sequence (bodies.Granted request leased) =
    grant_in_flight_of past member incarnation sequence (past.asked request)
answer_in_flight_of past member incarnation sequence _ = None

-- a request in flight, if it compares the sync key
abbrev pub query_in_flight_of : Query → Option Flying
query_in_flight_of (SyncQuery request) = Some (Requested request)
query_in_flight_of _ = None

-- a message of this member to the key store
abbrev pub request_in_flight_of : ℕ → ℕ → ℕ → Body → Option Flying
request_in_flight_of member incarnation sequence (bodies.Request txn) =
    query_in_flight_of (query_of member incarnation sequence txn)
request_in_flight_of member incarnation sequence _ = None

-- an answer in a race, where its sender has a log
abbrev pub race_answer_of : ℕ → ℕ → ℕ → ℕ → Option Lsn → Option Flying
race_answer_of by member incarnation sequence None = None
race_answer_of by member incarnation sequence (Some end) =
    Some (RaceAnswered
    (record { member = member; incarnation = incarnation; sequence = sequence; by = by; end = end.position }))

-- a message of the first member to the second
abbrev pub peer_in_flight_of : ℕ → ℕ → ℕ → ℕ → Body → Option Flying
peer_in_flight_of by member incarnation sequence (bodies.Answer answer) =
    race_answer_of by member incarnation sequence answer.end
peer_in_flight_of by member incarnation sequence _ = None

-- what commits read of a message that is sent
abbrev pub flying_of : Past → LinkEnd → LinkEnd → ℕ → ℕ → Body → Option Flying
flying_of past (ends.Member member) ends.Store incarnation sequence body =
    request_in_flight_of member.id.number incarnation sequence body
flying_of past ends.Store (ends.Member member) incarnation sequence body =
    answer_in_flight_of past member.id.number incarnation sequence body
flying_of past (ends.Member by) (ends.Member member) incarnation sequence body =
    peer_in_flight_of by.id.number member.id.number incarnation sequence body
flying_of past ends.Store ends.Store incarnation sequence body = None

-- the messages in flight after an event
abbrev pub past_flight_by : Past → MessageEvent → ℕ → Option Flying
past_flight_by past (Sent number message) =
    put_at past.flight number (flying_of past message.from message.to message.incarnation message.sequence message.body)
past_flight_by past (Delivered number) = put_at past.flight number None
past_flight_by past (Lost number) = put_at past.flight number None

-- the messages in flight after an event
abbrev pub past_flight_after : Past → EventKind → ℕ → Option Flying
past_flight_after past (kinds.Message happening) = past_flight_by past happening
past_flight_after past _ = past.flight

-- what a message that is sent asks of the key store
abbrev pub query_sent : LinkEnd → ℕ → ℕ → Body → Query
query_sent (ends.Member member) incarnation sequence (bodies.Request txn) =
    query_of member.id.number incarnation sequence txn
query_sent _ incarnation sequence _ = OtherQuery

-- what each request so far asks, after an event
abbrev pub queries_after : (ℕ → Query) → EventKind → ℕ → Query
queries_after asked (kinds.Message (Sent number message)) =
    put_at asked number (query_sent message.from message.incarnation message.sequence message.body)
queries_after asked _ = asked

-- a log up to a commit, from this entry on: the entry alone where it is of that commit, and else with what follows
abbrev pub front_if : Bool → Entry → List Entry → List Entry
front_if true entry front = entry ∷ []
front_if false entry front = entry ∷ front

-- a log up to the entry of this commit
abbrev pub front_to : ℕ → List Entry → List Entry
front_to commit [] = []
front_to commit (entry ∷ entries) = front_if (entry.serial == commit) entry (front_to commit entries)

-- the log of a server, which a server that there is not lacks
abbrev pub log_found : Option (Option (List Entry)) → Option (List Entry)
log_found None = None
log_found (Some log) = log

-- the longest log up to an acknowledged commit, after an event
abbrev pub acknowledged_log_after : Logs → List Entry → EventKind → List Entry
acknowledged_log_after logs acknowledged_log (kinds.Replication (replications.Acknowledged server commit)) =
    longer_log acknowledged_log (front_to commit (entries_of (log_found (slice_get logs.members server.id.number))))
acknowledged_log_after logs acknowledged_log _ = acknowledged_log

-- what one more event leaves
abbrev pub past_after : Past → EventKind → Past
past_after past kind = record {
  lease = lease_past.past_after past.lease kind;
  sync = sync_after past.lease.revision past.sync kind;
  holder_was_live = was_live_after past.holder_was_live past.lease.leader kind;
  asked = queries_after past.asked kind;
  flight = past_flight_after past kind;
  logs = logs_after past.logs kind;
  required = required_after past.required kind;
  grown = grown_after past.required past.logs past.grown kind;
  confirmed = confirmed_after past.confirmed kind;
  acknowledged_log = acknowledged_log_after past.logs past.acknowledged_log kind;
  acknowledged = acknowledged_after past.acknowledged kind;
}

-- what a list of events leaves
abbrev pub past_over : Past → List Event → Past
past_over past [] = past
past_over past (event ∷ events) = past_over (past_after past event.kind) events

-- before the first event, over servers with these logs, required lists and confirmed positions
abbrev pub first_past : Logs → List Required → List (List (Option Lsn)) → Past
first_past logs required confirmed = record {
  lease = lease_past.first_past;
  sync = None;
  holder_was_live = false;
  asked = λ i. OtherQuery;
  flight = λ i. None;
  logs = logs;
  required = required;
  grown = λ m. 0;
  confirmed = confirmed;
  acknowledged_log = [];
  acknowledged = [];
}

-- what no event says of a member: whether its server is live, and its agent
pub record VolatileState : Type 0 where
  pub live : Bool
  pub agent : Option Agent

-- before the first event: no server is live, and each agent is in its first incarnation
abbrev pub first_volatile_state : VolatileState
first_volatile_state = record { live = false; agent = Some (fresh_agent 1) }

-- the revision of the leader key
abbrev pub leader_revision : Option LeaderKey → Option ℕ
leader_revision None = None
leader_revision (Some key) = Some key.revision

-- whom a required list has commits wait for, each of them: nobody where any
-- one, or any so many of a set, will do; that of a server, if there is one
abbrev pub confirmers_in : Required → Confirmers
confirmers_in needs.Nobody = Nobody
confirmers_in needs.AnyOne = Nobody
confirmers_in (needs.All members) = All (set_members members)
confirmers_in (needs.AtLeast number of) = Nobody

-- whom the commits of a server wait for; nobody where there is no such server
abbrev pub confirmers_of : Option Required → Confirmers
confirmers_of None = Nobody
confirmers_of (Some required) = confirmers_in required

-- the position that a server knows of a member
abbrev pub position_in : Option (Option Lsn) → Option ℕ
position_in None = None
position_in (Some None) = None
position_in (Some (Some end)) = Some end.position

-- the position that a server knows of this member, if there is such a server
abbrev pub position_of : Option (List (Option Lsn)) → ℕ → Option ℕ
position_of None n = None
position_of (Some positions) n = position_in (slice_get positions n)

-- the machine of a member, by the book and by what no event says of it
abbrev pub machine_of : Past → VolatileState → ℕ → Machine
machine_of past volatile_state m = record {
  live = volatile_state.live;
  writes = past.lease.writes m;
  required = confirmers_of (slice_get past.required m);
  confirmed = position_of (slice_get past.confirmed m);
  log = log_found (slice_get past.logs.members m);
  agent = volatile_state.agent;
  runs = past.lease.runs m;
}

-- a cluster: its members have numbers below the first, and the second says whether creates
-- of the leader key compare the sync key, as they do in quorum mode with failsafe mode
pub record Setup : Type 0 where
  pub member_count : ℕ
  pub creates_compare : Bool

-- the state of a cluster, by the book and by what no event says of its members
abbrev pub state_of : Setup → Past → (ℕ → VolatileState) → State
state_of setup past volatile_states = record {
  member_count = setup.member_count;
  creates_compare = setup.creates_compare;
  holder = key_holder past.lease.leader;
  holder_was_live = past.holder_was_live;
  failsafe_revision = failsafe_revision_of past.lease.failsafe;
  sync = past.sync;
  leader = leader_revision past.lease.leader;
  revision = past.lease.revision;
  flight = past.flight;
  members = λ m. machine_of past (volatile_states m) m;
  acknowledged_log = past.acknowledged_log;
  acknowledged = past.acknowledged;
}
