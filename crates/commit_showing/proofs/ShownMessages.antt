-- The events of what comes to the key store, or from it, folded, are the action.
use Rattle.std.proofs.Common.{◌≡◌, ℕ, ◌+◌, ◌&&◌, Bool, true, false, List, Option, Some, None, slice_get, refl, ◌∙◌, ap, sym}
use Rattle.std.proofs.Math.Path.{fun_ext}
use Rattle.pat_base.specs.declared.lsn.Lsn.{Lsn}
use Rattle.pat_base.specs.declared.name.Name.{Name}
use Rattle.pat_base.specs.declared.ticks.Ticks.{Ticks}
use Rattle.pat_base.specs.declared.member_set.MemberSet.{MemberSet}
use Rattle.store_keys.specs.declared.value.HistoryRow.{HistoryRow}
use Rattle.store_keys.specs.declared.value.MemberInfo.{MemberInfo}
use Rattle.store_keys.specs.declared.key.Key.{Key}
use Rattle.store_keys.specs.declared.txn.Expected.{Expected}
use Rattle.store_keys.specs.declared.txn.Txn.{Txn}
use Rattle.store_keys.specs.declared.txn.Txn.TheVariants as txns
use Rattle.store_keys.specs.declared.txn.LeaseTxn.TheVariants as lease_txns
use Rattle.store_keys.specs.declared.txn.SyncTxn.TheVariants as sync_txns
use Rattle.store_keys.specs.declared.txn_kind.TxnKind.{TxnKind}
use Rattle.wal_model.specs.Log.{end_of}
use Rattle.pg_model.specs.Facts.{entries_of}
use Rattle.event_book.specs.declared.event.EventKind.TheVariants as kinds
use Rattle.event_book.specs.declared.event.MessageEvent.TheVariants as messages
use Rattle.event_book.specs.declared.event.StoreEvent.TheVariants as stores
use Rattle.event_book.specs.declared.link.LinkEnd.TheVariants as ends
use Rattle.event_book.specs.declared.message.Body.TheVariants as bodies
use Rattle.pat_base.specs.declared.peer_answer.PeerAnswer.{PeerAnswer}
use Rattle.event_book.specs.declared.member.Member.{Member}
use Rattle.event_book.specs.Functions.{put_at}
use Rattle.lease_model.specs.Leases.{LeaderKey}
use Rattle.lease_model.specs.States.{leader_kept}
use Rattle.lease_model.specs.Outcomes.{failsafe_carried}
use Rattle.lease_model.specs.Past.{extended_by, members_if}
use Rattle.commit_actions.specs.Flights.{Flying, SyncRequest, Requested, RaceAnswered}
use Rattle.commit_actions.specs.States.{State}
use Rattle.commit_actions.specs.Actions.{Create, Renew, Expire, Release, OtherWrite, SendSnapshot, Decide, Lose, AnswerRace, Note, is_none, is_as_read, is_granted, failsafe_revision_if, with_decision, decide_at}
use Rattle.commit_actions.specs.Past.{Setup, Past, past_after, VolatileState, log_found, state_of, Query, renew_query, lease_grant_of, LeaseQuery, SyncQuery, OtherQuery, leader_revision, claim_request, publish_request, create_request, revision_in, grant_in_flight_of, snapshot_of, race_answer_of, is_keyless, is_leaderless, key_holder, failsafe_revision_of}
use Rattle.commit_showing.specs.Books.{IsShown}
use Rattle.lease_model.specs.Showing.{granted_events, refused_events, read_events}
use Rattle.commit_showing.specs.Showing.{event_at, decided_events, carries_set, IsOtherTxn}
use Rattle.lease_model.proofs.Tools.{put-all}

-- ---- the key store
-- a message of which commits read nothing comes to its receiver
put-same : (flight : ℕ → Option Flying) (i : ℕ) → flight i ≡ None
    → ◌≡◌ {A = ℕ → Option Flying} (put_at flight i None) flight
put-same flight i none = fun_ext (λ n. put-all flight i None (λ k o. o ≡ flight k) (sym none) (λ k other. refl) n)

-- a tick, in which the leader key expires or not
pub tick-shown : (setup : Setup) (past : Past) (volatile_states : ℕ → VolatileState) (tick : Ticks)
    → leader_kept (past.lease.clock + 1) past.lease.leader ≡ past.lease.leader →
    IsShown setup past volatile_states
    (record { action = Note; events = event_at tick kinds.Tick; volatile_states = volatile_states })
tick-shown setup past volatile_states tick stays =
    ap (λ (l : Option LeaderKey).
    record (state_of setup past volatile_states) { leader = leader_revision l; holder = key_holder l })
    stays

pub expired-shown : (setup : Setup) (past : Past) (volatile_states : ℕ → VolatileState) (tick : Ticks)
    → leader_kept (past.lease.clock + 1) past.lease.leader ≡ None →
    IsShown setup past volatile_states
    (record { action = Expire; events = event_at tick kinds.Tick; volatile_states = volatile_states })
expired-shown setup past volatile_states tick gone =
    ap (λ (l : Option LeaderKey).
    record (state_of setup past volatile_states) { leader = leader_revision l; holder = key_holder l })
    gone

pub lost-shown : (setup : Setup) (past : Past) (volatile_states : ℕ → VolatileState) (tick : Ticks) (number : ℕ) →
    IsShown setup past volatile_states (record {
      action = Lose number;
      events = event_at tick (kinds.Message (messages.Lost number));
      volatile_states = volatile_states;
    })
lost-shown setup past volatile_states tick number = refl

decided-is : (s : State) (i j : ℕ) (w : SyncRequest) (b : Bool) → s.flight i ≡ Some (Requested w)
    → is_granted s.leader s.sync w ≡ b → decide_at s i j (s.flight i) ≡ with_decision s i j w b
decided-is s i j w b at granted = ap (decide_at s i j) at ∙ ap (with_decision s i j w) granted

-- a sync write that is granted: the store's decision is the law's
pub claim-shown : (setup : Setup) (past : Past) (volatile_states : ℕ → VolatileState) (tick : Ticks) (i j : ℕ)
    (by : Member) (incarnation sequence revision : ℕ) (sync : Expected) (standbys : List Name) →
    past.flight i ≡ Some (Requested (claim_request by.id.number incarnation sequence revision sync))
    → past.asked i ≡ SyncQuery (claim_request by.id.number incarnation sequence revision sync)
    → is_granted (leader_revision past.lease.leader) past.sync
    (claim_request by.id.number incarnation sequence revision sync) ≡ true →
    IsShown setup past volatile_states (record {
      action = Decide i j;
      events = granted_events tick i j by incarnation sequence (txns.Sync (sync_txns.Claim revision sync)) standbys;
      volatile_states = volatile_states;
    })
claim-shown setup past volatile_states tick i j by incarnation sequence revision sync standbys at asked granted =
    let w : SyncRequest = claim_request by.id.number incarnation sequence revision sync in
    let mid : Past = past_after (past_after past (kinds.Message (messages.Delivered i)))
    (kinds.Store (stores.Granted i by (txns.Sync (sync_txns.Claim revision sync)) standbys)) in
    ap (λ (q : Query). record (state_of setup past volatile_states) {
      sync = mid.sync;
      revision = past.lease.revision + 1;
      flight = put_at (put_at past.flight i None) j (grant_in_flight_of mid by.id.number incarnation sequence q);
    }) asked
    ∙ sym (decided-is (state_of setup past volatile_states) i j w true at granted)

pub publish-shown : (setup : Setup) (past : Past) (volatile_states : ℕ → VolatileState) (tick : Ticks) (i j : ℕ)
    (by : Member) (incarnation sequence revision : ℕ) (sync : Expected) (set : MemberSet)
    (may_lack : Option ℕ) (standbys : List Name) →
    past.flight i ≡ Some (Requested (publish_request by.id.number incarnation sequence revision sync set may_lack))
    → past.asked i ≡ SyncQuery (publish_request by.id.number incarnation sequence revision sync set may_lack)
    → is_granted (leader_revision past.lease.leader) past.sync
    (publish_request by.id.number incarnation sequence revision sync set may_lack) ≡ true →
    IsShown setup past volatile_states (record {
      action = Decide i j;
      events =
          granted_events tick i j by incarnation sequence
          (txns.Sync (sync_txns.SetSync revision sync set may_lack)) standbys;
      volatile_states = volatile_states;
    })
publish-shown setup past volatile_states tick i j by incarnation sequence revision sync set may_lack standbys at asked
    granted =
    let w : SyncRequest = publish_request by.id.number incarnation sequence revision sync set may_lack in
    let mid : Past = past_after (past_after past (kinds.Message (messages.Delivered i)))
    (kinds.Store (stores.Granted i by (txns.Sync (sync_txns.SetSync revision sync set may_lack)) standbys)) in
    ap (λ (q : Query). record (state_of setup past volatile_states) {
      sync = mid.sync;
      revision = past.lease.revision + 1;
      flight = put_at (put_at past.flight i None) j (grant_in_flight_of mid by.id.number incarnation sequence q);
    }) asked
    ∙ sym (decided-is (state_of setup past volatile_states) i j w true at granted)

-- a create is granted, which compares no sync key
pub create-shown : (setup : Setup) (past : Past) (volatile_states : ℕ → VolatileState) (tick : Ticks)
    (i j : ℕ) (by : Member) (incarnation sequence : ℕ) (info : MemberInfo) (ttl : Ticks)
    (failsafe : Option Expected) (standbys : List Name) →
    past.flight i ≡ None → past.asked i ≡ LeaseQuery →
    IsShown setup past volatile_states (record {
      action = Create by.id.number incarnation sequence j;
      events = granted_events tick i j by incarnation sequence
          (txns.Lease (lease_txns.Create info ttl failsafe None)) standbys;
      volatile_states = volatile_states;
    })
create-shown setup past volatile_states tick i j by incarnation sequence info ttl failsafe standbys none asked =
    let mid : Past = past_after (past_after past (kinds.Message (messages.Delivered i)))
    (kinds.Store (stores.Granted i by (txns.Lease (lease_txns.Create info ttl failsafe None)) standbys)) in
    let leased : (ℕ → Option Flying) → Query → State = λ f q. record (state_of setup past volatile_states) {
      leader = Some (past.lease.revision + 1);
      holder = by.id.number;
      holder_was_live = false;
      revision = past.lease.revision + 1;
      flight = put_at f j (grant_in_flight_of mid by.id.number incarnation sequence q);
    } in
    ap (λ (q : Query). leased (put_at past.flight i None) q) asked
    ∙ ap (λ (f : ℕ → Option Flying). leased f LeaseQuery) (put-same past.flight i none)

-- one which does
pub create-as-read-shown : (setup : Setup) (past : Past) (volatile_states : ℕ → VolatileState) (tick : Ticks)
    (i j : ℕ) (by : Member) (incarnation sequence : ℕ) (info : MemberInfo) (ttl : Ticks)
    (failsafe : Option Expected) (sync : Expected) (standbys : List Name) →
    past.flight i ≡ Some (Requested (create_request by.id.number incarnation sequence sync))
    → past.asked i ≡ SyncQuery (create_request by.id.number incarnation sequence sync)
    → past.lease.leader ≡ None → is_as_read past.sync (revision_in sync) ≡ true →
    IsShown setup past volatile_states (record {
      action = Decide i j;
      events = granted_events tick i j by incarnation sequence
          (txns.Lease (lease_txns.Create info ttl failsafe (Some sync))) standbys;
      volatile_states = volatile_states;
    })
create-as-read-shown setup past volatile_states tick i j by incarnation sequence info ttl failsafe sync standbys at
    asked gone read =
    let w : SyncRequest = create_request by.id.number incarnation sequence sync in
    let mid : Past = past_after (past_after past (kinds.Message (messages.Delivered i)))
    (kinds.Store (stores.Granted i by (txns.Lease (lease_txns.Create info ttl failsafe (Some sync))) standbys)) in
    ap (λ (q : Query). record (state_of setup past volatile_states) {
      leader = Some (past.lease.revision + 1);
      holder = by.id.number;
      holder_was_live = false;
      revision = past.lease.revision + 1;
      flight = put_at (put_at past.flight i None) j (grant_in_flight_of mid by.id.number incarnation sequence q);
    }) asked
    ∙ sym (decided-is (state_of setup past volatile_states) i j w true at
    (ap (λ (l : Option LeaderKey). is_none (leader_revision l) && is_as_read past.sync (revision_in sync)) gone ∙ read))

-- a renewal is granted
carried-shown : (setup : Setup) (past : Past) (volatile_states : ℕ → VolatileState) (failsafe : Option MemberSet)
    → failsafe_revision_of (failsafe_carried (past.lease.revision + 1) (members_if failsafe) past.lease.failsafe)
    ≡ failsafe_revision_if (carries_set failsafe) (past.lease.revision + 1) (failsafe_revision_of past.lease.failsafe)
carried-shown setup past volatile_states None = refl
carried-shown setup past volatile_states (Some members) = refl

renew-granted : (past : Past) (member incarnation sequence by revision : ℕ) (failsafe : Option MemberSet)
    → grant_in_flight_of past member incarnation sequence (renew_query by revision failsafe)
    ≡ lease_grant_of past member incarnation sequence
renew-granted past member incarnation sequence by revision None = refl
renew-granted past member incarnation sequence by revision (Some members) = refl

pub renew-shown : (setup : Setup) (past : Past) (volatile_states : ℕ → VolatileState) (tick : Ticks) (i j : ℕ)
    (by : Member) (incarnation sequence revision : ℕ) (info : MemberInfo) (ttl : Ticks) (status : Option Lsn)
    (row : Option HistoryRow) (failsafe : Option MemberSet) (standbys : List Name) →
    (key : LeaderKey) → past.lease.leader ≡ Some key → past.flight i ≡ None
    → past.asked i ≡ renew_query by.id.number revision failsafe →
    IsShown setup past volatile_states (record {
      action = Renew by.id.number incarnation sequence j (carries_set failsafe);
      events =
          granted_events tick i j by incarnation sequence
          (txns.Lease (lease_txns.Renew revision info ttl status row failsafe)) standbys;
      volatile_states = volatile_states;
    })
renew-shown setup past volatile_states tick i j by incarnation sequence revision info ttl status row failsafe standbys
    key is none asked =
    let mid : Past = past_after (past_after past (kinds.Message (messages.Delivered i)))
    (kinds.Store (stores.Granted i by
    (txns.Lease (lease_txns.Renew revision info ttl status row failsafe)) standbys)) in
    let renewed : Option LeaderKey → Option ℕ → (ℕ → Option Flying) → Option Flying → State = λ l failsafe_revision f o.
    record (state_of setup past volatile_states) {
      leader = leader_revision l;
      holder = key_holder l;
      failsafe_revision = failsafe_revision;
      revision = past.lease.revision + 1;
      flight = put_at f j o;
    } in
    let failsafe_revision : Option ℕ =
    failsafe_revision_if (carries_set failsafe) (past.lease.revision + 1) (failsafe_revision_of past.lease.failsafe) in
    let extended : Option LeaderKey → Option LeaderKey = extended_by past.lease.clock (past.lease.revision + 1) ttl.0 in
    let granted : Option Flying = lease_grant_of mid by.id.number incarnation sequence in
    ap (λ (o : Option ℕ). renewed (extended past.lease.leader) o (put_at past.flight i None)
    (grant_in_flight_of mid by.id.number incarnation sequence (past.asked i)))
    (carried-shown setup past volatile_states failsafe)
    ∙ ap (λ (q : Query). renewed (extended past.lease.leader) failsafe_revision (put_at past.flight i None)
    (grant_in_flight_of mid by.id.number incarnation sequence q))
    asked
    ∙ ap (λ (o : Option Flying). renewed (extended past.lease.leader) failsafe_revision (put_at past.flight i None) o)
    (renew-granted mid by.id.number incarnation sequence by.id.number revision failsafe)
    ∙ ap (λ (f : ℕ → Option Flying). renewed (extended past.lease.leader) failsafe_revision f granted)
    (put-same past.flight i none)
    ∙ ap (λ (l : Option LeaderKey). renewed (extended l) failsafe_revision past.flight granted) is
    ∙ ap (λ (h : ℕ). record (state_of setup past volatile_states) {
      leader = Some (past.lease.revision + 1);
      holder = h;
      failsafe_revision = failsafe_revision;
      revision = past.lease.revision + 1;
      flight = put_at past.flight j granted;
    }) (ap key_holder (sym is))

-- a request that leaves the leader key, the failsafe key and the sync key alone is granted, and then answered
pub other-shown : (setup : Setup) (past : Past) (volatile_states : ℕ → VolatileState) (tick : Ticks) (i : ℕ)
    (by : Member) (txn : Txn) (standbys : List Name) → past.flight i ≡ None → IsOtherTxn txn →
    IsShown setup past volatile_states
    (record { action = OtherWrite; events = decided_events tick i by txn standbys; volatile_states = volatile_states })
other-shown setup past volatile_states tick i by (txns.Touch info ttl) standbys none other =
    ap (λ (f : ℕ → Option Flying).
    record (state_of setup past volatile_states) { revision = past.lease.revision + 1; flight = f })
    (put-same past.flight i none)
other-shown setup past volatile_states tick i by (txns.Operators txn) standbys none other =
    ap (λ (f : ℕ → Option Flying).
    record (state_of setup past volatile_states) { revision = past.lease.revision + 1; flight = f })
    (put-same past.flight i none)
other-shown setup past volatile_states tick i by (txns.Lease txn) standbys none other = absurd other
other-shown setup past volatile_states tick i by (txns.Sync txn) standbys none other = absurd other

pub release-shown : (setup : Setup) (past : Past) (volatile_states : ℕ → VolatileState) (tick : Ticks) (i : ℕ)
    (by : Member) (compared : ℕ) (standbys : List Name) → past.flight i ≡ None →
    IsShown setup past volatile_states (record {
      action = Release;
      events = decided_events tick i by (txns.Lease (lease_txns.Release compared)) standbys;
      volatile_states = volatile_states;
    })
release-shown setup past volatile_states tick i by compared standbys none =
    ap (λ (f : ℕ → Option Flying). record (state_of setup past volatile_states) {
      leader = None;
      holder = 0;
      revision = past.lease.revision + 1;
      flight = f;
    }) (put-same past.flight i none)

pub answered-shown : (setup : Setup) (past : Past) (volatile_states : ℕ → VolatileState) (tick : Ticks)
    (i j : ℕ) (by : Member) (incarnation sequence : ℕ) (leased : Bool) → past.asked i ≡ OtherQuery →
    IsShown setup past volatile_states (record {
      action = SendSnapshot false false j;
      events = event_at tick (kinds.Message (messages.Sent j (record {
        from = ends.Store;
        to = ends.Member by;
        incarnation = incarnation;
        sequence = sequence;
        body = bodies.Granted i leased;
      })));
      volatile_states = volatile_states;
    })
answered-shown setup past volatile_states tick i j by incarnation sequence leased asked =
    ap (λ (q : Query).
    record (state_of setup past volatile_states) {
      flight =
          put_at past.flight j (grant_in_flight_of past by.id.number incarnation sequence q);
    })
    asked

put-twice : (flight : ℕ → Option Flying) (i j : ℕ) → flight j ≡ None
    → ◌≡◌ {A = ℕ → Option Flying} (put_at (put_at flight i None) j None) (put_at flight i None)
put-twice flight i j none = put-same (put_at flight i None) j
    (put-all flight i None (λ k o. k ≡ j → o ≡ None) (λ e. refl) (λ k other e. ap flight e ∙ none) j refl)

-- a sync write is refused
pub refused-shown : (setup : Setup) (past : Past) (volatile_states : ℕ → VolatileState) (tick : Ticks) (i j : ℕ)
    (by : Member) (incarnation sequence : ℕ) (request : TxnKind) (key : Key) (found : Expected) (w : SyncRequest) →
    past.flight i ≡ Some (Requested w) → is_granted (leader_revision past.lease.leader) past.sync w ≡ false
    → past.flight j ≡ None →
    IsShown setup past volatile_states (record {
      action = Decide i j;
      events = refused_events tick i j by incarnation sequence request key found;
      volatile_states = volatile_states;
    })
refused-shown setup past volatile_states tick i j by incarnation sequence request key found w at refused none =
    ap (λ (f : ℕ → Option Flying). record (state_of setup past volatile_states) { flight = f })
    (put-twice past.flight i j none)
    ∙ sym (decided-is (state_of setup past volatile_states) i j w false at refused)

-- a read is answered
pub snapshot-shown : (setup : Setup) (past : Past) (volatile_states : ℕ → VolatileState) (tick : Ticks)
    (i j : ℕ) (by : Member) (incarnation sequence : ℕ) → past.flight i ≡ None →
    IsShown setup past volatile_states (record {
      action = SendSnapshot (is_keyless past.lease.leader past.lease.failsafe) (is_leaderless past.lease.leader) j;
      events = read_events tick i j by incarnation sequence;
      volatile_states = volatile_states;
    })
snapshot-shown setup past volatile_states tick i j by incarnation sequence none =
    ap (λ (f : ℕ → Option Flying).
    record (state_of setup past volatile_states) {
      flight = put_at f j
          (snapshot_of past (is_keyless past.lease.leader past.lease.failsafe) (is_leaderless past.lease.leader));
    })
    (put-same past.flight i none)

-- a member answers in a race
pub race-answer-shown : (setup : Setup) (past : Past) (volatile_states : ℕ → VolatileState) (tick : Ticks)
    (j : ℕ) (by member : Member) (incarnation sequence : ℕ) (answer : PeerAnswer) (end : Lsn)
    → answer.end ≡ Some end
    → end.position ≡ end_of (entries_of (log_found (slice_get past.logs.members by.id.number))) →
    IsShown setup past volatile_states (record {
      action = AnswerRace by.id.number member.id.number incarnation sequence j;
      events = event_at tick (kinds.Message (messages.Sent j (record {
        from = ends.Member by;
        to = ends.Member member;
        incarnation = incarnation;
        sequence = sequence;
        body = bodies.Answer answer;
      })));
      volatile_states = volatile_states;
    })
race-answer-shown setup past volatile_states tick j by member incarnation sequence answer end is at =
    ap (λ (o : Option Lsn).
    record (state_of setup past volatile_states) {
      flight =
          put_at past.flight j (race_answer_of by.id.number member.id.number incarnation sequence o);
    })
    is
    ∙ ap (λ (p : ℕ).
    record (state_of setup past volatile_states) {
      flight = put_at past.flight j (Some (RaceAnswered (record {
        member = member.id.number;
        incarnation = incarnation;
        sequence = sequence;
        by = by.id.number;
        end = p;
      })));
    }) at
