-- Each action is shown by its events.
use Rattle.std.specs.Prelude.{ℕ, ◌≡◌, ◌+◌, ◌<◌, Bool, true, false, List, length, take, Option, Some, None, slice_get}
use Rattle.pat_base.specs.declared.lsn.Lsn.{Lsn}
use Rattle.pat_base.specs.declared.name.Name.{Name}
use Rattle.pat_base.specs.declared.ticks.Ticks.{Ticks}
use Rattle.pat_base.specs.declared.member_set.MemberSet.{MemberSet}
use Rattle.store_keys.specs.declared.value.HistoryRow.{HistoryRow}
use Rattle.store_keys.specs.declared.value.MemberInfo.{MemberInfo}
use Rattle.store_keys.specs.declared.key.Key.{Key}
use Rattle.store_keys.specs.declared.txn.Expected.{Expected}
use Rattle.store_keys.specs.declared.txn.Txn.{Txn}
use Rattle.store_keys.specs.declared.txn.Txn.TheVariants as txns
use Rattle.store_keys.specs.declared.txn.LeaseTxn.TheVariants as lease_txns
use Rattle.store_keys.specs.declared.txn.SyncTxn.TheVariants as sync_txns
use Rattle.store_keys.specs.declared.txn_kind.TxnKind.{TxnKind}
use Rattle.wal_model.specs.declared.entry.Entry.{Entry}
use Rattle.wal_model.specs.Log.{common_of, end_of}
use Rattle.pg_model.specs.Facts.{entries_of}
use Rattle.event_book.specs.declared.event.AgentEvent.TheVariants as agents
use Rattle.event_book.specs.declared.event.Event.{Event}
use Rattle.event_book.specs.declared.event.EventKind.TheVariants as kinds
use Rattle.event_book.specs.declared.event.LogEvent.TheVariants as logs
use Rattle.event_book.specs.declared.event.MessageEvent.TheVariants as messages
use Rattle.event_book.specs.declared.event.ReplicationEvent.TheVariants as replications
use Rattle.event_book.specs.declared.event.ServerEvent.TheVariants as servers
use Rattle.event_book.specs.declared.event.WatchdogEvent.TheVariants as watchdogs
use Rattle.event_book.specs.declared.link.LinkEnd.TheVariants as ends
use Rattle.event_book.specs.declared.message.Body.TheVariants as bodies
use Rattle.pat_base.specs.declared.peer_answer.PeerAnswer.{PeerAnswer}
use Rattle.event_book.specs.declared.member.Member.{Member}
use Rattle.event_book.specs.declared.member.ServerOf.{ServerOf}
use Rattle.event_book.specs.Functions.{put_at}
use Rattle.lease_model.specs.Leases.{LeaderKey}
use Rattle.lease_model.specs.States.{leader_kept}
use Rattle.commit_actions.specs.Functions.{forget}
use Rattle.commit_actions.specs.Flights.{SyncRequest, Requested}
use Rattle.commit_actions.specs.States.{Agent}
use Rattle.commit_actions.specs.Inputs.{Sending}
use Rattle.commit_actions.specs.Actions.{Commit, Acknowledge, Receive, Confirm, Rewind, Clone, Wipe, Accept, Cease, End, Create, Renew, Expire, Release, OtherWrite, SendSnapshot, Decide, Lose, AnswerRace, Start, Kill, Note, Input, send, fresh_agent, is_as_read, is_granted}
use Rattle.commit_actions.specs.Past.{Setup, Past, past_over, renew_query, VolatileState, log_found, front_to, confirmers_of, LeaseQuery, SyncQuery, OtherQuery, leader_revision, claim_request, publish_request, create_request, revision_in, is_keyless, is_leaderless}
use Rattle.commit_showing.specs.Books.{IsShown}
use Rattle.lease_model.specs.Showing.{granted_events, refused_events, read_events}
use Rattle.commit_showing.specs.Showing.{event_at, decided_events, AreOwn, with_server_down, carries_set, IsOtherTxn, AreIdle}

-- for each action, the events that show it, and on which condition
pub record ActionsAreShown : Type 0 where
  -- logs and replication
  pub commit : (setup : Setup) (past : Past) (volatile_states : ℕ → VolatileState) (tick : Ticks) (server : ServerOf)
      (entry : Entry) (log : Option (List Entry)) → slice_get past.logs.members server.id.number ≡ Some log
      → IsShown setup past volatile_states (record {
        action = Commit server.id.number entry;
        events = event_at tick (kinds.Log (logs.Appended server entry));
        volatile_states = volatile_states;
      })
  pub receive : (setup : Setup) (past : Past) (volatile_states : ℕ → VolatileState) (tick : Ticks)
      (server from : ServerOf) (count : ℕ) (log theirs : Option (List Entry))
      → slice_get past.logs.members server.id.number ≡ Some log
      → slice_get past.logs.members from.id.number ≡ Some theirs
      → IsShown setup past volatile_states (record {
        action = Receive server.id.number from.id.number count;
        events = event_at tick (kinds.Log (logs.Received server from count));
        volatile_states = volatile_states;
      })
  pub rewind : (setup : Setup) (past : Past) (volatile_states : ℕ → VolatileState) (tick : Ticks)
      (server from : ServerOf) (kept : ℕ) (at : Lsn) (log theirs : Option (List Entry))
      → slice_get past.logs.members server.id.number ≡ Some log
      → slice_get past.logs.members from.id.number ≡ Some theirs
      → take kept (entries_of log) ≡ common_of (entries_of log) (entries_of theirs)
      → IsShown setup past volatile_states (record {
        action = Rewind server.id.number from.id.number;
        events = event_at tick (kinds.Log (logs.Rewound server from kept at));
        volatile_states = volatile_states;
      })
  pub clone : (setup : Setup) (past : Past) (volatile_states : ℕ → VolatileState) (tick : Ticks)
      (server from : ServerOf) (log theirs : Option (List Entry))
      → slice_get past.logs.members server.id.number ≡ Some log
      → slice_get past.logs.members from.id.number ≡ Some theirs → IsShown setup past volatile_states (record {
        action = Clone server.id.number from.id.number;
        events = event_at tick (kinds.Log (logs.Copied server from));
        volatile_states = volatile_states;
      })
  pub wipe : (setup : Setup) (past : Past) (volatile_states : ℕ → VolatileState) (tick : Ticks)
      (server : ServerOf) (log : Option (List Entry)) → slice_get past.logs.members server.id.number ≡ Some log
      → IsShown setup past volatile_states (record {
        action = Wipe server.id.number;
        events = event_at tick (kinds.Log (logs.Wiped server));
        volatile_states = volatile_states;
      })
  pub acknowledge : (setup : Setup) (past : Past) (volatile_states : ℕ → VolatileState) (tick : Ticks)
      (server : ServerOf) (commit : ℕ) → IsShown setup past volatile_states (record {
        action = Acknowledge server.id.number
            (front_to commit (entries_of (log_found (slice_get past.logs.members server.id.number)))) commit;
        events = event_at tick (kinds.Replication (replications.Acknowledged server commit));
        volatile_states = volatile_states;
      })
  pub confirm : (setup : Setup) (past : Past) (volatile_states : ℕ → VolatileState) (tick : Ticks)
      (server : ServerOf) (by : Member) (end : Lsn) (positions : List (Option Lsn))
      → slice_get past.confirmed server.id.number ≡ Some positions → by.id.number < length positions
      → end.position ≡ end_of (entries_of (log_found (slice_get past.logs.members by.id.number)))
      → IsShown setup past volatile_states (record {
        action = Confirm server.id.number by.id.number;
        events = event_at tick (kinds.Replication (replications.Confirmed server by end));
        volatile_states = volatile_states;
      })
  -- servers and agents
  pub accept : (setup : Setup) (past : Past) (volatile_states : ℕ → VolatileState) (tick : Ticks) (server : ServerOf)
      (timeline : ℕ) (positions : List (Option Lsn)) → slice_get past.confirmed server.id.number ≡ Some positions
      → IsShown setup past volatile_states (record {
        action = Accept server.id.number;
        events = event_at tick (kinds.Server (servers.Began server timeline));
        volatile_states = volatile_states;
      })
  pub ended : (setup : Setup) (past : Past) (volatile_states : ℕ → VolatileState) (tick : Ticks) (server : ServerOf)
      → IsShown setup past volatile_states (record {
        action = End server.id.number;
        events = event_at tick (kinds.Server (servers.Ended server));
        volatile_states = with_server_down volatile_states server.id.number;
      })
  pub crashed : (setup : Setup) (past : Past) (volatile_states : ℕ → VolatileState) (tick : Ticks) (server : ServerOf)
      → IsShown setup past volatile_states (record {
        action = End server.id.number;
        events = event_at tick (kinds.Server (servers.Crashed server));
        volatile_states = with_server_down volatile_states server.id.number;
      })
  pub reset : (setup : Setup) (past : Past) (volatile_states : ℕ → VolatileState) (tick : Ticks) (member : Member)
      → IsShown setup past volatile_states (record {
        action = End member.id.number;
        events = event_at tick (kinds.Watchdog (watchdogs.Reset member));
        volatile_states = with_server_down volatile_states member.id.number;
      })
  pub cease : (setup : Setup) (past : Past) (volatile_states : ℕ → VolatileState) (tick : Ticks) (server : ServerOf)
      → IsShown setup past volatile_states (record {
        action = Cease server.id.number;
        events = event_at tick (kinds.Server (servers.Ended server));
        volatile_states = volatile_states;
      })
  pub start : (setup : Setup) (past : Past) (volatile_states : ℕ → VolatileState) (tick : Ticks)
      (agent : Member) (incarnation : ℕ) → incarnation ≡ past.lease.runs agent.id.number + 1
      → IsShown setup past volatile_states (record {
        action = Start agent.id.number;
        events = event_at tick (kinds.Agent (agents.Started agent incarnation));
        volatile_states = put_at volatile_states agent.id.number
            (record (volatile_states agent.id.number) {
              agent =
                  Some (fresh_agent (past.lease.runs agent.id.number + 1));
            });
      })
  pub killed : (setup : Setup) (past : Past) (volatile_states : ℕ → VolatileState) (tick : Ticks) (agent : Member)
      → IsShown setup past volatile_states (record {
        action = Kill agent.id.number;
        events = event_at tick (kinds.Agent (agents.Killed agent));
        volatile_states =
            put_at volatile_states agent.id.number (record (volatile_states agent.id.number) { agent = None });
      })
  -- the key store: time, decisions and answers
  pub tick : (setup : Setup) (past : Past) (volatile_states : ℕ → VolatileState) (tick : Ticks)
      → leader_kept (past.lease.clock + 1) past.lease.leader ≡ past.lease.leader
      → IsShown setup past volatile_states
      (record { action = Note; events = event_at tick kinds.Tick; volatile_states = volatile_states })
  pub expired : (setup : Setup) (past : Past) (volatile_states : ℕ → VolatileState) (tick : Ticks)
      → leader_kept (past.lease.clock + 1) past.lease.leader ≡ None
      → IsShown setup past volatile_states
      (record { action = Expire; events = event_at tick kinds.Tick; volatile_states = volatile_states })
  pub lost : (setup : Setup) (past : Past) (volatile_states : ℕ → VolatileState) (tick : Ticks) (number : ℕ)
      → IsShown setup past volatile_states (record {
        action = Lose number;
        events = event_at tick (kinds.Message (messages.Lost number));
        volatile_states = volatile_states;
      })
  pub claim : (setup : Setup) (past : Past) (volatile_states : ℕ → VolatileState) (tick : Ticks) (i j : ℕ)
      (by : Member) (incarnation sequence revision : ℕ) (sync : Expected) (standbys : List Name)
      → past.flight i ≡ Some (Requested (claim_request by.id.number incarnation sequence revision sync))
      → past.asked i ≡ SyncQuery (claim_request by.id.number incarnation sequence revision sync)
      → is_granted (leader_revision past.lease.leader) past.sync
      (claim_request by.id.number incarnation sequence revision sync)
      ≡ true → IsShown setup past volatile_states (record {
        action = Decide i j;
        events = granted_events tick i j by incarnation sequence (txns.Sync (sync_txns.Claim revision sync)) standbys;
        volatile_states = volatile_states;
      })
  pub publish : (setup : Setup) (past : Past) (volatile_states : ℕ → VolatileState) (tick : Ticks) (i j : ℕ)
      (by : Member) (incarnation sequence revision : ℕ) (sync : Expected) (set : MemberSet)
      (may_lack : Option ℕ) (standbys : List Name)
      → past.flight i ≡ Some (Requested (publish_request by.id.number incarnation sequence revision sync set may_lack))
      → past.asked i ≡ SyncQuery (publish_request by.id.number incarnation sequence revision sync set may_lack)
      → is_granted (leader_revision past.lease.leader) past.sync
      (publish_request by.id.number incarnation sequence revision sync set may_lack)
      ≡ true → IsShown setup past volatile_states (record {
        action = Decide i j;
        events =
            granted_events tick i j by incarnation sequence
            (txns.Sync (sync_txns.SetSync revision sync set may_lack)) standbys;
        volatile_states = volatile_states;
      })
  pub create : (setup : Setup) (past : Past) (volatile_states : ℕ → VolatileState) (tick : Ticks) (i j : ℕ)
      (by : Member) (incarnation sequence : ℕ) (info : MemberInfo) (ttl : Ticks) (failsafe : Option Expected)
      (standbys : List Name) → past.flight i ≡ None → past.asked i ≡ LeaseQuery
      → IsShown setup past volatile_states (record {
        action = Create by.id.number incarnation sequence j;
        events = granted_events tick i j by incarnation sequence
            (txns.Lease (lease_txns.Create info ttl failsafe None)) standbys;
        volatile_states = volatile_states;
      })
  -- a create that compares the sync key
  pub create_as_read : (setup : Setup) (past : Past) (volatile_states : ℕ → VolatileState) (tick : Ticks)
      (i j : ℕ) (by : Member) (incarnation sequence : ℕ) (info : MemberInfo) (ttl : Ticks)
      (failsafe : Option Expected) (sync : Expected) (standbys : List Name)
      → past.flight i ≡ Some (Requested (create_request by.id.number incarnation sequence sync))
      → past.asked i ≡ SyncQuery (create_request by.id.number incarnation sequence sync) → past.lease.leader ≡ None
      → is_as_read past.sync (revision_in sync) ≡ true → IsShown setup past volatile_states (record {
        action = Decide i j;
        events = granted_events tick i j by incarnation sequence
            (txns.Lease (lease_txns.Create info ttl failsafe (Some sync))) standbys;
        volatile_states = volatile_states;
      })
  pub renew : (setup : Setup) (past : Past) (volatile_states : ℕ → VolatileState) (tick : Ticks) (i j : ℕ)
      (by : Member) (incarnation sequence revision : ℕ) (info : MemberInfo) (ttl : Ticks) (status : Option Lsn)
      (row : Option HistoryRow) (failsafe : Option MemberSet) (standbys : List Name) → (key : LeaderKey)
      → past.lease.leader ≡ Some key → past.flight i ≡ None → past.asked i ≡ renew_query by.id.number revision failsafe
      → IsShown setup past volatile_states (record {
        action = Renew by.id.number incarnation sequence j (carries_set failsafe);
        events =
            granted_events tick i j by incarnation sequence
            (txns.Lease (lease_txns.Renew revision info ttl status row failsafe)) standbys;
        volatile_states = volatile_states;
      })
  pub other : (setup : Setup) (past : Past) (volatile_states : ℕ → VolatileState) (tick : Ticks) (i : ℕ)
      (by : Member) (txn : Txn) (standbys : List Name) → past.flight i ≡ None → IsOtherTxn txn
      → IsShown setup past volatile_states (record {
        action = OtherWrite;
        events = decided_events tick i by txn standbys;
        volatile_states = volatile_states;
      })
  pub release : (setup : Setup) (past : Past) (volatile_states : ℕ → VolatileState) (tick : Ticks) (i : ℕ) (by : Member)
      (compared : ℕ) (standbys : List Name) → past.flight i ≡ None → IsShown setup past volatile_states (record {
        action = Release;
        events = decided_events tick i by (txns.Lease (lease_txns.Release compared)) standbys;
        volatile_states = volatile_states;
      })
  pub answered : (setup : Setup) (past : Past) (volatile_states : ℕ → VolatileState) (tick : Ticks) (i j : ℕ)
      (by : Member) (incarnation sequence : ℕ) (leased : Bool) → past.asked i ≡ OtherQuery
      → IsShown setup past volatile_states (record {
        action = SendSnapshot false false j;
        events = event_at tick (kinds.Message (messages.Sent j (record {
          from = ends.Store;
          to = ends.Member by;
          incarnation = incarnation;
          sequence = sequence;
          body = bodies.Granted i leased;
        })));
        volatile_states = volatile_states;
      })
  pub refused : (setup : Setup) (past : Past) (volatile_states : ℕ → VolatileState) (tick : Ticks) (i j : ℕ)
      (by : Member) (incarnation sequence : ℕ) (request : TxnKind) (key : Key) (found : Expected) (w : SyncRequest)
      → past.flight i ≡ Some (Requested w) → is_granted (leader_revision past.lease.leader) past.sync w ≡ false
      → past.flight j ≡ None → IsShown setup past volatile_states (record {
        action = Decide i j;
        events = refused_events tick i j by incarnation sequence request key found;
        volatile_states = volatile_states;
      })
  pub shown : (setup : Setup) (past : Past) (volatile_states : ℕ → VolatileState) (tick : Ticks) (i j : ℕ)
      (by : Member) (incarnation sequence : ℕ) → past.flight i ≡ None → IsShown setup past volatile_states (record {
        action = SendSnapshot (is_keyless past.lease.leader past.lease.failsafe) (is_leaderless past.lease.leader) j;
        events = read_events tick i j by incarnation sequence;
        volatile_states = volatile_states;
      })
  -- an answer in a race, an input, and all else
  pub replied : (setup : Setup) (past : Past) (volatile_states : ℕ → VolatileState) (tick : Ticks) (j : ℕ)
      (by member : Member) (incarnation sequence : ℕ) (answer : PeerAnswer) (end : Lsn) → answer.end ≡ Some end
      → end.position ≡ end_of (entries_of (log_found (slice_get past.logs.members by.id.number)))
      → IsShown setup past volatile_states (record {
        action = AnswerRace by.id.number member.id.number incarnation sequence j;
        events = event_at tick (kinds.Message (messages.Sent j (record {
          from = ends.Member by;
          to = ends.Member member;
          incarnation = incarnation;
          sequence = sequence;
          body = bodies.Answer answer;
        })));
        volatile_states = volatile_states;
      })
  pub input : (setup : Setup) (past : Past) (volatile_states : ℕ → VolatileState) (m : ℕ) (heard : Option ℕ)
      (agent : Agent) (live : Bool) (sends : Option Sending) (events : List Event) → AreOwn m events
      → ((i : ℕ) → (past_over past events).flight i ≡ send sends (forget heard past.flight) i)
      → IsShown setup past volatile_states (record {
        action = Input m (record {
          heard = heard;
          agent = agent;
          live = live;
          required = confirmers_of (slice_get (past_over past events).required m);
          sends = sends;
          holder_was_live = (past_over past events).holder_was_live;
        });
        events = events;
        volatile_states = put_at volatile_states m (record { live = live; agent = Some agent });
      })
  pub idle : (setup : Setup) (past : Past) (volatile_states : ℕ → VolatileState) (events : List Event) → AreIdle events
      → IsShown setup past volatile_states
      (record { action = Note; events = events; volatile_states = volatile_states })
