-- Which atomic actions there are, what each may be, and the state after it.
use Rattle.std.specs.Prelude.{ℕ, ◌≡◌, ◌+◌, ◌≤◌, ◌==◌, ◌&&◌, nat_le, Bool, true, false, List, [], ◌∷◌, ◌++◌, length, Option, Some, None}
use Rattle.wal_model.specs.declared.entry.Entry.{Entry}
use Rattle.wal_model.specs.Log.{IsPrefixOf, end_of, common_of, received}
use Rattle.event_book.specs.Functions.{put_at}
use Rattle.commit_actions.specs.Functions.{forget}
use Rattle.commit_actions.specs.Keys.{SyncKey, Confirmers, Nobody, Meets, strict_quorum}
use Rattle.commit_actions.specs.Flights.{Aim, ClaimSync, PublishStandbys, SyncRequest, LeaseGrant, SyncGrant, Flying, Requested, LeaseGranted, SyncGranted, SnapshotSent, RaceAnswered, CreateLeader}
use Rattle.pg_model.specs.Facts.{entries_of}
use Rattle.commit_actions.specs.States.{Agent, Machine, State, Reaches, HasLog, HasEntryOf, Acts, is_ready}
use Rattle.commit_actions.specs.Inputs.{Sending, AgentInput, IsLawful, IsGivenByLease}

-- what happens at one go: each but an input of an agent is one event
-- of the cluster, or one decision of the key store with its answer
pub data Action : Type 0 where
  -- a commit stands at the end of a server's log; a commit is acknowledged, where the log up
  -- to it is this front; a standby receives so many entries; what it received is confirmed
  -- to its upstream; it is rewound to where the logs fork; it is copied; a log is wiped
  Commit : (m : ℕ) → (entry : Entry) → Action
  Acknowledge : (m : ℕ) → (front : List Entry) → (commit : ℕ) → Action
  Receive : (m from number : ℕ) → Action
  Confirm : (m by : ℕ) → Action
  Rewind : (m from : ℕ) → Action
  Clone : (m from : ℕ) → Action
  Wipe : (m : ℕ) → Action
  -- a live server begins to accept writes; it accepts none but stays live; it is live no longer
  Accept : (m : ℕ) → Action
  Cease : (m : ℕ) → Action
  End : (m : ℕ) → Action
  -- the key store: a create that compares no sync key is granted; a renewal is, which may carry
  -- a set for the failsafe key; the leader key expires; it is released; another key is written;
  -- a snapshot is sent; a request that compares the sync key is decided on; a message is lost
  Create : (m incarnation sequence number : ℕ) → Action
  Renew : (m incarnation sequence number : ℕ) → (carries : Bool) → Action
  Expire : Action
  Release : Action
  OtherWrite : Action
  SendSnapshot : (keyless leaderless : Bool) → (number : ℕ) → Action
  Decide : (number answer : ℕ) → Action
  Lose : (number : ℕ) → Action
  -- a member answers another in a race; an agent starts; it is killed
  AnswerRace : (by m incarnation sequence number : ℕ) → Action
  Start : (m : ℕ) → Action
  Kill : (m : ℕ) → Action
  -- all else that commits don't depend on; one input of an agent
  Note : Action
  Input : (m : ℕ) → (input : AgentInput) → Action

-- with another machine of one member
abbrev pub with_machine : State → ℕ → Machine → State
with_machine s m machine = record s { members = put_at s.members m machine }

-- with another log of one member
abbrev pub with_log : State → ℕ → Option (List Entry) → State
with_log s m log = with_machine s m (record (s.members m) { log = log })

-- the second log where it is so, else the first
abbrev pub log_if : Bool → List Entry → List Entry → List Entry
log_if true log front = front
log_if false log front = log

-- the longer of two logs
abbrev pub longer_log : List Entry → List Entry → List Entry
longer_log log front = log_if (nat_le (length log) (length front)) log front

-- the leader key is there, and of this revision
abbrev pub at_revision : Option ℕ → ℕ → Bool
at_revision None r = false
at_revision (Some k) r = k == r

-- the sync key is as a request compares it: of this revision, or absent
abbrev pub is_as_read : Option SyncKey → Option ℕ → Bool
is_as_read None None = true
is_as_read None (Some r) = false
is_as_read (Some key) None = false
is_as_read (Some key) (Some r) = key.revision == r

-- there is no leader key
abbrev pub is_none : Option ℕ → Bool
is_none None = true
is_none (Some r) = false

-- the leader key is as a request of this kind compares it: absent, or of this revision
abbrev pub is_leader_as_read : Option ℕ → Aim → ℕ → Bool
is_leader_as_read leader CreateLeader r = is_none leader
is_leader_as_read leader _ r = at_revision leader r

-- the key store grants a request that compares the sync key
abbrev pub is_granted : Option ℕ → Option SyncKey → SyncRequest → Bool
is_granted leader sync request = is_leader_as_read leader request.aim request.leader && is_as_read sync request.sync

-- the sync key that a request writes under this revision, which names its sender as leader. A claim names no standby
abbrev pub sync_key_by : ℕ → ℕ → Aim → SyncKey
sync_key_by m r ClaimSync = record { leader = m; standbys = λ n. false; quorum = strict_quorum; revision = r }
sync_key_by m r CreateLeader = record { leader = m; standbys = λ n. false; quorum = strict_quorum; revision = r }
sync_key_by m r (PublishStandbys standbys quorum) =
    record { leader = m; standbys = standbys; quorum = quorum; revision = r }

-- the grant of such a request
abbrev pub sync_grant_by : ℕ → SyncRequest → SyncGrant
sync_grant_by r request = record {
  member = request.member;
  incarnation = request.incarnation;
  sequence = request.sequence;
  key = sync_key_by request.member r request.aim;
}

-- a request writes the sync key, and its grant is sent
abbrev pub with_sync_grant : State → ℕ → ℕ → SyncRequest → State
with_sync_grant s i j request = record s {
  sync = Some (sync_key_by request.member (s.revision + 1) request.aim);
  revision = s.revision + 1;
  flight = put_at (put_at s.flight i None) j (Some (SyncGranted (sync_grant_by (s.revision + 1) request)));
}

-- the grant of a create or a renewal under the next revision
abbrev pub lease_grant_by : State → ℕ → ℕ → ℕ → LeaseGrant
lease_grant_by s m incarnation sequence =
    record { member = m; incarnation = incarnation; sequence = sequence; revision = s.revision + 1; sync = s.sync }

-- a request creates the leader key, and its grant is sent
abbrev pub with_leader_created : State → ℕ → ℕ → SyncRequest → State
with_leader_created s i j request = record s {
  leader = Some (s.revision + 1);
  holder = request.member;
  holder_was_live = false;
  revision = s.revision + 1;
  flight = put_at (put_at s.flight i None) j
      (Some (LeaseGranted (lease_grant_by s request.member request.incarnation request.sequence)));
}

-- a request is granted
abbrev pub with_grant : State → ℕ → ℕ → SyncRequest → Aim → State
with_grant s i j request CreateLeader = with_leader_created s i j request
with_grant s i j request _ = with_sync_grant s i j request

-- where a request is refused it is gone, as one that is lost: its answer tells nothing that commits depend on
abbrev pub with_decision : State → ℕ → ℕ → SyncRequest → Bool → State
with_decision s i j request true = with_grant s i j request request.aim
with_decision s i j request false = record s { flight = put_at s.flight i None }

-- the key store decides on the request that a message carries
abbrev pub decide_at : State → ℕ → ℕ → Option Flying → State
decide_at s i j (Some (Requested request)) = with_decision s i j request (is_granted s.leader s.sync request)
decide_at s i j _ = s

-- the revision of the failsafe key after a renewal of this revision, which may carry a set for it
abbrev pub failsafe_revision_if : Bool → ℕ → Option ℕ → Option ℕ
failsafe_revision_if true r before = Some r
failsafe_revision_if false r before = before

-- an agent at the beginning of an incarnation
abbrev pub fresh_agent : ℕ → Agent
fresh_agent incarnation = record {
  incarnation = incarnation;
  last = 0;
  waits = None;
  turn = None;
  race = None;
  won = false;
  ready = false;
  leads = false;
  noted = 0;
}

-- the messages in flight with what an input sends, if anything
abbrev pub send : Option Sending → (ℕ → Option Flying) → ℕ → Option Flying
send None flight = flight
send (Some sending) flight = put_at flight sending.number (Some (Requested sending.request))

-- the machine after an input of its agent
abbrev pub machine_after : Machine → AgentInput → Machine
machine_after x input = record x { live = input.live; required = input.required; agent = Some input.agent }

-- the state after an action
abbrev pub act : State → Action → State
act s (Commit m entry) = with_log s m (Some (entries_of (s.members m).log ++ entry ∷ []))
act s (Acknowledge m front commit) =
    record s { acknowledged_log = longer_log s.acknowledged_log front; acknowledged = s.acknowledged ++ commit ∷ [] }
act s (Receive m from number) =
    with_log s m (Some (received (entries_of (s.members m).log) (entries_of (s.members from).log) number))
act s (Confirm m by) = with_machine s m
    (record (s.members m) {
      confirmed =
          put_at (s.members m).confirmed by (Some (end_of (entries_of (s.members by).log)));
    })
act s (Rewind m from) = with_log s m (Some (common_of (entries_of (s.members m).log) (entries_of (s.members from).log)))
act s (Clone m from) = with_log s m (s.members from).log
act s (Wipe m) = with_log s m None
act s (Accept m) = with_machine s m (record (s.members m) { writes = true; confirmed = λ n. None })
act s (Cease m) = with_machine s m (record (s.members m) { writes = false })
act s (End m) = with_machine s m (record (s.members m) { live = false; writes = false })
act s (Create m incarnation sequence number) = record s {
  leader = Some (s.revision + 1);
  holder = m;
  holder_was_live = false;
  revision = s.revision + 1;
  flight = put_at s.flight number (Some (LeaseGranted (lease_grant_by s m incarnation sequence)));
}
act s (Renew m incarnation sequence number carries) = record s {
  leader = Some (s.revision + 1);
  failsafe_revision = failsafe_revision_if carries (s.revision + 1) s.failsafe_revision;
  revision = s.revision + 1;
  flight = put_at s.flight number (Some (LeaseGranted (lease_grant_by s m incarnation sequence)));
}
act s Expire = record s { leader = None; holder = 0 }
act s Release = record s { leader = None; holder = 0; revision = s.revision + 1 }
act s OtherWrite = record s { revision = s.revision + 1 }
act s (SendSnapshot keyless leaderless number) = record s {
  flight = put_at s.flight number (Some (SnapshotSent (record {
    sync = s.sync;
    keyless = keyless;
    leaderless = leaderless;
    failsafe_revision = s.failsafe_revision;
  })));
}
act s (Decide number answer) = decide_at s number answer (s.flight number)
act s (Lose number) = record s { flight = put_at s.flight number None }
act s (AnswerRace by m incarnation sequence number) = record s {
  flight = put_at s.flight number (Some (RaceAnswered (record {
    member = m;
    incarnation = incarnation;
    sequence = sequence;
    by = by;
    end = end_of (entries_of (s.members by).log);
  })));
}
act s (Start m) = with_machine s m
    (record (s.members m) { agent = Some (fresh_agent ((s.members m).runs + 1)); runs = (s.members m).runs + 1 })
act s (Kill m) = with_machine s m (record (s.members m) { agent = None })
act s Note = s
act s (Input m input) = record s {
  holder_was_live = input.holder_was_live;
  flight = send input.sends (forget input.heard s.flight);
  members = put_at s.members m (machine_after (s.members m) input);
}

-- an incarnation and a number that this machine's agents gave before
pub record IsNumbered (x : Machine) (incarnation sequence : ℕ) : Type 0 where
  pub run_old : incarnation ≤ x.runs
  pub sequence_old : (agent : Agent) → x.agent ≡ Some agent → agent.incarnation ≡ incarnation → sequence ≤ agent.last

-- a server that isn't live copies from one that accepts writes: else a
-- log that has what was acknowledged is cut to one that lacks it
pub record CopiesFrom (s : State) (m from : ℕ) : Type 0 where
  pub mine : List Entry
  pub mine_is : (s.members m).log ≡ Some mine
  pub theirs : List Entry
  pub theirs_is : (s.members from).log ≡ Some theirs
  pub not_live : (s.members m).live ≡ false
  pub writes : (s.members from).writes ≡ true

-- its log is a front of the other: else a position is confirmed of other entries
pub record MayReceive (s : State) (m from : ℕ) : Type 0 where
  pub copies : CopiesFrom s m from
  pub prefix : IsPrefixOf copies.mine copies.theirs

-- the same where it has no log yet
pub record MayClone (s : State) (m from : ℕ) : Type 0 where
  pub not_live : (s.members m).live ≡ false
  pub writes : (s.members from).writes ≡ true

-- a member confirms the end of its log, which is a front of the log of who accepts writes
pub record MayConfirm (s : State) (m by : ℕ) : Type 0 where
  pub writes : (s.members m).writes ≡ true
  pub mine : List Entry
  pub mine_is : (s.members m).log ≡ Some mine
  pub theirs : List Entry
  pub theirs_is : (s.members by).log ≡ Some theirs
  pub prefix : IsPrefixOf theirs mine

-- a commit is acknowledged where whom the required list names has confirmed its end since the server last began
pub record MayAcknowledge (s : State) (m : ℕ) (front : List Entry) (commit : ℕ) : Type 0 where
  pub writes : (s.members m).writes ≡ true
  pub mine : List Entry
  pub mine_is : (s.members m).log ≡ Some mine
  pub prefix : IsPrefixOf front mine
  pub entry : HasEntryOf commit front
  pub met : Meets s.member_count (s.members m).required (λ n. Reaches (end_of front) ((s.members m).confirmed n))

-- where creations compare the sync key: a renewal is granted of a leader key that
-- is there, and one that carries a set was asked for by a holder that was live
pub record MayRenew (s : State) (carries : Bool) : Type 0 where
  pub leader : s.creates_compare ≡ true → (r : ℕ) × (s.leader ≡ Some r)
  pub holder_was_live : s.creates_compare ≡ true → carries ≡ true → s.holder_was_live ≡ true

-- what an action may be. Expiry, releases, losses, kills, starts, ends of servers and other writes are free
abbrev pub IsAllowed : State → Action → Type 0
IsAllowed s (Commit m entry) = ((s.members m).writes ≡ true) × (1 ≤ entry.bytes)
IsAllowed s (Acknowledge m front commit) = MayAcknowledge s m front commit
IsAllowed s (Receive m from number) = MayReceive s m from
IsAllowed s (Confirm m by) = MayConfirm s m by
IsAllowed s (Rewind m from) = CopiesFrom s m from
IsAllowed s (Clone m from) = MayClone s m from
IsAllowed s (Wipe m) = (s.members m).live ≡ false
IsAllowed s (Accept m) = (s.members m).live ≡ true
IsAllowed s (Create m incarnation sequence number) =
    IsNumbered (s.members m) incarnation sequence × (s.creates_compare ≡ false)
IsAllowed s (Renew m incarnation sequence number carries) =
    IsNumbered (s.members m) incarnation sequence × MayRenew s carries
IsAllowed s (SendSnapshot keyless leaderless number) = (keyless ≡ true → (n : ℕ) → Acts (s.members n) → ⊥)
    × (leaderless ≡ true → (s.leader ≡ None) × ((n : ℕ) → is_ready (s.members n).agent ≡ true → ⊥))
IsAllowed s (AnswerRace by m incarnation sequence number) =
    HasLog (s.members by).log × IsNumbered (s.members m) incarnation sequence
IsAllowed s (Input m input) = (law : IsLawful s m input) × IsGivenByLease s m input law.was law.does
IsAllowed s _ = Unit {0}

-- these actions may come one after the other
abbrev pub MayFollow : State → List Action → Type 0
MayFollow s [] = Unit {0}
MayFollow s (action ∷ actions) = IsAllowed s action × MayFollow (act s action) actions

-- the state after these actions
abbrev pub state_after : State → List Action → State
state_after s [] = s
state_after s (action ∷ actions) = state_after (act s action) actions

-- before the first action: no server is live, there is no key, and nothing is in flight
abbrev pub first_state : ℕ → Bool → (ℕ → Confirmers) → (ℕ → ℕ → Option ℕ) → (ℕ → Option (List Entry)) → State
first_state member_count creates_compare required confirmed logs = record {
  member_count = member_count;
  creates_compare = creates_compare;
  sync = None;
  leader = None;
  holder = 0;
  holder_was_live = false;
  failsafe_revision = None;
  revision = 1;
  flight = λ i. None;
  members = λ m. record {
    live = false;
    writes = false;
    required = required m;
    confirmed = confirmed m;
    log = logs m;
    agent = Some (fresh_agent 1);
    runs = 1;
  };
  acknowledged_log = [];
  acknowledged = [];
}

-- the first state of servers with these logs, whose commits wait for nobody
abbrev pub start_with : Bool → ℕ → (ℕ → List Entry) → State
start_with creates_compare member_count logs =
    first_state member_count creates_compare (λ m. Nobody) (λ m n. None) (λ m. Some (logs m))
