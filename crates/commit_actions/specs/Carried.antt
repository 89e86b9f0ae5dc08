-- What holds between two actions of an allowed run. A server is
-- complete here where it has no log, or all acknowledged entries.
use Rattle.std.specs.Prelude.{ℕ, ◌≡◌, ◌⊎◌, ◌≤◌, ◌<◌, Bool, true, false, List, Option, Some, None, Contains}
use Rattle.wal_model.specs.declared.entry.Entry.{Entry}
use Rattle.wal_model.specs.Log.{IsPrefixOf, end_of}
use Rattle.commit_actions.specs.Keys.{SyncKey, count, AllBut, Meets, Overlaps}
use Rattle.commit_actions.specs.Flights.{Aim, ClaimSync, PublishStandbys, SyncRequest, LeaseGrant, SyncGrant, RaceAnswer, Flying, Requested, LeaseGranted, SyncGranted, SnapshotSent, RaceAnswered, SnapshotView, CreateLeader}
use Rattle.commit_actions.specs.States.{Race, Agent, Machine, State, is_ready, Acts, Includes, HasLog, IsUndiverged, IsBehind, HasEntryOf, HaveBytes, Waits}
use Rattle.commit_actions.specs.Inputs.{IsUnled}
use Rattle.commit_actions.specs.Actions.{IsNumbered}

-- each server that accepts writes holds every acknowledged commit
pub record StateKeepsCommits (s : State) : Type 0 where
  pub kept : (m : ℕ) → (s.members m).writes ≡ true → (commit : ℕ) → Contains s.acknowledged commit
      → (log : List Entry) → (s.members m).log ≡ Some log → HasEntryOf commit log
  pub logs : (m : ℕ) → (s.members m).writes ≡ true → HasLog (s.members m).log

-- a member has no log, or one that begins with the acknowledged entries: it lacks no acknowledged commit
abbrev pub IsComplete : List Entry → (ℕ → Machine) → ℕ → Type 0
IsComplete acknowledged_log members m = Includes acknowledged_log (members m).log

-- whom the sync key names: its leader has the acknowledged entries, and so have its
-- standbys but a few; where there is none, nobody lacks them and nobody is live
abbrev pub IsSyncKeyKept : ℕ → List Entry → (ℕ → Machine) → Option SyncKey → Type 0
IsSyncKeyKept member_count acknowledged_log members None =
    ((m : ℕ) → IsComplete acknowledged_log members m) × ((m : ℕ) → (members m).live ≡ true → ⊥)
IsSyncKeyKept member_count acknowledged_log members (Some key) = IsComplete acknowledged_log members key.leader
    × AllBut member_count key.standbys key.quorum (IsComplete acknowledged_log members)

-- the sync key names this member as leader
pub record IsLed (sync : Option SyncKey) (m : ℕ) : Type 0 where
  pub key : SyncKey
  pub is : sync ≡ Some key
  pub leader : key.leader ≡ m

-- a position that a member confirmed is within the log; the member has
-- no log, or a front of this one that reaches the position
abbrev pub IsConfirmed : Option (List Entry) → Option (List Entry) → ℕ → Type 0
IsConfirmed None theirs end = ⊥
IsConfirmed (Some mine) None end = end ≤ end_of mine
IsConfirmed (Some mine) (Some theirs) end = IsPrefixOf theirs mine × (end ≤ end_of theirs)

-- a sync key that was read: where the present one has its revision, it is the same
pub record IsVouched (sync : Option SyncKey) (revision : ℕ) (read : SyncKey) : Type 0 where
  pub bound : read.revision ≤ revision
  pub same : (key : SyncKey) → sync ≡ Some key → key.revision ≡ read.revision → key ≡ read

-- the sync key of a snapshot, if it has one
abbrev pub IsRead : Option SyncKey → ℕ → Option SyncKey → Type 0
IsRead sync revision read = (key : SyncKey) → read ≡ Some key → IsVouched sync revision key

-- the sync key is as a request compares it
abbrev pub IsAsRead : Option SyncKey → Option ℕ → Type 0
IsAsRead None None = Unit {0}
IsAsRead None (Some r) = ⊥
IsAsRead (Some key) None = ⊥
IsAsRead (Some key) (Some r) = key.revision ≡ r

-- the logs of standbys have not diverged from the acknowledged
-- entries, and none is longer than that of their live leader
pub record AreNear (acknowledged_log : List Entry) (members : ℕ → Machine) (m : ℕ) (standbys : ℕ → Bool) : Type 0 where
  pub undiverged : (n : ℕ) → standbys n ≡ true → IsUndiverged acknowledged_log (members n).log
  pub behind : (members m).live ≡ true → (n : ℕ) → standbys n ≡ true → IsBehind (members m).log (members n).log

-- the sync key, where there is one, names this member
abbrev pub NamesMember : Option SyncKey → ℕ → Type 0
NamesMember None m = Unit {0}
NamesMember (Some key) m = (key.leader ≡ m) ⊎ (key.standbys m ≡ true)

-- what holds of a request that would be granted now
abbrev pub IsAimKept : ℕ → List Entry → (ℕ → Machine) → Option SyncKey → ℕ → Aim → Type 0
IsAimKept member_count acknowledged_log members sync m CreateLeader = Unit {0}
IsAimKept member_count acknowledged_log members sync m ClaimSync =
    ((members m).live ≡ false) × IsComplete acknowledged_log members m × NamesMember sync m
IsAimKept member_count acknowledged_log members sync m (PublishStandbys standbys quorum) =
    IsLed sync m × AllBut member_count standbys quorum (IsComplete acknowledged_log members)
    × ((members m).live ≡ true → Overlaps member_count standbys quorum (members m).required)
    × AreNear acknowledged_log members m standbys

-- a request in flight that compares the sync key
pub record IsRequestSound (member_count : ℕ) (acknowledged_log : List Entry) (members : ℕ → Machine)
    (sync : Option SyncKey) (leader : Option ℕ) (revision : ℕ) (w : SyncRequest) : Type 0 where
  pub numbered : IsNumbered (members w.member) w.incarnation w.sequence
  pub leader_bound : w.leader ≤ revision
  pub sync_bound : (r : ℕ) → w.sync ≡ Some r → r ≤ revision
  -- while the leader key is as it compares, nobody acts but its sender
  pub alone : leader ≡ Some w.leader → (n : ℕ) → Acts (members n) → n ≡ w.member
  -- the sender of a create isn't live while the sync key is as it compares
  pub creates : w.aim ≡ CreateLeader → IsAsRead sync w.sync → (members w.member).live ≡ false
  pub aim : leader ≡ Some w.leader → IsAsRead sync w.sync
      → IsAimKept member_count acknowledged_log members sync w.member w.aim

-- the same in a state
abbrev pub IsRequestKept : State → SyncRequest → Type 0
IsRequestKept s w = IsRequestSound s.member_count s.acknowledged_log s.members s.sync s.leader s.revision w

-- the grant of a create or a renewal in flight
pub record IsLeaseGrantKept (s : State) (i : ℕ) (g : LeaseGrant) : Type 0 where
  pub numbered : IsNumbered (s.members g.member) g.incarnation g.sequence
  pub given : 1 ≤ g.revision
  pub bound : g.revision ≤ s.revision
  pub read : IsRead s.sync s.revision g.sync
  pub passed : (r : ℕ) → s.leader ≡ Some r → g.revision ≤ r
  -- no request compares it yet, and no other answer hands it out
  pub fresh : (j : ℕ) (w : SyncRequest) → s.flight j ≡ Some (Requested w) → w.leader ≡ g.revision → ⊥
  pub single : (j : ℕ) (h : LeaseGrant) → s.flight j ≡ Some (LeaseGranted h) → h.revision ≡ g.revision → j ≡ i
  -- while it is waited for, the requests of its member are older, and
  -- where that member acts the sync key is as its snapshot shows it
  pub older : Waits (s.members g.member) g.incarnation g.sequence → (j : ℕ) (w : SyncRequest)
      → s.flight j ≡ Some (Requested w) → w.member ≡ g.member → w.leader < g.revision
  pub current : Waits (s.members g.member) g.incarnation g.sequence → Acts (s.members g.member) → s.sync ≡ g.sync

-- the grant of a write of the sync key in flight
pub record IsSyncGrantKept (s : State) (a : SyncGrant) : Type 0 where
  pub numbered : IsNumbered (s.members a.member) a.incarnation a.sequence
  pub leader : a.key.leader ≡ a.member
  pub bound : a.key.revision ≤ s.revision
  -- while it is waited for and its member acts, the sync key is what
  -- it wrote, and no request of its member compares that
  pub current : Waits (s.members a.member) a.incarnation a.sequence → Acts (s.members a.member) → s.sync ≡ Some a.key
  pub last : Waits (s.members a.member) a.incarnation a.sequence → (j : ℕ) (w : SyncRequest)
      → s.flight j ≡ Some (Requested w) → w.member ≡ a.member → w.sync ≡ Some a.key.revision → ⊥

-- a race, while the sync key is as its agent read it: nobody is live; of the standbys but a few,
-- each is complete, and where it answered its log ended no earlier than what was acknowledged
pub record IsRaceKept (member_count : ℕ) (acknowledged_log : List Entry) (flight : ℕ → Option Flying)
    (members : ℕ → Machine) (m incarnation : ℕ) (race : Race) (key : SyncKey) : Type 0 where
  pub unled : IsUnled flight members key.revision
  pub spared : ℕ → Bool
  pub few : count member_count spared ≤ key.quorum
  pub complete : (n : ℕ) → key.standbys n ≡ true → spared n ≡ false → IsComplete acknowledged_log members n
  pub heard : (n end : ℕ) → key.standbys n ≡ true → spared n ≡ false → race.ends n ≡ Some end
      → end_of acknowledged_log ≤ end
  pub coming : (i : ℕ) (r : RaceAnswer) → flight i ≡ Some (RaceAnswered r) → r.member ≡ m → r.incarnation ≡ incarnation
      → r.sequence ≡ race.sequence → key.standbys r.by ≡ true → spared r.by ≡ false → end_of acknowledged_log ≤ r.end

-- a race that was won, while the sync key is as its agent read it
pub record IsWonKept (acknowledged_log : List Entry) (flight : ℕ → Option Flying) (members : ℕ → Machine)
    (m : ℕ) (key : SyncKey) : Type 0 where
  pub unled : IsUnled flight members key.revision
  pub named : key.standbys m ≡ true
  pub complete : IsComplete acknowledged_log members m

-- a leader key that is there is of a member that isn't live, nor was when it asked for a
-- renewal of it, nor is anybody about to be by the grant of the sync key of this revision
pub record HolderIsNotLive (flight : ℕ → Option Flying) (members : ℕ → Machine) (leader : Option ℕ)
    (holder : ℕ) (holder_was_live : Bool) (revision : ℕ) : Type 0 where
  pub holder_not_live : (r : ℕ) → leader ≡ Some r → (members holder).live ≡ false
  pub was_not_live : (r : ℕ) → leader ≡ Some r → holder_was_live ≡ false
  pub nobody_ready : (i : ℕ) (a : SyncGrant) → flight i ≡ Some (SyncGranted a) → a.key.revision ≡ revision
      → Waits (members a.member) a.incarnation a.sequence → is_ready (members a.member).agent ≡ true → ⊥

-- a snapshot in flight. Where it shows neither a leader key nor a failsafe key, nobody is live while its
-- sync key is the present one. Where it shows no leader key and creates compare the sync key, a leader key
-- that is there then is of a member that isn't live, so that the failsafe key hasn't been written since
pub record IsSnapshotKept (creates_compare : Bool) (leader : Option ℕ) (holder : ℕ)
    (failsafe_revision : Option ℕ) (holder_was_live : Bool) (sync : Option SyncKey) (revision : ℕ)
    (flight : ℕ → Option Flying) (members : ℕ → Machine) (view : SnapshotView) : Type 0 where
  pub read : IsRead sync revision view.sync
  pub unled : view.keyless ≡ true → (key now : SyncKey) → view.sync ≡ Some key → sync ≡ Some now
      → now.revision ≡ key.revision → IsUnled flight members key.revision
  pub not_live : view.leaderless ≡ true → creates_compare ≡ true → (key now : SyncKey) → view.sync ≡ Some key
      → sync ≡ Some now → now.revision ≡ key.revision
      → HolderIsNotLive flight members leader holder holder_was_live key.revision
  pub listed : view.leaderless ≡ true → creates_compare ≡ true → (key now : SyncKey) → view.sync ≡ Some key
      → sync ≡ Some now → now.revision ≡ key.revision → failsafe_revision ≡ view.failsafe_revision

-- what holds of an agent's turn
pub record IsTurnKept (member_count : ℕ) (acknowledged_log : List Entry) (sync : Option SyncKey)
    (flight : ℕ → Option Flying) (members : ℕ → Machine) (m : ℕ) (agent : Agent) : Type 0 where
  pub race : (race : Race) (key now : SyncKey) → agent.race ≡ Some race → agent.turn ≡ Some key
      → sync ≡ Some now → now.revision ≡ key.revision
      → IsRaceKept member_count acknowledged_log flight members m agent.incarnation race key
  pub counted : (race : Race) → agent.race ≡ Some race → race.sequence ≤ agent.last
  pub won : (key now : SyncKey) → agent.won ≡ true → agent.turn ≡ Some key → sync ≡ Some now
      → now.revision ≡ key.revision → IsWonKept acknowledged_log flight members m key

-- what an agent keeps
pub record IsAgentKept (s : State) (m : ℕ) (agent : Agent) : Type 0 where
  pub incarnation : agent.incarnation ≤ (s.members m).runs
  pub turn : IsRead s.sync s.revision agent.turn
  pub turn_kept : IsTurnKept s.member_count s.acknowledged_log s.sync s.flight s.members m agent
  -- what was acknowledged ends before the noted position, or whom commits wait for has it
  pub noted : agent.leads ≡ true → (s.members m).live ≡ true
      → (end_of s.acknowledged_log ≤ agent.noted)
      ⊎ Meets s.member_count (s.members m).required (IsComplete s.acknowledged_log s.members)

-- what holds of servers, logs and the sync key
pub record AreServersKept (member_count : ℕ) (acknowledged_log : List Entry) (acknowledged : List ℕ)
    (sync : Option SyncKey) (members : ℕ → Machine) : Type 0 where
  pub key : IsSyncKeyKept member_count acknowledged_log members sync
  -- a live server: the sync key names it as leader, its log is there, and its required list covers the standbys
  pub led : (m : ℕ) → (members m).live ≡ true → IsLed sync m
  pub log : (m : ℕ) → (members m).live ≡ true → HasLog (members m).log
  pub overlaps : (m : ℕ) (key : SyncKey) → (members m).live ≡ true → sync ≡ Some key
      → Overlaps member_count key.standbys key.quorum (members m).required
  pub undiverged : (key : SyncKey) → sync ≡ Some key → AreNear acknowledged_log members key.leader key.standbys
  pub acknowledged_bytes : HaveBytes acknowledged_log
  pub lives : (m : ℕ) → (members m).writes ≡ true → (members m).live ≡ true
  pub confirmed : (m n end : ℕ) → (members m).writes ≡ true → (members m).confirmed n ≡ Some end
      → IsConfirmed (members m).log (members n).log end
  pub have_bytes : (m : ℕ) (log : List Entry) → (members m).log ≡ Some log → HaveBytes log
  pub sole : (m n : ℕ) → Acts (members m) → Acts (members n) → m ≡ n
  pub parted : (m : ℕ) → is_ready (members m).agent ≡ true → (members m).live ≡ false
  pub entered : (commit : ℕ) → Contains acknowledged commit → HasEntryOf commit acknowledged_log

-- what the claim rests on
pub record IsSound (s : State) : Type 0 where
  pub sync_bound : (key : SyncKey) → s.sync ≡ Some key → key.revision ≤ s.revision
  pub leader_bound : (r : ℕ) → s.leader ≡ Some r → r ≤ s.revision
  pub leader_given : (r : ℕ) → s.leader ≡ Some r → 1 ≤ r
  pub servers : AreServersKept s.member_count s.acknowledged_log s.acknowledged s.sync s.members
  -- messages in flight, and agents
  pub asked : (i : ℕ) (w : SyncRequest) → s.flight i ≡ Some (Requested w) → IsRequestKept s w
  pub leased : (i : ℕ) (g : LeaseGrant) → s.flight i ≡ Some (LeaseGranted g) → IsLeaseGrantKept s i g
  pub synced : (i : ℕ) (a : SyncGrant) → s.flight i ≡ Some (SyncGranted a) → IsSyncGrantKept s a
  pub shown : (i : ℕ) (view : SnapshotView) → s.flight i ≡ Some (SnapshotSent view)
      → IsSnapshotKept s.creates_compare s.leader s.holder s.failsafe_revision s.holder_was_live s.sync
      s.revision s.flight s.members view
  pub replied : (i : ℕ) (r : RaceAnswer) → s.flight i ≡ Some (RaceAnswered r)
      → IsNumbered (s.members r.member) r.incarnation r.sequence
  pub kept : (m : ℕ) (agent : Agent) → (s.members m).agent ≡ Some agent → IsAgentKept s m agent
