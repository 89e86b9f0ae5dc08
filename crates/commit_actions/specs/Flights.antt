-- Messages in flight, as far as commits need them.
use Rattle.std.specs.Prelude.{ℕ, Bool, Option}
use Rattle.commit_actions.specs.Keys.{SyncKey}

-- what a request that compares the sync key is for: to become the leader in the sync key, without a standby;
-- to create the leader key; to name the standbys, and how many of them may lack an acknowledged commit
pub data Aim : Type 0 where
  ClaimSync : Aim
  CreateLeader : Aim
  PublishStandbys : (standbys : ℕ → Bool) → (quorum : ℕ) → Aim

-- a request that compares the sync key: its sender, the sender's incarnation, its number
-- in that one, the revision of the leader key that it compares, that of the sync key or
-- its absence, and what it is for. One that creates the leader key compares its absence
pub record SyncRequest : Type 0 where
  pub member : ℕ
  pub incarnation : ℕ
  pub sequence : ℕ
  pub leader : ℕ
  pub sync : Option ℕ
  pub aim : Aim

-- the grant of a create or a renewal of the leader key: its revision, and the sync key of its snapshot
pub record LeaseGrant : Type 0 where
  pub member : ℕ
  pub incarnation : ℕ
  pub sequence : ℕ
  pub revision : ℕ
  pub sync : Option SyncKey

-- the grant of a write of the sync key, and the key that it wrote
pub record SyncGrant : Type 0 where
  pub member : ℕ
  pub incarnation : ℕ
  pub sequence : ℕ
  pub key : SyncKey

-- the answer of a member to another that asks in a race: where the log of who answers ends
pub record RaceAnswer : Type 0 where
  pub member : ℕ
  pub incarnation : ℕ
  pub sequence : ℕ
  pub by : ℕ
  pub end : ℕ

-- a snapshot: its sync key; whether there was neither a leader key nor a failsafe key, so
-- that nobody acted; whether there was no leader key; and the revision of its failsafe key
pub record SnapshotView : Type 0 where
  pub sync : Option SyncKey
  pub keyless : Bool
  pub leaderless : Bool
  pub failsafe_revision : Option ℕ

-- a message in flight that commits depend on
pub data Flying : Type 0 where
  Requested : SyncRequest → Flying
  LeaseGranted : LeaseGrant → Flying
  SyncGranted : SyncGrant → Flying
  SnapshotSent : SnapshotView → Flying
  RaceAnswered : RaceAnswer → Flying
