-- What the key store makes of a member.
use Rattle.std.specs.Prelude.{Bool, false, Option, Some, None}
use Rattle.pat_base.specs.declared.member_id.MemberId.{MemberId}
use Rattle.store_keys.specs.declared.value.SyncKey.{SyncKey}
use Rattle.cluster_view.specs.KeyValues.{sync_in}
use Rattle.cluster_view.specs.Naming.{is_standby}
use Rattle.cluster_view.specs.Snapshots.{SnapshotFacts}

-- the sync key, if there is one, names the member as a standby
abbrev pub is_standby_of : MemberId → Option SyncKey → Bool
is_standby_of me None = false
is_standby_of me (Some sync) = is_standby me sync

-- the sync key of the newest snapshot does, if there is one
abbrev pub is_standby_on : MemberId → Option SnapshotFacts → Bool
is_standby_on me None = false
is_standby_on me (Some seen) = is_standby_of me (sync_in seen)
