-- Whom the sync key names.
use Rattle.std.specs.Prelude.{Bool, false, Option, Some, None}
use Rattle.pat_base.specs.declared.member_id.MemberId.{MemberId}
use Rattle.pat_base.specs.declared.member_set.MemberSet.{MemberSet}
use Rattle.store_keys.specs.declared.value.SyncKey.{SyncKey}
use Rattle.cluster_view.specs.KeyValues.{sync_in}
use Rattle.cluster_view.specs.Naming.{is_named}
use Rattle.cluster_view.specs.Snapshots.{SnapshotFacts}
use Rattle.sync_state.specs.Sets.{nobody}

-- a sync key names the member, as leader or as standby, if there is a key
abbrev pub named_by : MemberId → Option SyncKey → Bool
named_by member None = false
named_by member (Some sync) = is_named member sync

-- the sync key of a snapshot names the member, as leader or as standby
abbrev pub named_in : MemberId → SnapshotFacts → Bool
named_in member seen = named_by member (sync_in seen)

-- the standbys that a sync key names, if there is a key
abbrev pub standbys_of : Option SyncKey → MemberSet
standbys_of None = nobody
standbys_of (Some sync) = sync.standbys

-- the published standbys: those that the sync key of a snapshot names
abbrev pub published_in : SnapshotFacts → MemberSet
published_in seen = standbys_of (sync_in seen)
