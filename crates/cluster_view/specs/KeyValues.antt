-- What single keys of a snapshot say.
use Rattle.std.specs.Prelude.{Bool, true, false, Option, Some, None}
use Rattle.pat_base.specs.declared.lsn.Lsn.{Lsn}
use Rattle.pat_base.specs.declared.member_id.MemberId.{MemberId}
use Rattle.store_keys.specs.Defaults.{default_config}
use Rattle.store_keys.specs.declared.config.Config.{Config}
use Rattle.store_keys.specs.declared.key.Key.TheVariants as keys
use Rattle.store_keys.specs.declared.value.FailoverKey.{FailoverKey}
use Rattle.store_keys.specs.declared.value.MemberInfo.{MemberInfo}
use Rattle.store_keys.specs.declared.value.SyncKey.{SyncKey}
use Rattle.store_keys.specs.declared.value.Value.{Value}
use Rattle.store_keys.specs.declared.value.Value.TheVariants as values
use Rattle.cluster_view.specs.Snapshots.{SnapshotFacts, entry_in, settings_in, value_by}

-- what a member tells of itself, by a value of its key
abbrev pub info_by : Value → Option MemberInfo
info_by (values.Member info) = Some info
info_by _ = None

-- what the member tells of itself, where its key is there
abbrev pub info_in : SnapshotFacts → MemberId → Option MemberInfo
info_in snapshot member = value_by info_by (entry_in (keys.Member member) snapshot)

-- what the configuration sets
abbrev pub config_in : SnapshotFacts → Config
config_in snapshot = settings_in default_config snapshot

-- the failover that a value of the failover key asks for
abbrev pub failover_by : Value → Option FailoverKey
failover_by (values.Failover failover) = Some failover
failover_by _ = None

-- the failover or the switchover that is asked for, if one is
abbrev pub failover_in : SnapshotFacts → Option FailoverKey
failover_in snapshot = value_by failover_by (entry_in keys.Failover snapshot)

-- who replicates synchronously, by a value of the sync key
abbrev pub sync_by : Value → Option SyncKey
sync_by (values.Sync sync) = Some sync
sync_by _ = None

-- who replicates synchronously, where the sync key is there
abbrev pub sync_in : SnapshotFacts → Option SyncKey
sync_in snapshot = value_by sync_by (entry_in keys.Sync snapshot)

-- where the leader's log ends, by a value of the status key
abbrev pub status_by : Value → Option Lsn
status_by (values.Status end) = Some end
status_by _ = None

-- where the leader's log ends, as it told last, if it did
abbrev pub status_in : SnapshotFacts → Option Lsn
status_in snapshot = value_by status_by (entry_in keys.Status snapshot)

-- the sync key, where the synchronous mode is on
abbrev pub active_sync_where : Bool → Option SyncKey → Option SyncKey
active_sync_where false sync = None
active_sync_where true sync = sync

-- the sync key, where the synchronous mode is active: it is on, and the key is there
abbrev pub active_sync_in : SnapshotFacts → Option SyncKey
active_sync_in snapshot = active_sync_where (config_in snapshot).synchronous_mode (sync_in snapshot)
