-- What an agent reads of the sync key, and whom commits come to wait for (Patroni, "Replication modes").
use Rattle.std.specs.Prelude.{ℕ, ◌==◌, ◌&&◌, ◌||◌, if◌then◌else◌, Bool, true, Option, Some, None}
use Rattle.pat_base.specs.declared.member_id.MemberId.{MemberId}
use Rattle.pat_base.specs.declared.member_set.MemberSet.{MemberSet}
use Rattle.pat_base.specs.declared.server_state.Required.{Required}
use Rattle.pat_base.specs.declared.server_state.Required.TheVariants as requireds
use Rattle.store_keys.specs.declared.config.Config.{Config}
use Rattle.store_keys.specs.declared.key.Key.TheVariants as keys
use Rattle.store_keys.specs.declared.txn.Expected.{Expected}
use Rattle.store_keys.specs.declared.txn.Expected.TheVariants.{Absent, Revision}
use Rattle.store_keys.specs.declared.value.SyncKey.{SyncKey}
use Rattle.store_keys.specs.declared.value.Value.{Value}
use Rattle.cluster_view.specs.KeyValues.{sync_by}
use Rattle.cluster_view.specs.Naming.{is_failover_to, is_named}
use Rattle.cluster_view.specs.Snapshots.{SnapshotFacts, entry_in, found_by}
use Rattle.agent_model.specs.declared.knowledge.Knowledge.{Knowledge}
use Rattle.agent_model.specs.declared.knowledge.SyncRead.{SyncRead}

-- a sync key that was written under this revision
abbrev pub sync_read_by : ℕ → Option SyncKey → Option SyncRead
sync_read_by revision None = None
sync_read_by revision (Some key) = Some (record { key = key; revision = revision })

-- the same of a value of it
abbrev pub sync_read_at : ℕ → Value → Option SyncRead
sync_read_at revision value = sync_read_by revision (sync_by value)

-- the sync key that a snapshot has, with its revision
abbrev pub sync_read_in : SnapshotFacts → Option SyncRead
sync_read_in snapshot = found_by sync_read_at (entry_in keys.Sync snapshot)

-- the same of a snapshot that may be absent
abbrev pub sync_read_if : Option SnapshotFacts → Option SyncRead
sync_read_if None = None
sync_read_if (Some snapshot) = sync_read_in snapshot

-- what a request expects of a sync key that was read so
abbrev pub expected_of : Option SyncRead → Expected
expected_of None = Absent
expected_of (Some read) = Revision read.revision

-- the key that was read doesn't keep this member from leading: it names it, or there is none
abbrev pub is_named_if : MemberId → Option SyncRead → Bool
is_named_if me None = true
is_named_if me (Some read) = is_named me read.key

-- in synchronous mode only a member may lead that the sync key names, as the turn read
-- both, since another may lack an acknowledged commit; or one that a failover by hand names
abbrev pub may_lead_in_sync : Knowledge → Bool
may_lead_in_sync knows =
    if knows.turn_settings.synchronous_mode
    then is_named_if knows.who.me knows.turn_sync || is_failover_to knows.who.me knows.turn_failover else true

-- commits wait for some standby in synchronous mode, also where none is named
abbrev pub is_strict : Config → Bool
is_strict settings = settings.synchronous_mode && settings.synchronous_mode_strict

-- whom commits wait for where no standby is named
abbrev pub unnamed : Config → Required
unnamed settings = if is_strict settings then requireds.AnyOne else requireds.Nobody

-- whom commits wait for where these standbys are named
abbrev pub waiting_for : Config → MemberSet → Required
waiting_for settings standbys = if standbys.bits == 0 then unnamed settings else requireds.All standbys
