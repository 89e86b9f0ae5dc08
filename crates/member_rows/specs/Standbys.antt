-- Whom the sync key names as a synchronous standby.
use Rattle.std.specs.Prelude.{Bool, false, Option, Some, None}
use Rattle.pat_base.specs.declared.member_id.MemberId.{MemberId}
use Rattle.store_keys.specs.declared.value.SyncKey.{SyncKey}
use Rattle.cluster_view.specs.Naming.{is_standby}

-- a sync key is there, and names the member as standby
abbrev pub names_standby : Option SyncKey → MemberId → Bool
names_standby None member = false
names_standby (Some sync) member = is_standby member sync
