-- What the keys of a cluster tell beside its members.
use Rattle.std.specs.Prelude.{ℕ, ◌-◌, Option, Some, None}
use Rattle.pat_base.specs.declared.lsn.Lsn.{Lsn}
use Rattle.cluster_view.specs.KeyValues.{status_in, sync_in}
use Rattle.cluster_view.specs.Snapshots.{SnapshotFacts, leader_in}
use Rattle.member_rows.specs.declared.keys.ClusterKeys.{ClusterKeys}

-- who leads, who replicates synchronously, and where the leader's log ends
abbrev pub keys_in : SnapshotFacts → ClusterKeys
keys_in snapshot = record { leader = leader_in snapshot; sync = sync_in snapshot; status = status_in snapshot }

-- how many bytes a member's log ends behind where the leader's does, as that one told last: 0 where it ends
-- further on, or the leader told nothing yet. Nothing where the member's own end isn't known, and only there
abbrev pub lag_bytes : Option Lsn → Option Lsn → Option ℕ
lag_bytes status None = None
lag_bytes None (Some end) = Some 0
lag_bytes (Some status) (Some end) = Some (status.position - end.position)
