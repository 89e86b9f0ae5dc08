-- The names of members.
use Rattle.std.specs.Prelude.{ℕ, List, [], Option, Some, None}
use Rattle.pat_base.specs.declared.host.Host.{Host}
use Rattle.pat_base.specs.declared.member_id.MemberId.{MemberId}
use Rattle.pat_base.specs.declared.name.Name.{Name}
use Rattle.pat_base.specs.Name.{name_bytes}
use Rattle.cluster_view.specs.Snapshots.{SnapshotFacts}
use Rattle.member_rows.specs.Rows.{declared_in}

-- the name of a member, empty where there is none
abbrev pub name_of : Option (Name × Host) → List ℕ
name_of None = []
name_of (Some declared) = name_bytes declared.0

-- the name of a member of the cluster, empty where the cluster has no such member
abbrev pub name_in : SnapshotFacts → MemberId → List ℕ
name_in seen member = name_of (declared_in seen member)
