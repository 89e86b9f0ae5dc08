-- What is said of members by name.
use Rattle.std.specs.Prelude.{◌≡◌, Some}
use Rattle.pat_base.specs.declared.host.Host.{Host}
use Rattle.pat_base.specs.declared.member_id.MemberId.{MemberId}
use Rattle.pat_base.specs.declared.name.Name.{Name}
use Rattle.pat_base.specs.Name.{name_bytes}
use Rattle.cluster_view.specs.Snapshots.{SnapshotFacts}
use Rattle.member_rows.specs.Rows.{declared_in}

-- no other member of the cluster has the member's name
abbrev pub HasOwnName : SnapshotFacts → MemberId → Type 0
HasOwnName snapshot member =
    (other : MemberId) (mine its : Name × Host) → declared_in snapshot member ≡ Some mine
    → declared_in snapshot other ≡ Some its
    → name_bytes its.0 ≡ name_bytes mine.0 → other.number ≡ member.number
