-- `/failsafe`: whom the leader may ask while the key store is out of
-- reach (Patroni documentation, "DCS Failsafe Mode").
use Rattle.std.specs.Prelude.{ℕ, Bool, false, if◌then◌else◌, List, fold, Option, Some, None}
use Rattle.std.specs.List.{filter_map, range_with_len}
use Rattle.serde_json.specs.Data.{Data, object, string, Members, no_members, put}
use Rattle.pat_base.specs.declared.host.Host.{Host}
use Rattle.pat_base.specs.declared.member_id.MemberId.{MemberId}
use Rattle.pat_base.specs.declared.member_id.TheConstants.{MOST_MEMBERS}
use Rattle.pat_base.specs.declared.member_set.MemberSet.{MemberSet}
use Rattle.pat_base.specs.declared.name.Name.{Name}
use Rattle.pat_base.specs.Host.{host_bytes}
use Rattle.pat_base.specs.MemberId.{member_of}
use Rattle.pat_base.specs.Name.{name_bytes}
use Rattle.cluster_view.specs.KeyValues.{config_in}
use Rattle.cluster_view.specs.Naming.{is_one_of}
use Rattle.cluster_view.specs.Snapshots.{SnapshotFacts, failsafe_in}
use Rattle.member_rows.specs.Rows.{declared_in}

-- the set, if there is one, lists the member
abbrev pub lists_member : Option MemberSet → MemberId → Bool
lists_member None member = false
lists_member (Some members) member = is_one_of member members

-- the name and the host of the member, where the set lists it
abbrev pub listed_in : SnapshotFacts → Option MemberSet → MemberId → Option (Name × Host)
listed_in snapshot members member = if lists_member members member then declared_in snapshot member else None

-- the name and the host of a member, if there is one and the set lists it
abbrev pub listed_by : SnapshotFacts → Option MemberSet → Option MemberId → Option (Name × Host)
listed_by snapshot members None = None
listed_by snapshot members (Some member) = listed_in snapshot members member

-- the name and the host of the member of this number, where the set lists it
abbrev pub listed_numbered : SnapshotFacts → Option MemberSet → ℕ → Option (Name × Host)
listed_numbered snapshot members number = listed_by snapshot members (member_of number)

-- the names and the hosts of the members that the set lists, by their numbers
abbrev pub listed_of : SnapshotFacts → Option MemberSet → List (Name × Host)
listed_of snapshot members = filter_map (listed_numbered snapshot members) (range_with_len 0 MOST_MEMBERS)

-- the members of an object, with the host of a member at its name
abbrev pub with_host : Members → Name × Host → Members
with_host hosts member = put (name_bytes member.0) (string (host_bytes member.1)) hosts

-- an object's members from names to hosts
abbrev pub host_members : List (Name × Host) → Members
host_members members = fold with_host no_members members

-- the page, where failsafe mode is on: the hosts of the members in the failsafe key, at their names
abbrev pub failsafe_data : SnapshotFacts → Option Data
failsafe_data snapshot =
    if (config_in snapshot).failsafe_mode
    then Some (object (host_members (listed_of snapshot (failsafe_in snapshot)))) else None
