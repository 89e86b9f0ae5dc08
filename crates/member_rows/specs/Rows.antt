-- The members that tell of themselves, in the order of their names.
use Rattle.std.specs.Prelude.{ℕ, Bool, List, [], fold, slice_get, Option, Some, None}
use Rattle.std.specs.Cmp.Lexicographic.{slice_cmp}
use Rattle.std.specs.List.{filter_map, insert, position_or_len, range_with_len}
use Rattle.std.specs.Ordering.{nat_cmp, is_lt}
use Rattle.pat_base.specs.declared.host.Host.{Host}
use Rattle.pat_base.specs.declared.member_id.MemberId.{MemberId}
use Rattle.pat_base.specs.declared.member_id.TheConstants.{MOST_MEMBERS}
use Rattle.pat_base.specs.declared.name.Name.{Name}
use Rattle.pat_base.specs.MemberId.{member_of}
use Rattle.pat_base.specs.Name.{name_bytes}
use Rattle.store_keys.specs.declared.value.MemberInfo.{MemberInfo}
use Rattle.cluster_view.specs.KeyValues.{info_in}
use Rattle.cluster_view.specs.Snapshots.{SnapshotFacts}
use Rattle.member_rows.specs.declared.rows.Row.{Row}

-- what there was, with what was found added, if something was
abbrev pub with_found : {A B : Type 0} → (B → A → B) → B → Option A → B
with_found add before None = before
with_found add before (Some found) = add before found

-- the name and the host of the member, if the cluster has it
abbrev pub declared_in : SnapshotFacts → MemberId → Option (Name × Host)
declared_in snapshot member = slice_get snapshot.members member.number

-- the row of a member that the cluster has and that tells of itself
abbrev pub row_by : MemberId → Option (Name × Host) → Option MemberInfo → Option Row
row_by member None told = None
row_by member (Some declared) None = None
row_by member (Some declared) (Some info) = Some (record { member = member; name = declared.0; info = info })

-- the row of the member, if it has one
abbrev pub row_in : SnapshotFacts → MemberId → Option Row
row_in snapshot member = row_by member (declared_in snapshot member) (info_in snapshot member)

-- the row of a member, if there is one
abbrev pub row_of : SnapshotFacts → Option MemberId → Option Row
row_of snapshot None = None
row_of snapshot (Some member) = row_in snapshot member

-- the row of the member of this number, if it has one
abbrev pub row_numbered : SnapshotFacts → ℕ → Option Row
row_numbered snapshot number = row_of snapshot (member_of number)

-- the rows, by the numbers of their members
abbrev pub rows_by_number : SnapshotFacts → List Row
rows_by_number snapshot = filter_map (row_numbered snapshot) (range_with_len 0 MOST_MEMBERS)

-- a row's name comes before that of another, in byte order
abbrev pub is_before : Row → Row → Bool
is_before row other = is_lt (slice_cmp nat_cmp (name_bytes row.name) (name_bytes other.name))

-- the rows, with one more before the first whose name is later
abbrev pub placed : List Row → Row → List Row
placed rows row = insert rows (position_or_len (is_before row) rows) row

-- the rows in the order of their names
abbrev pub in_name_order : List Row → List Row
in_name_order rows = fold placed [] rows

-- the members that tell of themselves, in the order of their names
abbrev pub rows_of : SnapshotFacts → List Row
rows_of snapshot = in_name_order (rows_by_number snapshot)
