-- `list`: the members of a cluster (Patroni documentation, "patronictl", "patronictl list").
use Rattle.std.specs.Prelude.{ℕ, if◌then◌else◌, List, [], ◌∷◌, ◌++◌, map, codes, Option, Some, None}
use Rattle.std.specs.Fmt.{decimal}
use Rattle.pat_base.specs.declared.name.Name.{Name}
use Rattle.pat_base.specs.Host.{host_bytes}
use Rattle.pat_base.specs.Name.{name_bytes}
use Rattle.pat_base.specs.Word.{word_text}
use Rattle.cluster_view.specs.Snapshots.{SnapshotFacts}
use Rattle.cluster_view.specs.Naming.{leads}
use Rattle.member_rows.specs.Keys.{keys_in, lag_bytes}
use Rattle.member_rows.specs.Rows.{rows_of}
use Rattle.member_rows.specs.Standbys.{names_standby}
use Rattle.member_rows.specs.declared.keys.ClusterKeys.{ClusterKeys}
use Rattle.member_rows.specs.declared.rows.Row.{Row}
use Rattle.text_table.specs.Tables.{ColumnText, TableText, column}
use Rattle.text_table.specs.declared.alignment.Alignment.TheVariants as sides
use Rattle.patronictl.specs.Lags.{megabytes}
use Rattle.patronictl.specs.Roles.{role_word}

-- the columns
abbrev pub member_columns : List ColumnText
member_columns =
    column (codes "Member") sides.Left ∷ column (codes "Host") sides.Left ∷ column (codes "Role") sides.Left
    ∷ column (codes "State") sides.Left ∷ column (codes "TL") sides.Right ∷ column (codes "Lag in MB") sides.Right ∷ []

-- a timeline, empty where it isn't known
abbrev pub timeline_cell : Option ℕ → List ℕ
timeline_cell None = []
timeline_cell (Some timeline) = decimal timeline

-- a lag in bytes, told in megabytes, or that it isn't known
abbrev pub lag_cell_of : Option ℕ → List ℕ
lag_cell_of None = codes "unknown"
lag_cell_of (Some bytes) = decimal (megabytes bytes)

-- how far a member lags, empty where it is the leader
abbrev pub lag_cell : ClusterKeys → Row → List ℕ
lag_cell keys row = if leads row.member keys.leader then [] else lag_cell_of (lag_bytes keys.status row.info.end)

-- what the table tells of a member
abbrev pub member_cells : ClusterKeys → Row → List (List ℕ)
member_cells keys row =
    name_bytes row.name ∷ host_bytes row.info.host
    ∷ role_word (leads row.member keys.leader) (names_standby keys.sync row.member)
    ∷ word_text row.info.state ∷ timeline_cell row.info.timeline ∷ lag_cell keys row ∷ []

-- the title of the table of a cluster of this name
abbrev pub cluster_title : Name → List ℕ
cluster_title cluster = codes "Cluster: " ++ name_bytes cluster

-- the title and the columns
abbrev pub table_without_rows : Name → TableText
table_without_rows cluster = record { title = Some (cluster_title cluster); columns = member_columns; rows = [] }

-- the members that have a member key, in the order of their names
abbrev pub member_table : SnapshotFacts → TableText
member_table seen = record (table_without_rows seen.scope) { rows = map (member_cells (keys_in seen)) (rows_of seen) }
