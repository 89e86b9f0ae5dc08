-- The lines of members and of timelines.
use Rattle.std.specs.Prelude.{ℕ, List}
use Rattle.store_keys.specs.declared.value.HistoryRow.{HistoryRow}
use Rattle.cluster_view.specs.Snapshots.{SnapshotFacts}
use Rattle.member_rows.specs.Keys.{keys_in}
use Rattle.member_rows.specs.declared.rows.Row.{Row}
use Rattle.text_table.specs.Tables.{TableText, row_line, slots_of}
use Rattle.patronictl.specs.History.{history_cells, history_table}
use Rattle.patronictl.specs.Members.{member_cells, member_table}

-- the line of these cells in a table
abbrev pub line_in : TableText → List (List ℕ) → List ℕ
line_in table cells = row_line (slots_of table.columns table.rows) cells

-- the line of a member
abbrev pub member_line : SnapshotFacts → Row → List ℕ
member_line seen row = line_in (member_table seen) (member_cells (keys_in seen) row)

-- the line of a timeline that ended
abbrev pub history_line : SnapshotFacts → HistoryRow → List ℕ
history_line seen row = line_in (history_table seen) (history_cells seen row)
