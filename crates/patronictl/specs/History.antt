-- `history`: how the timelines ended (Patroni documentation, "patronictl", "patronictl history").
use Rattle.std.specs.Prelude.{ℕ, List, [], ◌∷◌, map, codes, None}
use Rattle.std.specs.Fmt.{decimal}
use Rattle.store_keys.specs.declared.value.HistoryRow.{HistoryRow}
use Rattle.cluster_view.specs.Snapshots.{SnapshotFacts}
use Rattle.member_rows.specs.Endings.{end_reason, endings}
use Rattle.text_table.specs.Tables.{ColumnText, TableText, column}
use Rattle.text_table.specs.declared.alignment.Alignment.TheVariants as sides
use Rattle.patronictl.specs.Names.{name_in}

-- the columns
abbrev pub history_columns : List ColumnText
history_columns =
    column (codes "TL") sides.Right ∷ column (codes "LSN") sides.Right ∷ column (codes "Reason") sides.Left
    ∷ column (codes "Timestamp") sides.Left ∷ column (codes "New Leader") sides.Left ∷ []

-- the number of a timeline, where, why and when it ended, and who took over
abbrev pub history_cells : SnapshotFacts → HistoryRow → List (List ℕ)
history_cells seen row =
    decimal row.timeline ∷ decimal row.at.position ∷ end_reason ∷ decimal row.tick.0 ∷ name_in seen row.leader ∷ []

-- the columns, without a title
abbrev pub history_without_rows : TableText
history_without_rows = record { title = None; columns = history_columns; rows = [] }

-- the timelines that ended, in their order
abbrev pub history_table : SnapshotFacts → TableText
history_table seen = record history_without_rows { rows = map (history_cells seen) (endings seen) }
