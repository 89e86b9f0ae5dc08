-- The lines of rows.
use Rattle.std.proofs.Common.{◌≡◌, ◌∙◌, ℕ, ◌+◌, Some, length, option_map, slice_get, ap, arith}
use Rattle.std.proofs.lemmas.List.{length-map}
use Rattle.std.proofs.lemmas.Option.{slice_get-map}
use Rattle.store_keys.specs.declared.value.HistoryRow.{HistoryRow}
use Rattle.cluster_view.specs.Snapshots.{SnapshotFacts}
use Rattle.member_rows.specs.Endings.{endings}
use Rattle.member_rows.specs.Keys.{keys_in}
use Rattle.member_rows.specs.Rows.{rows_of}
use Rattle.member_rows.specs.declared.rows.Row.{Row}
use Rattle.text_table.specs.Tables.{table_lines}
use Rattle.text_table.proofs.Standing.{line-of-row, lines-count}
use Rattle.patronictl.specs.History.{history_cells, history_table}
use Rattle.patronictl.specs.Laws.{history_line, member_line}
use Rattle.patronictl.specs.Members.{member_cells, member_table}

pub line-of-member : (seen : SnapshotFacts) (place : ℕ) (row : Row) → slice_get (rows_of seen) place ≡ Some row
    → slice_get (table_lines (member_table seen)) (3 + place) ≡ Some (member_line seen row)
line-of-member seen place row is =
    line-of-row (member_table seen) place (member_cells (keys_in seen) row)
    (slice_get-map (member_cells (keys_in seen)) (rows_of seen) place
    ∙ ap (option_map (member_cells (keys_in seen))) is)

pub members-count : (seen : SnapshotFacts) → length (table_lines (member_table seen)) ≡ length (rows_of seen) + 4
members-count seen =
    omega (arith, lines-count (member_table seen), length-map (rows_of seen) (member_cells (keys_in seen)))

pub line-of-ending : (seen : SnapshotFacts) (place : ℕ) (row : HistoryRow) → slice_get (endings seen) place ≡ Some row
    → slice_get (table_lines (history_table seen)) (3 + place) ≡ Some (history_line seen row)
line-of-ending seen place row is =
    line-of-row (history_table seen) place (history_cells seen row)
    (slice_get-map (history_cells seen) (endings seen) place ∙ ap (option_map (history_cells seen)) is)

pub endings-count : (seen : SnapshotFacts) → length (table_lines (history_table seen)) ≡ length (endings seen) + 4
endings-count seen = omega (arith, lines-count (history_table seen), length-map (endings seen) (history_cells seen))
