use Rattle.std.proofs.Common.{◌≡◌, ◌++◌, map, take, string_bytes}
use Rattle.text_table.specs.Tables.{row_line}
use Rattle.text_table.proofs.printing.push_rows.Given as goal

abbrev pub invariant-loop-row : goal.invariant-loop-row
invariant-loop-row l = map string_bytes l.lines.items
    ≡ map string_bytes l.fn.lines.items ++ map (row_line l.slots) (take l.row-index l.rows)
