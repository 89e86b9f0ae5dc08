use Rattle.std.proofs.Common.{◌≡◌, ◌++◌, codes, take, string_bytes}
use Rattle.text_table.specs.Tables.{cells_from}
use Rattle.text_table.proofs.printing.row_line.Given as goal

abbrev pub invariant-loop-place : goal.invariant-loop-place
invariant-loop-place l = string_bytes l.line ≡ codes "|" ++ cells_from 0 (take l.place l.slots) l.row
