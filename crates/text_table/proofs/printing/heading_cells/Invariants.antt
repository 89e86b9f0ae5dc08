use Rattle.std.proofs.Common.{◌≡◌, take}
use Rattle.text_table.specs.Tables.{headings}
use Rattle.text_table.proofs.printing.heading_cells.Given as goal

abbrev pub invariant-loop-column : goal.invariant-loop-column
invariant-loop-column l = l.cells ≡ headings (take l.column-index l.columns)
