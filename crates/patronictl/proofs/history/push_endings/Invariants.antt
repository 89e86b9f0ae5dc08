use Rattle.std.proofs.Common.{◌≡◌, ◌++◌, map, take}
use Rattle.patronictl.specs.History.{history_cells}
use Rattle.patronictl.proofs.history.push_endings.Given as goal

abbrev pub invariant-loop-row : goal.invariant-loop-row
invariant-loop-row l =
    l.table ≡ record l.fn.table { rows = l.fn.table.rows ++ map (history_cells l.seen) (take l.row-index l.rows) }
