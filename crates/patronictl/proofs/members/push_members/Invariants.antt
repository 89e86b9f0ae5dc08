use Rattle.std.proofs.Common.{◌≡◌, ◌++◌, map, take}
use Rattle.patronictl.specs.Members.{member_cells}
use Rattle.patronictl.proofs.members.push_members.Given as goal

abbrev pub invariant-loop-row : goal.invariant-loop-row
invariant-loop-row l =
    l.table ≡ record l.fn.table { rows = l.fn.table.rows ++ map (member_cells l.keys) (take l.row-index l.rows) }
