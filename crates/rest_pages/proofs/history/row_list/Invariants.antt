use Rattle.std.proofs.Common.{◌≡◌, map, take}
use Rattle.json_build.specs.Lists.{list_items}
use Rattle.rest_pages.specs.History.{ending_data}
use Rattle.rest_pages.proofs.history.row_list.Given as goal

abbrev pub invariant-loop-row : goal.invariant-loop-row
invariant-loop-row l = list_items l.list ≡ map (ending_data l.snapshot) (take l.row-index l.rows)
