use Rattle.std.proofs.Common.{◌≡◌}
use Rattle.std.specs.List.{filter_map, range_with_len}
use Rattle.member_rows.specs.Rows.{in_name_order, row_numbered}
use Rattle.member_rows.proofs.rows.rows_of.Given as goal

abbrev pub invariant-loop-number : goal.invariant-loop-number
invariant-loop-number l =
    l.rows.items ≡ in_name_order (filter_map (row_numbered l.snapshot) (range_with_len 0 l.number))
