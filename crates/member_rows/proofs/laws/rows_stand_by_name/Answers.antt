use Rattle.member_rows.specs.Rows.{rows_by_number}
use Rattle.member_rows.proofs.Placing.{sorted-by-name}
use Rattle.member_rows.proofs.laws.rows_stand_by_name.Goals as goal

pub returns : goal.returns
returns c = λ snapshot. sorted-by-name (rows_by_number snapshot)
