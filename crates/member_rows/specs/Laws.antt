-- What is said of rows.
use Rattle.std.specs.Prelude.{◌==◌, Bool}
use Rattle.pat_base.specs.declared.member_id.MemberId.{MemberId}
use Rattle.member_rows.specs.declared.rows.Row.{Row}

-- the row is that of the member
abbrev pub is_row_of : MemberId → Row → Bool
is_row_of member row = row.member.number == member.number
