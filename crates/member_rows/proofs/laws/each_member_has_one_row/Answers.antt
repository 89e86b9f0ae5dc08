use Rattle.member_rows.proofs.Standing.{rows-are-of-members, stands-once}
use Rattle.member_rows.proofs.laws.each_member_has_one_row.Goals as goal

pub returns-clause-once : goal.returns-clause-once
returns-clause-once c = stands-once

pub returns-clause-rows : goal.returns-clause-rows
returns-clause-rows c = rows-are-of-members
