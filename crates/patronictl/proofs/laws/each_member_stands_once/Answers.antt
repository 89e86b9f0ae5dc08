use Rattle.member_rows.specs.Rows.{rows_by_number}
use Rattle.member_rows.proofs.Placing.{sorted-by-name}
use Rattle.member_rows.proofs.Standing.{stands-once}
use Rattle.patronictl.proofs.Lines.{line-of-member, members-count}
use Rattle.patronictl.proofs.laws.each_member_stands_once.Goals as goal

pub returns-clause-once : goal.returns-clause-once
returns-clause-once c = stands-once

pub returns-clause-by_name : goal.returns-clause-by_name
returns-clause-by_name c = λ seen. sorted-by-name (rows_by_number seen)

pub returns-clause-lines : goal.returns-clause-lines
returns-clause-lines c = line-of-member

pub returns-clause-no_others : goal.returns-clause-no_others
returns-clause-no_others c = members-count
