use Rattle.text_table.proofs.Widths.{as-wide-as-the-rule}
use Rattle.patronictl.specs.History.{history_table}
use Rattle.patronictl.specs.Members.{member_table}
use Rattle.patronictl.proofs.Rooms.{title-has-room}
use Rattle.patronictl.proofs.laws.lines_are_as_wide_as_the_rule.Goals as goal

pub returns-clause-members : goal.returns-clause-members
returns-clause-members c = λ seen. as-wide-as-the-rule (member_table seen) (title-has-room seen)

pub returns-clause-endings : goal.returns-clause-endings
returns-clause-endings c = λ seen. as-wide-as-the-rule (history_table seen) tt
