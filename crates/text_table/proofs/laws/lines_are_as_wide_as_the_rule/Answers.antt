use Rattle.text_table.proofs.Widths.{as-wide-as-the-rule}
use Rattle.text_table.proofs.laws.lines_are_as_wide_as_the_rule.Goals as goal

pub returns : goal.returns
returns c = as-wide-as-the-rule
