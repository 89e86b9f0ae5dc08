use Rattle.text_table.proofs.Standing.{line-of-row, lines-count}
use Rattle.text_table.proofs.laws.each_row_stands_once.Goals as goal

pub returns-clause-rows : goal.returns-clause-rows
returns-clause-rows c = line-of-row

pub returns-clause-count : goal.returns-clause-count
returns-clause-count c = lines-count
