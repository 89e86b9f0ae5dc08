use Rattle.ctl_command.proofs.WordByWord.{first-counts}
use Rattle.ctl_command.proofs.laws.the_first_word_at_fault_counts.Goals as goal

pub returns : goal.returns
returns c = first-counts
