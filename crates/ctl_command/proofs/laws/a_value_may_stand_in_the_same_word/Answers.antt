use Rattle.ctl_command.proofs.SameWord.{same-word}
use Rattle.ctl_command.proofs.laws.a_value_may_stand_in_the_same_word.Goals as goal

pub returns : goal.returns
returns c = same-word
