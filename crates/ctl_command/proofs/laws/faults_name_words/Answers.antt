use Rattle.ctl_command.proofs.WordByWord.{unknown-named, extra-named}
use Rattle.ctl_command.proofs.laws.faults_name_words.Goals as goal

pub returns-clause-unknown : goal.returns-clause-unknown
returns-clause-unknown c = unknown-named

pub returns-clause-extra : goal.returns-clause-extra
returns-clause-extra c = extra-named
