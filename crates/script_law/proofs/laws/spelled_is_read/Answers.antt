use Rattle.script_law.proofs.SpellLaws.{spelled-is-read}
use Rattle.script_law.proofs.laws.spelled_is_read.Goals as goal

pub returns : goal.returns
returns c = spelled-is-read
