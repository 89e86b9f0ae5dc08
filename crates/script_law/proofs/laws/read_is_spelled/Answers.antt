use Rattle.script_grammar.proofs.ReadLaws.{read-is-spelled}
use Rattle.script_law.proofs.laws.read_is_spelled.Goals as goal

pub returns : goal.returns
returns c = read-is-spelled
