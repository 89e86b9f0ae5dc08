use Rattle.json_text.proofs.Texts.{read-length}
use Rattle.json_text.proofs.laws.compact_texts_are_no_longer.Goals as goal

pub returns : goal.returns
returns c = λ bytes value e. read-length bytes value e
