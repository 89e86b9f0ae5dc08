use Rattle.json_text.proofs.Outlines.{compact-is-read}
use Rattle.json_text.proofs.laws.compact_texts_are_read_again.Goals as goal

pub returns : goal.returns
returns c = λ bytes value utf8 e whole. compact-is-read bytes value utf8 e whole
