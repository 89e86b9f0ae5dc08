use Rattle.svg.proofs.Reading.{escaped-between}
use Rattle.svg.proofs.laws.no_markup_comes_of_text.Goals as goal

pub returns : goal.returns
returns c bytes names = escaped-between names bytes
