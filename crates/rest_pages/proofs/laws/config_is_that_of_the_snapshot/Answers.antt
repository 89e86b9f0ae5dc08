use Rattle.rest_pages.proofs.Texts.{configuration-told}
use Rattle.rest_pages.proofs.laws.config_is_that_of_the_snapshot.Goals as goal

pub returns : goal.returns
returns c = configuration-told
