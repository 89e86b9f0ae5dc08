use Rattle.std.proofs.Common.{[]}
use Rattle.svg.proofs.Reading.{forest-between}
use Rattle.picture.specs.Pictures.{picture_text, picture_tree}
use Rattle.picture.proofs.laws.pictures_are_well_formed.Goals as goal

pub returns : goal.returns
unfolding picture_text
returns c run = forest-between [] (picture_tree run)
