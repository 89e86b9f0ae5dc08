use Rattle.std.proofs.Common.{[]}
use Rattle.svg.proofs.Reading.{forest-between}
use Rattle.svg.proofs.laws.forests_are_well_formed.Goals as goal

pub returns : goal.returns
returns c forest = forest-between [] forest
