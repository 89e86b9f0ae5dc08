use Rattle.rest_paths.proofs.Asked.{paths-distinct}
use Rattle.rest_paths.proofs.laws.paths_stand_for_themselves.Goals as goal

pub returns-clause-distinct : goal.returns-clause-distinct
returns-clause-distinct c = paths-distinct
