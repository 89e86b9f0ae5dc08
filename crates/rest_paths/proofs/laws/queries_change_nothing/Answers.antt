use Rattle.std.proofs.Common.{ap}
use Rattle.rest_paths.specs.Asking.{ask_of}
use Rattle.rest_paths.proofs.Asked.{path_of-query}
use Rattle.rest_paths.proofs.laws.queries_change_nothing.Goals as goal

pub returns : goal.returns
returns c = λ verb target query. ap (ask_of verb) (path_of-query target query)
