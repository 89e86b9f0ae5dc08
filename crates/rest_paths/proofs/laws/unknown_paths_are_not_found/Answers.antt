use Rattle.rest_paths.proofs.Asked.{ask_of-unknown}
use Rattle.rest_paths.proofs.laws.unknown_paths_are_not_found.Goals as goal

pub returns : goal.returns
returns c = ask_of-unknown
