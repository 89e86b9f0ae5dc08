use Rattle.rest_paths.proofs.Filling.{IsFilled}
use Rattle.rest_paths.proofs.routing.Routes.new.Given as goal

abbrev pub invariant-loop-path : goal.invariant-loop-path
invariant-loop-path l = IsFilled l.path-items l.path-index l.router
