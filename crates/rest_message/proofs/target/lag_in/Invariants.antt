use Rattle.std.proofs.Common.{◌≡◌, length}
use Rattle.rest_message.specs.Targets.{lag_in}
use Rattle.rest_message.proofs.target.lag_in.Given as goal

abbrev pub decreases-parameters : goal.decreases-parameters
decreases-parameters l = length l.rest

abbrev pub invariant-parameters : goal.invariant-parameters
invariant-parameters l = lag_in l.rest ≡ lag_in l.query
