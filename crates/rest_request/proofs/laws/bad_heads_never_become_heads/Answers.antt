use Rattle.rest_request.proofs.Readings.{bad-head-never}
use Rattle.rest_request.proofs.laws.bad_heads_never_become_heads.Goals as goal

pub returns : goal.returns
returns c = bad-head-never
