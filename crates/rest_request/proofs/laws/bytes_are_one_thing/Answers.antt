use Rattle.rest_request.proofs.Readings.{one-thing}
use Rattle.rest_request.proofs.laws.bytes_are_one_thing.Goals as goal

pub returns : goal.returns
returns c = one-thing
