use Rattle.rest_request.proofs.Readings.{stays}
use Rattle.rest_request.proofs.laws.answers_stay.Goals as goal

pub returns : goal.returns
returns c = stays
