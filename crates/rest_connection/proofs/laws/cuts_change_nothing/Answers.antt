use Rattle.rest_connection.proofs.Pieces.{asks-one}
use Rattle.rest_connection.proofs.laws.cuts_change_nothing.Goals as goal

pub returns : goal.returns
returns c = asks-one
