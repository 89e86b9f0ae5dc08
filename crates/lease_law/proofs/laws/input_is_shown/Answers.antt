use Rattle.lease_law.proofs.Showing.{input-shown-of}
use Rattle.lease_law.proofs.laws.input_is_shown.Goals as goal

pub returns : goal.returns
returns c = input-shown-of
