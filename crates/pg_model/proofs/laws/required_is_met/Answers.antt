use Rattle.pg_model.proofs.Acks.{is_met-to, is_met-from}
use Rattle.pg_model.proofs.laws.required_is_met.Goals as goal

pub returns : goal.returns
returns c list end confirmed = (is_met-to list end confirmed, is_met-from list end confirmed)
