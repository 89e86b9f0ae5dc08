use Rattle.lease_law.proofs.Delivering.{parts-shown, granted-shown, refused_outcome-shown, read-shown}
use Rattle.lease_law.proofs.laws.delivery_is_shown.Goals as goal

pub returns : goal.returns
returns c = record { granted = granted-shown; refused = refused_outcome-shown; read = read-shown; parts = parts-shown }
