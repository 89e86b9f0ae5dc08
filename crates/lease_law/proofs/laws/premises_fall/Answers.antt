use Rattle.lease_law.proofs.Falling.{timely-front, hands-off-front}
use Rattle.lease_law.proofs.laws.premises_fall.Goals as goal

pub returns : goal.returns
returns c = record {
  timely = timely-front;
  hands_off = hands-off-front;
}
