use Rattle.leading_parts.proofs.Arrivals.{brought-none, others-leave, reads-answered, renews-granted, stays-left}
use Rattle.leading_parts.proofs.Askers.{asks-own}
use Rattle.leading_parts.proofs.Entry.{tick-leaves}
use Rattle.leading_parts.proofs.Settings.{settings-left, settings-ticked}
use Rattle.leading_parts.proofs.laws.the_key_stays_its_holders.Goals as goal

pub returns : goal.returns
returns c = record {
  asks = λ head cluster key number carried good has found asks.
      asks-own head cluster good number carried found key has asks;
  stays = stays-left;
  others = others-leave;
  brings = brought-none;
  reads = reads-answered;
  renews = renews-granted;
  ticks = tick-leaves;
  settings = settings-left;
  times = settings-ticked;
}
