use Rattle.lease_law.proofs.Starting.{good-start}
use Rattle.lease_law.proofs.Runs.{transition-kept, one-front-of}
use Rattle.lease_law.proofs.laws.carried.Goals as goal

pub returns : goal.returns
returns c = record {
  first = good-start;
  kept = transition-kept;
  sole = one-front-of;
}
