use Rattle.lease_parts.proofs.Composing.{composable, one-now}
use Rattle.lease_parts.proofs.First.{bridged-first}
use Rattle.run_promise.proofs.Members.{few-names}
use Rattle.lease_parts.proofs.laws.runs_begin_bridged.Goals as goal

pub returns : goal.returns
returns c = record {
  first = λ head is unpaused. bridged-first head (few-names head is) unpaused;
  now = one-now;
  composable = composable;
}
