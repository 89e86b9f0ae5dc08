use Rattle.commit_showing.proofs.Fronts.{inv-first, kept-after, kept-inside}
use Rattle.commit_showing.proofs.actions.carried.Goals as goal

pub returns : goal.returns
returns c = record {
  first = inv-first;
  kept = kept-after;
  inside = kept-inside;
}
