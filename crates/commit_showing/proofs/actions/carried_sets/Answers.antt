use Rattle.commit_showing.proofs.Renewals.{first-carried, carried-each, carried-granted}
use Rattle.commit_showing.proofs.actions.carried_sets.Goals as goal

pub returns : goal.returns
returns c = record {
  first = first-carried;
  each = carried-each;
  granted = carried-granted;
}
