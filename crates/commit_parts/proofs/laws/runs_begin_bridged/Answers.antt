use Rattle.commit_parts.proofs.First.{commits-first}
use Rattle.commit_parts.proofs.Transitions.{composable}
use Rattle.commit_parts.proofs.laws.runs_begin_bridged.Goals as goal

pub returns : goal.returns
returns c = record {
  first = commits-first;
  now = λ head book cluster good. (composable head).now book cluster good;
  composable = composable;
}
