use Rattle.summary_law.proofs.Steps.{watches-first, step-watches, steps-watched, watched-guarded, steps-guarded}
use Rattle.summary_law.proofs.sight_laws.measured_sights_suffice.Goals as goal

pub returns : goal.returns
returns c = record {
  first = watches-first;
  each = step-watches;
  all = steps-watched;
  watched = watched-guarded;
  guard = steps-guarded;
}
