use Rattle.lease_runs.proofs.MeasuredRuns.{runs-measured}
use Rattle.lease_runs.proofs.laws.runs_tell_measures.Goals as goal

pub returns : goal.returns
returns c = runs-measured
