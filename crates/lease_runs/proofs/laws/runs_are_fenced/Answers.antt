use Rattle.lease_runs.proofs.MeasuredRuns.{runs-fenced}
use Rattle.lease_runs.proofs.laws.runs_are_fenced.Goals as goal

pub returns : goal.returns
returns c = runs-fenced
