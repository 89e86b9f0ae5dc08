use Rattle.lease_runs.proofs.NamedRuns.{runs-name}
use Rattle.lease_runs.proofs.laws.runs_name_their_servers.Goals as goal

pub returns : goal.returns
returns c = runs-name
