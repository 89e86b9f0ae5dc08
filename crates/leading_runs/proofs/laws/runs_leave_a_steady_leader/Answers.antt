use Rattle.leading_runs.proofs.Leading.{leads-on-over}
use Rattle.leading_runs.proofs.laws.runs_leave_a_steady_leader.Goals as goal

pub returns : goal.returns
returns c = λ head before later member is keep steady alone.
    leads-on-over head is before later member keep steady alone
