use Rattle.lease_runs.proofs.EveryRun.{runs-one}
use Rattle.rest_law.proofs.Found.{one-found}
use Rattle.rest_law.proofs.laws.one_member_is_found_as_primary.Goals as goal

pub returns : goal.returns
returns c = λ head steps is front rest whole met.
    one-found head front (runs-one head is steps front rest whole met.timely met.hands_off)
