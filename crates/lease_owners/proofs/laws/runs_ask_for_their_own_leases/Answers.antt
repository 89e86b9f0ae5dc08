use Rattle.lease_owners.proofs.EveryRun.{parts-keep, runs-own}
use Rattle.run_promise.proofs.Members.{few-names}
use Rattle.lease_owners.proofs.laws.runs_ask_for_their_own_leases.Goals as goal

pub returns : goal.returns
returns c = record { behind = runs-own; parts = λ head is. parts-keep head (few-names head is) }
