use Rattle.lease_owners.proofs.Asking.{input-asks-own, input-keeps-as}
use Rattle.lease_owners.proofs.laws.agents_ask_for_their_own_leases.Goals as goal

pub returns : goal.returns
returns c = record { asks = input-asks-own; holds = input-keeps-as }
