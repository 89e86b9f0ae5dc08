use Rattle.operator_keys.proofs.WhoIsNamed.{leader-called, candidate-called, failover-called}
use Rattle.operator_keys.proofs.laws.keys_name_whom_bodies_name.Goals as goal

pub returns-clause-leader : goal.returns-clause-leader
returns-clause-leader c = leader-called

pub returns-clause-candidate : goal.returns-clause-candidate
returns-clause-candidate c = candidate-called

pub returns-clause-failover : goal.returns-clause-failover
returns-clause-failover c = failover-called
