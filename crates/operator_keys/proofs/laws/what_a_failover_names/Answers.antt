use Rattle.operator_keys.proofs.WhoIsNamed.{failover-leader, failover-candidate, failover-alone}
use Rattle.operator_keys.proofs.laws.what_a_failover_names.Goals as goal

pub returns-clause-leader : goal.returns-clause-leader
returns-clause-leader c = failover-leader

pub returns-clause-candidate : goal.returns-clause-candidate
returns-clause-candidate c = failover-candidate

pub returns-clause-alone : goal.returns-clause-alone
returns-clause-alone c = failover-alone
