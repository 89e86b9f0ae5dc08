use Rattle.operator_keys.proofs.WhoIsNamed.{switchover-leader, switchover-candidate, switchover-standby, switchover-anyone, switchover-running, switchover-alone}
use Rattle.operator_keys.proofs.laws.what_a_switchover_names.Goals as goal

pub returns-clause-leader : goal.returns-clause-leader
returns-clause-leader c = switchover-leader

pub returns-clause-candidate : goal.returns-clause-candidate
returns-clause-candidate c = switchover-candidate

pub returns-clause-standby : goal.returns-clause-standby
returns-clause-standby c = switchover-standby

pub returns-clause-anyone : goal.returns-clause-anyone
returns-clause-anyone c = switchover-anyone

pub returns-clause-running : goal.returns-clause-running
returns-clause-running c = switchover-running

pub returns-clause-alone : goal.returns-clause-alone
returns-clause-alone c = switchover-alone
