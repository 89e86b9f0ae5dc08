use Rattle.std.proofs.Common.{Result, subst}
use Rattle.store_keys.specs.declared.action.OperatorRequest.TheVariants as requests
use Rattle.store_keys.specs.declared.value.FailoverKey.{FailoverKey}
use Rattle.operator_keys.specs.declared.refusal.CheckFault.{CheckFault}
use Rattle.operator_keys.specs.Refusals.{Answers}
use Rattle.rest_answer.proofs.Deciding.{check-passes, fault-passes}
use Rattle.rest_answer.proofs.decisions.failing_over.Goals as goal

pub returns-in-Ok : goal.returns-in-Ok
returns-in-Ok c = λ answer answers. check-passes (requests.Failover c.args.kind) c.in-Ok.failover answer
    (subst (λ (r : Result FailoverKey CheckFault). Answers r answer) c.in-Ok.is answers)

pub returns-in-Err : goal.returns-in-Err
returns-in-Err c = λ answer answers. fault-passes (requests.Failover c.args.kind) c.in-Err.fault answer
    (subst (λ (r : Result FailoverKey CheckFault). Answers r answer) c.in-Err.is answers)
