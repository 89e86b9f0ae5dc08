-- What comes of a check that an agent makes.
use Rattle.std.proofs.Common.{◌≡◌, Result, Ok, Err, ap, sym}
use Rattle.store_keys.specs.declared.action.OperatorRequest.{OperatorRequest}
use Rattle.operator_keys.specs.declared.refusal.CheckFault.{CheckFault}
use Rattle.operator_keys.specs.declared.refusal.CheckFault.TheVariants as faults
use Rattle.operator_keys.specs.declared.refusal.Refused.{Refused}
use Rattle.operator_keys.specs.Refusals.{Answers, with_fault}
use Rattle.rest_answer.specs.Decisions.{asking_for}

pub same-ok : {A E : Type 0} (x y : A) → ◌≡◌ {A = Result A E} (Ok x) (Ok y) → x ≡ y
same-ok x y e = cc

pub same-err : {A E : Type 0} (x y : E) → ◌≡◌ {A = Result A E} (Err x) (Err y) → x ≡ y
same-err x y e = cc

pub no-err : {A E : Type 0} (x : A) (y : E) → ◌≡◌ {A = Result A E} (Ok x) (Err y) → ⊥
no-err x y e = cc

given : {A : Type 0} (request : A → OperatorRequest) (x : A) (answer : Result A Refused)
    → Ok x ≡ with_fault answer → Ok (request x) ≡ with_fault (asking_for request answer)
given request x (Ok other) is = ap (λ y. Ok (request y)) (same-ok x other is)
given request x (Err refused) is = absurd (no-err x (faults.Refused refused) is)

faulted : {A : Type 0} (request : A → OperatorRequest) (fault : CheckFault) (answer : Result A Refused)
    → Err fault ≡ with_fault answer → Err fault ≡ with_fault (asking_for request answer)
faulted request fault (Ok other) is = absurd (no-err other fault (sym is))
faulted request fault (Err refused) is = ap Err (same-err fault (faults.Refused refused) is)

-- what a check gives is asked for
pub check-passes : {A : Type 0} (request : A → OperatorRequest) (x : A) (answer : Result A Refused)
    → Answers (Ok x) answer → Answers (Ok (request x)) (asking_for request answer)
check-passes request x answer answers no_want = given request x answer (answers (no-err x faults.Memory))

-- what refuses it refuses the request
pub fault-passes : {A : Type 0} (request : A → OperatorRequest) (fault : CheckFault) (answer : Result A Refused)
    → Answers (Err fault) answer → Answers {A = OperatorRequest} (Err fault) (asking_for request answer)
fault-passes request fault answer answers no_want =
    faulted request fault answer (answers (λ e. no_want (ap Err (same-err fault faults.Memory e))))
