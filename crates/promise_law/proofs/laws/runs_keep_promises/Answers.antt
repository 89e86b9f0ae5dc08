use Rattle.promise_law.proofs.Premises.{keeps-promises}
use Rattle.promise_law.proofs.laws.runs_keep_promises.Goals as goal

pub returns : goal.returns
returns c = λ played is. keeps-promises played is
