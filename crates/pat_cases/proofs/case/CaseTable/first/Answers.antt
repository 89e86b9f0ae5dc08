use Rattle.pat_cases.proofs.Closed.{closed-answers}
use Rattle.pat_cases.proofs.case.CaseTable.first.Goals as goal

pub returns-clause-closed : goal.returns-clause-closed
returns-clause-closed g c closed =
    rw c.first_answer.ensures.first (closed-answers c.args.facts c.args.self.now.rows closed)
