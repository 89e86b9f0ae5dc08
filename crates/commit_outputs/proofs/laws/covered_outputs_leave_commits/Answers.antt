use Rattle.commit_outputs.proofs.Covering.{carried, each-covers}
use Rattle.commit_outputs.proofs.laws.covered_outputs_leave_commits.Goals as goal

pub returns : goal.returns
returns c = λ member message past cluster outs none covered table.
    let covers = each-covers member message past cluster none outs (carried outs covered) table in
    (covers.own, covers.leaves, covers.aside, covers.flight)
