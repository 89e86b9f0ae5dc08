use Rattle.std.proofs.Common.{◌≡◌, ◌-◌, ap, arith}
use Rattle.json_build.specs.Members.{natural}
use Rattle.rest_pages.proofs.Told.{leader-has-none, others-have-one}
use Rattle.rest_pages.proofs.laws.all_but_the_leader_lag.Goals as goal

pub returns-clause-leader : goal.returns-clause-leader
returns-clause-leader c = leader-has-none

pub returns-clause-others : goal.returns-clause-others
returns-clause-others c = others-have-one

pub returns-clause-behind : goal.returns-clause-behind
returns-clause-behind c = λ status end lag sum. let missing : status.position - end.position ≡ lag =
    omega (arith, sum) in ap natural missing

pub returns-clause-ahead : goal.returns-clause-ahead
returns-clause-ahead c = λ status end above. let missing : status.position - end.position ≡ 0 = omega (arith, above) in
    ap natural missing
