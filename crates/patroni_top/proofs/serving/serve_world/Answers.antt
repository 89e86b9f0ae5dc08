use Rattle.std.proofs.Common.{List, ◌++◌}
use Rattle.std.proofs.lemmas.Result.{on_ok_weaker}
use Rattle.cluster_model.specs.declared.step.Step.{Step}
use Rattle.run_model.specs.Run.{Played}
use Rattle.promise_law.proofs.Premises.{keeps-promises}
use Rattle.patroni_top.proofs.serving.serve_world.Goals as goal

abbrev run_on : Played → List Step → Played
run_on played more = record { head = played.head; steps = played.steps ++ more }

pub returns-clause-one_writer : goal.returns-clause-one_writer
returns-clause-one_writer g c =
    on_ok_weaker c.serve_one.result
    (λ goes played is stands. let on = goes played stands in
    (on, (keeps-promises (run_on played on.more) is).one_writer))
    c.serve_one.ensures.goes_on

pub returns-clause-commits : goal.returns-clause-commits
returns-clause-commits g c =
    on_ok_weaker c.serve_one.result
    (λ goes played is stands. let on = goes played stands in
    (on, (keeps-promises (run_on played on.more) is).kept_commits))
    c.serve_one.ensures.goes_on

pub returns-clause-promises : goal.returns-clause-promises
returns-clause-promises g c =
    on_ok_weaker c.serve_one.result
    (λ goes played is stands. let on = goes played stands in (on, keeps-promises (run_on played on.more) is))
    c.serve_one.ensures.goes_on
