use Rattle.std.proofs.Common.{◌≡◌, ◌∙◌, ◌||◌, ◌+◌, true, false, drop, sym, ap}
use Rattle.wal_model.specs.Lacking.{lacks_in}
use Rattle.wal_model.specs.Serials.{serials_of_run, serials_in}
use Rattle.wal_model.proofs.Successions.{lacks-runs}
use Rattle.wal_model.proofs.lacking.lacks.Goals as goal

pub returns-then-lacks_of_run : goal.returns-then-lacks_of_run
returns-then-lacks_of_run c =
    let log = c.args.log.now in
    let runs = c.runs-runs.result.now in
    let i = c.loop-run.run-index in
    let run = c.run-item.result in
    let here : true ≡ lacks_in log (serials_of_run run) = sym c.if-lacks_of_run.true
    ∙ c.lacks_of_run.ensures log c.in_ok-serials.ensures in
    ap (λ b. b || lacks_in log (serials_in (drop (i + 1) runs))) here
    ∙ sym (lacks-runs log runs i run c.loop-run-test.true c.run-item.is)
    ∙ c.loop-run.invariant

pub loop-run-preserved : goal.loop-run-preserved
loop-run-preserved c =
    let log = c.args.log.now in
    let runs = c.runs-runs.result.now in
    let i = c.loop-run.run-index in
    let run = c.run-item.result in
    let here : false ≡ lacks_in log (serials_of_run run) = sym c.if-lacks_of_run.false
    ∙ c.lacks_of_run.ensures log c.in_ok-serials.ensures in
    ap (λ b. b || lacks_in log (serials_in (drop (i + 1) runs))) here
    ∙ sym (lacks-runs log runs i run c.loop-run-test.true c.run-item.is)
    ∙ c.loop-run.invariant
