use Rattle.std.proofs.Common.{◌∙◌, Err, arith, ap, map}
use Rattle.std.proofs.lemmas.List.{drop_all}
use Rattle.std.proofs.lemmas.Result.{err_from_is_err_and}
use Rattle.run_printing.proofs.Shown.{Showing-end, Showing-more, Showing-none, Showing-start, Showing-stop, next-brought, traced-there}
use Rattle.run_printing.proofs.showing.show.Goals as goal

pub loop-events-init : goal.loop-events-init
loop-events-init g c = Showing-start g.K.Sink c.args.summary.now c.args.trace c.args.out.now _

pub loop-events-preserved : goal.loop-events-preserved
loop-events-preserved g c =
    Showing-more c.events-item.result.items _ c.loop-events.invariant
    (next-brought (λ v. v.items) c.args.brought.now c.loop-events.events-index c.events-item.result
    (omega (arith, c.loop-events-test.true)) c.events-item.is)
    c.in_ok-note.ensures
    (c.as_bytes.ensures.value ∙ c.in_ok-set_text.ensures) c.in_ok-print_lines.ensures

pub set_text-requires : goal.set_text-requires
set_text-requires g c = λ on. traced-there c.args.brought.now c.loop-events.events-index c.events-item.result
    (omega (arith, c.loop-events-test.true)) c.events-item.is c.requires

pub returns-in_err-note : goal.returns-in_err-note
returns-in_err-note g c =
    let p = err_from_is_err_and c.from_residual.result c.from_residual.ensures.1 in
    Showing-none c.from_residual.result c.loop-events.invariant (p.1 ∙ ap Err p.2)

pub returns-in_err-set_text : goal.returns-in_err-set_text
returns-in_err-set_text g c =
    let final = c.from_residual-in_err-set_text.result in
    let p = err_from_is_err_and final c.from_residual-in_err-set_text.ensures.1 in
    Showing-none final c.loop-events.invariant (p.1 ∙ ap Err p.2)

pub returns-in_err-print_lines : goal.returns-in_err-print_lines
returns-in_err-print_lines g c =
    let final = c.from_residual-in_err-print_lines.result in
    let p = err_from_is_err_and final c.from_residual-in_err-print_lines.ensures.1 in
    Showing-stop final c.events-item.result.items _ c.loop-events.invariant
    (next-brought (λ v. v.items) c.args.brought.now c.loop-events.events-index c.events-item.result
    (omega (arith, c.loop-events-test.true)) c.events-item.is)
    (c.as_bytes.ensures.value ∙ c.in_ok-set_text.ensures) c.in_err-print_lines.ensures (p.1 ∙ ap Err p.2)

pub returns : goal.returns
returns g c = Showing-end c.loop-events.invariant
    (ap (map (λ v. v.items))
    (drop_all c.loop-events.events-index c.args.brought.now (omega (arith, c.loop-events-test.false))))
