use Rattle.std.proofs.Common.{◌≡◌, ℕ, List, [], ◌∷◌, ◌++◌, length, arith, take-append-drop, refl, ap, ◌∙◌, Err, sym, subst}
use Rattle.std.proofs.lemmas.Bool.Decides.{nat_tests}
use Rattle.std.proofs.lemmas.Result.{err_from_is_err_and}
use Rattle.pat_outside.proofs.Printing.{Prints-ok, Prints-then, Prints-stop, IsPrinting-more, IsPrinting-end}
use Rattle.pat_outside.specs.Prints.{Prints, failed}
use Rattle.run_printing.proofs.printing.print_lines.Goals as goal

nothing : (text : List ℕ) → length text ≡ 0 → text ≡ []
nothing [] e = refl
nothing (byte ∷ text) e = absurd (omega (arith, e))

pub loop-rest-preserved : goal.loop-rest-preserved
loop-rest-preserved g c =
    IsPrinting-more c.split_at.result.1.now c.loop-rest.invariant
    (rw (c.split_at.ensures.front, c.split_at.ensures.back)
    (sym (take-append-drop c.line_length.result c.loop-rest.rest.now)))
    (Prints-ok {Y = Unit {0}} failed tt c.in_ok-write_all.ensures)

pub returns-in_err-write_all : goal.returns-in_err-write_all
returns-in_err-write_all g c =
    let final = c.from_residual.result in
    let p = err_from_is_err_and final c.from_residual.ensures.1 in
    let done = c.loop-rest.invariant in
    let parts : c.loop-rest.rest.now ≡ c.split_at.result.0.now ++ c.split_at.result.1.now
    = rw (c.split_at.ensures.front, c.split_at.ensures.back)
    (sym (take-append-drop c.line_length.result c.loop-rest.rest.now)) in
    subst (λ (t : List ℕ). Prints g.K.Sink c.args.out.now c.write_all.new.sink failed final t)
    (ap (λ t. done.done ++ t) (sym parts) ∙ done.parts)
    (Prints-then final done.printed
    (Prints-stop failed failed final c.split_at.result.1.now c.in_err-write_all.ensures (p.1 ∙ ap Err p.2) (λ e. refl)))

pub returns : goal.returns
returns g c =
    let none : length c.loop-rest.rest.now ≡ 0 = grind (arith, nat_tests) in
    IsPrinting-end c.loop-rest.invariant (nothing c.loop-rest.rest.now none)
