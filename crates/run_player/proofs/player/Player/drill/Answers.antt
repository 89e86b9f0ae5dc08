use Rattle.std.proofs.Common.{Err, ap, ◌∙◌, subst}
use Rattle.std.proofs.lemmas.Result.{err_from_is_err_and}
use Rattle.pat_outside.specs.Prints.{Prints}
use Rattle.pat_outside.proofs.Printing.{Prints-none}
use Rattle.summary_model.specs.declared.answers.Closing.{Closing}
use Rattle.summary_model.specs.Sights.{SummaryFacts}
use Rattle.summary_model.specs.SummaryText.{closing_text}
use Rattle.run_printing.specs.declared.print_error.PrintError.TheVariants.{Memory, Write}
use Rattle.run_player.proofs.Played.{memory-is-no-write}
use Rattle.run_player.proofs.Silence.{no-write}
use Rattle.run_player.proofs.player.Player.drill.Goals as goal

pub returns-in_err-play_body-clause-printed : goal.returns-in_err-play_body-clause-printed
returns-in_err-play_body-clause-printed g c =
    let final = c.from_residual.result in
    let p = err_from_is_err_and final c.from_residual.ensures.1 in
    Prints-none g.K.Sink c.args.out.now Write Memory final _
    (p.1 ∙ ap Err (p.2 ∙ no-write _ _ _ _ _ tt c.in_err-play_body.ensures.printed)) memory-is-no-write

pub returns-clause-printed : goal.returns-clause-printed
returns-clause-printed g c =
    let final = c.print_closing.result in
    subst (λ (s : SummaryFacts).
    Prints g.K.Sink c.args.out.now c.print_closing.new.out Write final (closing_text s.watch.closing))
    c.in_ok-play_body.ensures.summary
    (subst (λ (closing : Closing).
    Prints g.K.Sink c.args.out.now c.print_closing.new.out Write final (closing_text closing))
    c.closing.ensures c.print_closing.ensures.printed)
