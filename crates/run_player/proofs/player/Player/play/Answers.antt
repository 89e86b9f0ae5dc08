use Rattle.std.proofs.Common.{◌++◌, Err, append-nil, ap, ◌∙◌, sym, subst, []}
use Rattle.std.proofs.lemmas.Result.{err_from_is_err_and}
use Rattle.pat_outside.specs.Outside.{Grew}
use Rattle.pat_outside.specs.Prints.{Prints}
use Rattle.pat_outside.proofs.Printing.{Prints-then, Prints-stop}
use Rattle.cluster_model.specs.Steps.{steps_of}
use Rattle.summary_model.specs.declared.answers.Closing.{Closing}
use Rattle.summary_model.specs.Sights.{SummaryFacts}
use Rattle.summary_model.specs.SummaryText.{closing_text}
use Rattle.run_printing.specs.declared.print_error.PrintError.TheVariants.{Write}
use Rattle.run_model.specs.Run.{printed_from}
use Rattle.run_player.specs.Playing.{player_of}
use Rattle.run_player.proofs.Played.{same-error}
use Rattle.run_player.proofs.player.Player.play.Goals as goal

pub returns-in_err-play_body-clause-printed : goal.returns-in_err-play_body-clause-printed
returns-in_err-play_body-clause-printed g c =
    let final = c.from_residual.result in
    let p = err_from_is_err_and final c.from_residual.ensures.1 in
    Prints-stop Write _ final _ c.in_err-play_body.ensures.printed (p.1 ∙ ap Err p.2) (λ e. e)

pub returns-clause-printed : goal.returns-clause-printed
returns-clause-printed g c =
    let player = (player_of g.W.Simulation.facts c.args.self.now) in
    let final = c.print_closing.result in
    subst (λ (s : SummaryFacts). Prints g.K.Sink c.args.out.now c.print_closing.new.out Write final
    (printed_from player.world.cluster player.trace (steps_of c.args.script.body) ++ closing_text s.watch.closing))
    c.in_ok-play_body.ensures.summary
    (Prints-then final c.in_ok-play_body.ensures.printed
    (subst (λ (closing : Closing).
    Prints g.K.Sink c.play_body.new.out c.print_closing.new.out Write final (closing_text closing))
    c.closing.ensures c.print_closing.ensures.printed))

pub returns-in_err-play_body-clause-whole : goal.returns-in_err-play_body-clause-whole
returns-in_err-play_body-clause-whole g c =
    let p = err_from_is_err_and c.from_residual.result c.from_residual.ensures.1 in
    λ e. c.in_err-play_body.ensures.whole (same-error (sym (p.1 ∙ ap Err p.2) ∙ e))

pub returns-clause-whole : goal.returns-clause-whole
returns-clause-whole g c = λ e. record {
  done = steps_of c.args.script.body;
  more = [];
  parts = append-nil (steps_of c.args.script.body);
  grew =
      subst (λ out. Grew (g.K.Sink.content c.args.out.now) (g.K.Sink.content out)
      (printed_from (player_of g.W.Simulation.facts c.args.self.now).world.cluster
      (player_of g.W.Simulation.facts c.args.self.now).trace (steps_of c.args.script.body)))
      (sym (c.print_closing.ensures.memory e)) c.in_ok-play_body.ensures.printed.ok;
}
