use Rattle.std.proofs.Common.{ap, ◌∙◌, Err}
use Rattle.std.proofs.lemmas.Result.{err_from_is_err_and}
use Rattle.event_list.specs.Listed.{Listed, ◌+++◌}
use Rattle.cluster_model.specs.Next.{next_events}
use Rattle.run_player.proofs.Played.{Plays-none, Plays-step, Plays-step-stop}
use Rattle.run_player.proofs.player.Player.play_step.Goals as goal

pub set_text-requires : goal.set_text-requires
set_text-requires g c = λ on.
    ap (λ (l : Listed). l.traced)
    (c.in_ok-step.ensures.emits.event
    ∙ ap (λ (l : Listed). l +++ next_events (g.W.Simulation.facts c.args.self.now.world).cluster c.args.step.now)
    c.begin.ensures)
    ∙ on

pub returns-in_err-step : goal.returns-in_err-step
returns-in_err-step g c =
    let p = err_from_is_err_and c.from_residual.result c.from_residual.ensures.1 in
    Plays-none c.from_residual.result _ (p.1 ∙ ap Err p.2)

pub returns-in_err-note : goal.returns-in_err-note
returns-in_err-note g c =
    let final = c.from_residual-in_err-note.result in
    let p = err_from_is_err_and final c.from_residual-in_err-note.ensures.1 in
    Plays-none final _ (p.1 ∙ ap Err p.2)

pub returns-in_err-set_text : goal.returns-in_err-set_text
returns-in_err-set_text g c =
    let final = c.from_residual-in_err-set_text.result in
    let p = err_from_is_err_and final c.from_residual-in_err-set_text.ensures.1 in
    Plays-none final _ (p.1 ∙ ap Err p.2)

pub returns-in_err-print_lines : goal.returns-in_err-print_lines
returns-in_err-print_lines g c =
    let final = c.from_residual-in_err-print_lines.result in
    let p = err_from_is_err_and final c.from_residual-in_err-print_lines.ensures.1 in
    Plays-step-stop final c.in_ok-step.ensures.emits c.begin.ensures
    (c.as_bytes.ensures.value ∙ c.in_ok-set_text.ensures) c.in_err-print_lines.ensures (p.1 ∙ ap Err p.2)

pub returns : goal.returns
returns g c =
    Plays-step c.in_ok-step.ensures.emits c.in_ok-step.ensures.taken c.begin.ensures c.in_ok-note.ensures
    (c.as_bytes.ensures.value ∙ c.in_ok-set_text.ensures) c.traced_after-self.ensures c.in_ok-print_lines.ensures
