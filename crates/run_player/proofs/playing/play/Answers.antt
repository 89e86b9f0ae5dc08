use Rattle.std.proofs.Common.{ℕ, Bool, false, List, length, ap, ◌∙◌, Err, Ok, subst}
use Rattle.pat_outside.specs.Prints.{Prints}
use Rattle.std.proofs.lemmas.Result.{err_from_is_err_and}
use Rattle.pat_outside.proofs.Printing.{Prints-none, Prints-ok}
use Rattle.cluster_model.specs.Starting.{cluster_of}
use Rattle.cluster_model.specs.State.{Cluster}
use Rattle.cluster_model.specs.Steps.{names_in, steps_of}
use Rattle.world_model.proofs.Declaring.{names-start}
use Rattle.world_model.specs.Room.{most_steps}
use Rattle.simulation.proofs.Stepping.{steps-left-fewer}
use Rattle.run_printing.specs.declared.print_error.PrintError.TheVariants.{Memory, Write}
use Rattle.run_model.specs.Watches.{first_summary}
use Rattle.run_player.specs.Playing.{PrintsWholeSteps, player_of}
use Rattle.run_player.proofs.Played.{Prints-err, PrintsWholeSteps-none, memory-is-no-write, same-error}
use Rattle.run_player.proofs.Whole.{left-by, text-is}
use Rattle.run_player.proofs.playing.play.Goals as goal

pub play-requires-clause-room : goal.play-requires-clause-room
play-requires-clause-room g c = steps-left-fewer (player_of g.W.Simulation.facts c.in_ok-player.player).world most_steps
    (length (steps_of c.args.script.body)) c.requires c.in_ok-player.ensures.room

pub play-requires-clause-members : goal.play-requires-clause-members
play-requires-clause-members g c =
    let start = c.in_ok-player.ensures.world ∙ ap (λ h. cluster_of h) c.head.ensures.value in
    ap (λ (w : Cluster). names_in w.facts.members) start
    ∙ names-start c.args.script.head (c.head.ensures.script).head.few

pub returns-in_err-player-clause-printed : goal.returns-in_err-player-clause-printed
returns-in_err-player-clause-printed g c =
    let p = err_from_is_err_and c.from_residual.result c.from_residual.ensures.1 in
    Prints-none g.K.Sink c.args.out.now Write Memory c.from_residual.result _ (p.1 ∙ ap Err p.2) memory-is-no-write

pub returns-in-Ok-clause-printed : goal.returns-in-Ok-clause-printed
returns-in-Ok-clause-printed g c =
    let script = c.args.script in
    let player = (player_of g.W.Simulation.facts c.in_ok-player.player) in
    let first = c.in_ok-player.ensures in
    Prints-ok Write c.into_world.result
    (subst (λ (t : List ℕ). Prints {X = Unit {0}} g.K.Sink c.args.out.now c.play.new.out Write (Ok tt) t)
    (text-is script.head (steps_of script.body) player.world.cluster player.trace player.summary
    (first.world ∙ ap (λ h. cluster_of h) c.head.ensures.value) first.trace
    (first.summary ∙ ap (λ h. first_summary h) c.head.ensures.value))
    c.in-Ok.ensures.printed)

pub returns-in-Ok-clause-world : goal.returns-in-Ok-clause-world
returns-in-Ok-clause-world g c =
    let script = c.args.script in
    let start = c.in_ok-player.ensures.world ∙ ap (λ h. cluster_of h) c.head.ensures.value in
    let first = c.in_ok-player.ensures in
    left-by script.head (steps_of script.body) (player_of g.W.Simulation.facts c.in_ok-player.player).world _
    (g.W.Simulation.facts c.into_world.result) c.requires start first.steps first.room first.counted
    c.in-Ok.ensures.world c.in-Ok.ensures.taken (ap g.W.Simulation.facts c.into_world.ensures)

pub returns-in-Err-clause-printed : goal.returns-in-Err-clause-printed
returns-in-Err-clause-printed g c =
    let script = c.args.script in
    let player = (player_of g.W.Simulation.facts c.in_ok-player.player) in
    let first = c.in_ok-player.ensures in
    Prints-err
    (subst (λ (t : List ℕ). Prints {X = Unit {0}} g.K.Sink c.args.out.now c.play.new.out Write (Err c.in-Err.error) t)
    (text-is script.head (steps_of script.body) player.world.cluster player.trace player.summary
    (first.world ∙ ap (λ h. cluster_of h) c.head.ensures.value) first.trace
    (first.summary ∙ ap (λ h. first_summary h) c.head.ensures.value))
    c.in-Err.ensures.printed)

pub returns-in_err-player-clause-whole : goal.returns-in_err-player-clause-whole
returns-in_err-player-clause-whole g c = λ e.
    PrintsWholeSteps-none g.K.Sink c.args.out.now (cluster_of c.args.script.head) false (steps_of c.args.script.body)

pub returns-in-Err-clause-whole : goal.returns-in-Err-clause-whole
returns-in-Err-clause-whole g c = λ e.
    let script = c.args.script in
    let player = (player_of g.W.Simulation.facts c.in_ok-player.player) in
    let first = c.in_ok-player.ensures in
    subst (λ (w : Cluster). PrintsWholeSteps g.K.Sink c.args.out.now c.play.new.out w false (steps_of script.body))
    (first.world ∙ ap (λ h. cluster_of h) c.head.ensures.value)
    (subst (λ (t : Bool).
    PrintsWholeSteps g.K.Sink c.args.out.now c.play.new.out player.world.cluster t (steps_of script.body))
    first.trace (c.in-Err.ensures.whole (same-error e)))
