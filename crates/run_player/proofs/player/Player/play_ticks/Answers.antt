use Rattle.std.proofs.Common.{◌-◌, ◌∷◌, replicate, ap, append-nil, ◌∙◌, Err, refl, sym, subst, arith, []}
use Rattle.std.proofs.lemmas.List.{length-replicate}
use Rattle.std.proofs.lemmas.Result.{err_from_is_err_and}
use Rattle.cluster_model.specs.declared.step.Step.{Step}
use Rattle.simulation.specs.Steps.{HasStepsLeft}
use Rattle.run_printing.specs.declared.print_error.PrintError.TheVariants.{Memory}
use Rattle.run_player.specs.Playing.{player_of}
use Rattle.run_player.proofs.Idling.{Plays-idle, none-left, tick-declared, ticks-first, ticks-split}
use Rattle.run_player.proofs.Played.{Playing-end, Playing-more, Playing-room, Playing-start, Playing-stop, Plays-none}
use Rattle.run_player.proofs.player.Player.play_ticks.Goals as goal

pub loop-left-init : goal.loop-left-init
loop-left-init g c = Playing-start g.K.Sink (player_of g.W.Simulation.facts c.args.self.now) c.args.out.now
    (replicate c.args.count c.args.step.now)

pub play_step-requires-clause-room : goal.play_step-requires-clause-room
play_step-requires-clause-room g c = Playing-room (c.args.step.now ∷ []) _ c.loop-left.invariant
    (ticks-first c.args.step.now c.loop-left.left (omega (arith, c.loop-left-test.true)))
    (subst (HasStepsLeft (player_of g.W.Simulation.facts c.args.self.now).world)
    (sym (length-replicate {A = Step} c.args.count c.args.step.now)) c.requires.room)

pub idle-requires-clause-room : goal.idle-requires-clause-room
idle-requires-clause-room g c =
    let step = c.args.step.now in
    let left = replicate (c.loop-left.left - 1) step in
    let stepped = Playing-more left c.loop-left.invariant
    (ticks-first step c.loop-left.left (omega (arith, c.loop-left-test.true))) c.in_ok-play_step.ensures in
    subst (HasStepsLeft (player_of g.W.Simulation.facts c.play_step.new.self).world)
    (length-replicate {A = Step} (c.loop-left.left - 1) step)
    (Playing-room left [] stepped (sym (append-nil left))
    (subst (HasStepsLeft (player_of g.W.Simulation.facts c.args.self.now).world)
    (sym (length-replicate {A = Step} c.args.count step)) c.requires.room))

pub play_step-requires-clause-declared : goal.play_step-requires-clause-declared
play_step-requires-clause-declared g c = tick-declared
    (player_of g.W.Simulation.facts c.loop-left.self).world.cluster.facts.members c.args.step.now c.requires.tick

pub loop-left-preserved : goal.loop-left-preserved
loop-left-preserved g c =
    let stepped = Playing-more (replicate (c.loop-left.left - 1) c.args.step.now) c.loop-left.invariant
    (ticks-first c.args.step.now c.loop-left.left (omega (arith, c.loop-left-test.true))) c.in_ok-play_step.ensures in
    Playing-more _ stepped
    (ticks-split c.args.step.now (c.loop-left.left - 1) c.in_ok-left.left c.in_ok-left.ensures.within)
    (Plays-idle c.play_step.new.out c.requires.tick c.in_ok-left.ensures)

pub returns-in_err-play_step : goal.returns-in_err-play_step
returns-in_err-play_step g c =
    let p = err_from_is_err_and c.from_residual.result c.from_residual.ensures.1 in
    Playing-stop c.from_residual.result _ c.loop-left.invariant
    (ticks-first c.args.step.now c.loop-left.left (omega (arith, c.loop-left-test.true))) c.in_err-play_step.ensures
    (p.1 ∙ ap Err p.2)

pub returns-in_err-left : goal.returns-in_err-left
returns-in_err-left g c =
    let final = c.from_residual-in_err-left.result in
    let p = err_from_is_err_and final c.from_residual-in_err-left.ensures.1 in
    let left = replicate (c.loop-left.left - 1) c.args.step.now in
    let stepped = Playing-more left c.loop-left.invariant
    (ticks-first c.args.step.now c.loop-left.left (omega (arith, c.loop-left-test.true))) c.in_ok-play_step.ensures in
    Playing-stop final [] stepped (sym (append-nil left)) (Plays-none {X = Unit {0}} (Err Memory) left refl)
    (p.1 ∙ ap Err p.2)

pub returns : goal.returns
returns g c = Playing-end c.loop-left.invariant
    (none-left c.args.step.now c.loop-left.left (omega (arith, c.loop-left-test.false)))
