use Rattle.std.proofs.Common.{◌∙◌, ◌≤◌, length, [], Err, Ok, ap, refl, subst, sym}
use Rattle.std.proofs.lemmas.Result.{err_from_is_err_and}
use Rattle.pat_outside.specs.Prints.{Prints}
use Rattle.script_model.specs.Script.{ScriptText, spelling_of}
use Rattle.cluster_model.specs.Steps.{steps_of}
use Rattle.world_model.specs.Room.{most_steps}
use Rattle.run_printing.specs.declared.print_error.PrintError.TheVariants.{Write}
use Rattle.run_player.specs.Left.{IsLeftBy}
use Rattle.run_model.specs.Run.{played_of, summary_of_run}
use Rattle.command_line.specs.Commands.{Print, Run}
use Rattle.program_commands.specs.Verdicts.{Formats, Makes, Plays}
use Rattle.program_commands.proofs.Carrying.{drilled-part, drilled-whole, formatted-part, formatted-whole, generated-part, generated-whole, no-bytes, not-drilled, not-generated, printed-part, printed-whole, refused}
use Rattle.program_commands.proofs.Room.{room-alone, room-drawn}
use Rattle.program_commands.proofs.commands.carry_out.Goals as goal

pub returns-in_err-script-in-Run : goal.returns-in_err-script-in-Run
returns-in_err-script-in-Run g c =
    let p = err_from_is_err_and c.from_residual.result c.from_residual.ensures.1 in
    let fault = c.in_err-script-in-Run.ensures in
    let b = fault.bytes in
    rw c.in-Run.is (
      b.0,
      b.1,
      (refused g.S.Source g.K.Sink g.D.Door g.W.Simulation.facts _ _ b.0 c.script_from.ensures.consumed
          c.args.out.now c.args.door.now Run 0 (λ visitors script. Makes (Plays (played_of script))) refl
          (λ visitors bytes. refl) (λ script. tt)
          c.from_residual.result c.in_err-script-in-Run.field-0.0 (p.1 ∙ ap Err p.2) fault.refused b.2
          (λ e. fault.fault (ap Err e)) (λ reliable e. fault.reliable reliable (ap Err e))),
    )

pub play-requires : goal.play-requires
play-requires g c = room-alone c.in_ok-script-in-Run.script c.in_ok-script-in-Run.ensures.few

pub returns-in_err-world-in-Run : goal.returns-in_err-world-in-Run
returns-in_err-world-in-Run g c =
    let p =
    err_from_is_err_and c.from_residual-in_err-world-in-Run.result c.from_residual-in_err-world-in-Run.ensures.1 in
    let read = c.in_ok-script-in-Run.ensures in
    let played = c.in_err-world-in-Run.ensures in
    let b = read.bytes in
    rw c.in-Run.is (
      b.0,
      b.1,
      (printed-part g.S.Source g.K.Sink g.D.Door g.W.Simulation.facts _ _ b.0 c.script_from.ensures.consumed
          c.in_ok-script-in-Run.script read.end c.args.out.now c.play.new.out c.args.door.now b.2 _
          c.in_err-world-in-Run.field-0.0 (p.1 ∙ ap Err p.2) played.printed
          (λ e. played.whole (ap Err e))),
    )

pub returns-in_ok-world-in-Run : goal.returns-in_ok-world-in-Run
returns-in_ok-world-in-Run g c =
    let read = c.in_ok-script-in-Run.ensures in
    let played = c.in_ok-world-in-Run.ensures in
    let b = read.bytes in
    rw c.in-Run.is (
      b.0,
      b.1,
      (printed-whole g.S.Source g.K.Sink g.D.Door g.W.Simulation.facts _ _ b.0 c.script_from.ensures.consumed
          c.in_ok-script-in-Run.script read.end c.args.out.now c.play.new.out c.args.door.now b.2 _
          c.in_ok-world-in-Run.world refl played.printed played.world),
    )

pub returns-in_err-script-in-Print : goal.returns-in_err-script-in-Print
returns-in_err-script-in-Print g c =
    let p = err_from_is_err_and c.from_residual-in_err-script-in-Print.result
    c.from_residual-in_err-script-in-Print.ensures.1 in
    let fault = c.in_err-script-in-Print.ensures in
    let b = fault.bytes in
    rw c.in-Print.is (
      b.0,
      b.1,
      (refused g.S.Source g.K.Sink g.D.Door g.W.Simulation.facts _ _ b.0 c.script_from-in-Print.ensures.consumed
          c.args.out.now c.args.door.now Print 0 (λ visitors script. Makes (Formats script)) refl
          (λ visitors bytes. refl) (λ script. tt)
          c.from_residual-in_err-script-in-Print.result c.in_err-script-in-Print.field-0.0 (p.1 ∙ ap Err p.2)
          fault.refused b.2 (λ e. fault.fault (ap Err e)) (λ reliable e. fault.reliable reliable (ap Err e))),
    )

pub returns-in_err-print_script-in-Print : goal.returns-in_err-print_script-in-Print
returns-in_err-print_script-in-Print g c =
    let p = err_from_is_err_and c.from_residual-in_err-print_script-in-Print.result
    c.from_residual-in_err-print_script-in-Print.ensures.1 in
    let read = c.in_ok-script-in-Print.ensures in
    let printed = c.in_err-print_script-in-Print.ensures in
    let b = read.bytes in
    rw c.in-Print.is (
      b.0,
      b.1,
      (formatted-part g.S.Source g.K.Sink g.D.Door g.W.Simulation.facts _ _ b.0 c.script_from-in-Print.ensures.consumed
          c.in_ok-script-in-Print.script read.end c.args.out.now c.print_script.new.out c.args.door.now b.2
          _ c.in_err-print_script-in-Print.field-0.0 (p.1 ∙ ap Err p.2) printed.printed
          (λ e. printed.memory (ap Err e))),
    )

pub returns-in_ok-print_script-in-Print : goal.returns-in_ok-print_script-in-Print
returns-in_ok-print_script-in-Print g c =
    let read = c.in_ok-script-in-Print.ensures in
    let b = read.bytes in
    rw c.in-Print.is (
      b.0,
      b.1,
      (formatted-whole g.S.Source g.K.Sink g.D.Door g.W.Simulation.facts _ _ b.0
          c.script_from-in-Print.ensures.consumed c.in_ok-script-in-Print.script read.end c.args.out.now
          c.print_script.new.out c.args.door.now b.2 _ refl c.in_ok-print_script-in-Print.ensures.printed),
    )

pub returns-in_err-script-in-Generate : goal.returns-in_err-script-in-Generate
returns-in_err-script-in-Generate g c =
    let p = err_from_is_err_and c.from_residual-in_err-script-in-Generate.result
    c.from_residual-in_err-script-in-Generate.ensures.1 in
    rw c.in-Generate.is (
      [],
      no-bytes,
      (not-generated g.S.Source g.K.Sink g.D.Door g.W.Simulation.facts c.args.input.now [] c.in-Generate.seed
          c.in-Generate.count c.args.out.now c.args.door.now c.from_residual-in_err-script-in-Generate.result
          c.in_err-script-in-Generate.field-0.0 (p.1 ∙ ap Err p.2)
          c.in_err-script-in-Generate.ensures.refused),
    )

pub returns-in_err-print_script-in-Generate : goal.returns-in_err-print_script-in-Generate
returns-in_err-print_script-in-Generate g c =
    let p = err_from_is_err_and c.from_residual-in_err-print_script-in-Generate.result
    c.from_residual-in_err-print_script-in-Generate.ensures.1 in
    let drawn = c.in_ok-script-in-Generate.ensures.script in
    let printed = c.in_err-print_script-in-Generate.ensures in
    let error = c.in_err-print_script-in-Generate.field-0.0 in
    rw c.in-Generate.is (
      [],
      no-bytes,
      (generated-part g.S.Source g.K.Sink g.D.Door g.W.Simulation.facts c.args.input.now [] c.in-Generate.seed
          c.in-Generate.count c.args.out.now c.args.door.now _ drawn.0 c.print_script-in-Generate.new.out error
          (p.1 ∙ ap Err p.2)
          (subst (λ (s : ScriptText).
          Prints {X = Unit {0}} g.K.Sink c.args.out.now c.print_script-in-Generate.new.out Write (Err error)
          (spelling_of s))
          drawn.1 printed.printed)
          (λ e. printed.memory (ap Err e))),
    )

pub returns-in_ok-print_script-in-Generate : goal.returns-in_ok-print_script-in-Generate
returns-in_ok-print_script-in-Generate g c =
    let drawn = c.in_ok-script-in-Generate.ensures.script in
    rw c.in-Generate.is (
      [],
      no-bytes,
      (generated-whole g.S.Source g.K.Sink g.D.Door g.W.Simulation.facts c.args.input.now [] c.in-Generate.seed
          c.in-Generate.count c.args.out.now c.args.door.now _ drawn.0 c.print_script-in-Generate.new.out refl
          (subst (λ (s : ScriptText).
          Prints {X = Unit {0}} g.K.Sink c.args.out.now c.print_script-in-Generate.new.out Write (Ok tt)
          (spelling_of s))
          drawn.1 c.in_ok-print_script-in-Generate.ensures.printed)),
    )

pub returns-in_err-script-in-Drill : goal.returns-in_err-script-in-Drill
returns-in_err-script-in-Drill g c =
    let p = err_from_is_err_and c.from_residual-in_err-script-in-Drill.result
    c.from_residual-in_err-script-in-Drill.ensures.1 in
    rw c.in-Drill.is (
      [],
      no-bytes,
      (not-drilled g.S.Source g.K.Sink g.D.Door g.W.Simulation.facts c.args.input.now [] c.in-Drill.seed
          c.in-Drill.count
          c.args.out.now c.args.door.now c.from_residual-in_err-script-in-Drill.result
          c.in_err-script-in-Drill.field-0.0
          (p.1 ∙ ap Err p.2)
          c.in_err-script-in-Drill.ensures.refused),
    )

pub drill-requires : goal.drill-requires
drill-requires g c =
    let drawn = c.in_ok-script-in-Drill.ensures.script in
    subst (λ (s : ScriptText). length (steps_of s.body) ≤ most_steps) (sym drawn.1)
    (room-drawn c.in-Drill.seed c.in-Drill.count drawn.0)

pub returns-in_err-world-in-Drill : goal.returns-in_err-world-in-Drill
returns-in_err-world-in-Drill g c =
    let p =
    err_from_is_err_and c.from_residual-in_err-world-in-Drill.result c.from_residual-in_err-world-in-Drill.ensures.1 in
    let drawn = c.in_ok-script-in-Drill.ensures.script in
    let played = c.in_err-world-in-Drill.ensures in
    let error = c.in_err-world-in-Drill.field-0.0 in
    rw c.in-Drill.is (
      [],
      no-bytes,
      (drilled-part g.S.Source g.K.Sink g.D.Door g.W.Simulation.facts c.args.input.now [] c.in-Drill.seed
          c.in-Drill.count c.args.out.now c.args.door.now _ drawn.0 c.drill.new.out error (p.1 ∙ ap Err p.2)
          (subst (λ (s : ScriptText).
          Prints {X = _} g.K.Sink c.args.out.now c.drill.new.out Write (Err error) (summary_of_run (played_of s)))
          drawn.1 played.printed)
          (λ e. played.memory (ap Err e))),
    )

pub returns-in_ok-world-in-Drill : goal.returns-in_ok-world-in-Drill
returns-in_ok-world-in-Drill g c =
    let drawn = c.in_ok-script-in-Drill.ensures.script in
    let played = c.in_ok-world-in-Drill.ensures in
    let world = c.in_ok-world-in-Drill.world in
    rw c.in-Drill.is (
      [],
      no-bytes,
      (drilled-whole g.S.Source g.K.Sink g.D.Door g.W.Simulation.facts c.args.input.now [] c.in-Drill.seed
          c.in-Drill.count c.args.out.now c.args.door.now _ drawn.0 c.drill.new.out world refl
          (subst (λ (s : ScriptText).
          Prints g.K.Sink c.args.out.now c.drill.new.out Write (Ok world) (summary_of_run (played_of s)))
          drawn.1 played.printed)
          (subst (λ (s : ScriptText). IsLeftBy (played_of s) (g.W.Simulation.facts world)) drawn.1 played.world)),
    )
