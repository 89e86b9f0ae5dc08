use Rattle.std.proofs.Common.{◌∙◌, [], None, Ok, Err, map, option_map, refl, sym, ap}
use Rattle.std.specs.String.{string_bytes}
use Rattle.simulation.specs.Steps.{WorldFacts}
use Rattle.command_line.specs.declared.ending.Ending.TheVariants as endings
use Rattle.command_line.specs.declared.status.Status.{Status}
use Rattle.command_line.specs.Commands.{command_of, order_command}
use Rattle.program_commands.proofs.Carrying.{asked, asked-by, asked-says, ended-same, goes-by-none, unasked}
use Rattle.patroni_top.proofs.Promised.{promises-kept}
use Rattle.patroni_top.proofs.top.run.Goals as goal

pub returns-in_default-clause-carried : goal.returns-in_default-clause-carried
returns-in_default-clause-carried g c =
    let none = sym c.read.ensures ∙ ap (option_map order_command) c.in_default.is in (
      [],
      goes-by-none (command_of (map string_bytes c.args.words.now)) (g.S.Source.rest c.args.input.now) none,
      unasked g.S.Source g.K.Sink g.D.Door c.args.input.now c.args.out.now c.args.door.now
          (command_of (map string_bytes c.args.words.now)) [] none,
      endings.Usage,
      refl,
      λ visitors. tt,
      c.report.ensures,
    )

pub returns-in-Ok-clause-carried : goal.returns-in-Ok-clause-carried
returns-in-Ok-clause-carried g c =
    let is = sym (ap (option_map order_command) c.in-Some.is) ∙ c.read.ensures in
    let carried = c.in-Ok.ensures in (
      carried.0,
      asked-by (order_command c.in-Some.order) (command_of (map string_bytes c.args.words.now))
          (g.S.Source.rest c.args.input.now) carried.0 is carried.1,
      asked g.S.Source g.K.Sink g.D.Door
          (λ (w : WorldFacts). w) _ _ c.args.out.now c.carry_out.new.out c.args.door.now c.carry_out.new.door
          (order_command c.in-Some.order) (command_of (map string_bytes c.args.words.now)) carried.0
          (Ok c.in-Ok.world) _ is (ended-same c.in-Ok.world) carried.2,
      endings.Done,
      refl,
      λ visitors. tt,
      c.report-in-Ok.ensures,
    )

pub returns-in-Ok-clause-promises : goal.returns-in-Ok-clause-promises
returns-in-Ok-clause-promises g c =
    λ visitors bytes. promises-kept (command_of (map string_bytes c.args.words.now)) visitors bytes

pub returns-in-Err-clause-carried : goal.returns-in-Err-clause-carried
returns-in-Err-clause-carried g c =
    let is = sym (ap (option_map order_command) c.in-Some.is) ∙ c.read.ensures in
    let carried = c.in-Err.ensures in (
      carried.0,
      asked-by (order_command c.in-Some.order) (command_of (map string_bytes c.args.words.now))
          (g.S.Source.rest c.args.input.now) carried.0 is carried.1,
      asked g.S.Source g.K.Sink g.D.Door
          (λ (w : WorldFacts). w) _ _ c.args.out.now c.carry_out.new.out c.args.door.now c.carry_out.new.door
          (order_command c.in-Some.order) (command_of (map string_bytes c.args.words.now)) carried.0
          (Err c.in-Err.ending) _ is
          (ap (λ (status : Status). record { status = status; world = None }) (sym c.status.ensures)) carried.2,
      c.in-Err.ending,
      sym c.status.ensures,
      asked-says (order_command c.in-Some.order) (command_of (map string_bytes c.args.words.now)) carried.0
          c.in-Err.ending is carried.2.says,
      c.report-in-Err.ensures,
    )

pub returns-in-Err-clause-promises : goal.returns-in-Err-clause-promises
returns-in-Err-clause-promises g c =
    λ visitors bytes. promises-kept (command_of (map string_bytes c.args.words.now)) visitors bytes
