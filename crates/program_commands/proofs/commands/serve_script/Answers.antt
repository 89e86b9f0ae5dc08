use Rattle.std.proofs.Common.{◌∙◌, ◌*◌, Err, ap, refl}
use Rattle.std.proofs.lemmas.Result.{err_from_is_err_and}
use Rattle.serve_model.specs.Connections.{most_waiting}
use Rattle.command_line.specs.Commands.{Serve}
use Rattle.command_line.specs.Members.{member_named}
use Rattle.program_commands.specs.Verdicts.{service_of}
use Rattle.program_commands.proofs.Carrying.{refused, served-part, served-whole, unknown}
use Rattle.program_commands.proofs.Endings.{quiet-service}
use Rattle.command_line.proofs.Input.{keeps-counted, read-counted, refuses-counted}
use Rattle.command_line.proofs.Naming.{found-in}
use Rattle.program_commands.proofs.Room.{room-behind}
use Rattle.program_commands.proofs.commands.serve_script.Goals as goal

pub returns-in_err-script : goal.returns-in_err-script
returns-in_err-script g c =
    let p = err_from_is_err_and c.from_residual.result c.from_residual.ensures.1 in
    let ending = c.in_err-script.field-0.0 in
    let fault = c.in_err-script.ensures in
    let b = fault.bytes in (
      b.0,
      b.1,
      refused g.S.Source g.K.Sink g.D.Door g.W.Simulation.facts _ _ b.0 c.script_from.ensures.consumed
          c.args.out.now c.args.door.now (Serve c.args.name.now c.args.address.now c.args.count)
          (most_waiting * c.args.count)
          (λ visitors script. service_of script c.args.count visitors (member_named script.head c.args.name.now)) refl
          (λ visitors bytes. refl)
          (λ script. quiet-service script c.args.count (member_named script.head c.args.name.now))
          c.from_residual.result ending (p.1 ∙ ap Err p.2) fault.refused
          (refuses-counted (most_waiting * c.args.count) c.saturating_mul.result c.saturating_mul.ensures
          ending b.0 b.2)
          (λ e. fault.fault (ap Err e)) (λ reliable e. fault.reliable reliable (ap Err e)),
    )

pub returns-in_default : goal.returns-in_default
returns-in_default g c =
    let read = c.in_ok-script.ensures in
    let b = read.bytes in (
      b.0,
      b.1,
      unknown g.S.Source g.K.Sink g.D.Door g.W.Simulation.facts _ _ b.0 c.script_from.ensures.consumed
          c.in_ok-script.script read.end c.args.name.now c.args.address.now c.args.count
          (read-counted (most_waiting * c.args.count) c.saturating_mul.result c.saturating_mul.ensures
          c.in_ok-script.script b.0 b.2)
          c.args.out.now c.args.door.now _ refl
          (found-in c.in_ok-script.script.head _ c.args.name.now _ _ c.head.ensures.value
          c.member_named.ensures.value c.in_default.is),
    )

pub serve-requires-clause-room : goal.serve-requires-clause-room
serve-requires-clause-room g c =
    room-behind c.in_ok-script.script c.args.count
    (keeps-counted (most_waiting * c.args.count) c.saturating_mul.result c.saturating_mul.ensures
    c.in_ok-script.script c.in_ok-script.ensures.few)

pub returns-in_err-world : goal.returns-in_err-world
returns-in_err-world g c =
    let p = err_from_is_err_and c.from_residual-in_err-world.result c.from_residual-in_err-world.ensures.1 in
    let read = c.in_ok-script.ensures in
    let served = c.in_err-world.ensures in
    let b = read.bytes in (
      b.0,
      b.1,
      served-part g.S.Source g.K.Sink g.D.Door g.W.Simulation.facts _ _ b.0 c.script_from.ensures.consumed
          c.in_ok-script.script read.end c.args.name.now c.args.address.now c.args.count
          (read-counted (most_waiting * c.args.count) c.saturating_mul.result c.saturating_mul.ensures
          c.in_ok-script.script b.0 b.2)
          c.in-Some.member (found-in c.in_ok-script.script.head _ c.args.name.now _ _ c.head.ensures.value
          c.member_named.ensures.value c.in-Some.is)
          c.args.out.now c.serve.new.out c.args.door.now c.serve.new.door served.0 _ c.in_err-world.field-0.0
          (p.1 ∙ ap Err p.2) served.1 served.2,
    )

pub returns : goal.returns
returns g c =
    let read = c.in_ok-script.ensures in
    let served = c.in_ok-world.ensures in
    let b = read.bytes in (
      b.0,
      b.1,
      served-whole g.S.Source g.K.Sink g.D.Door g.W.Simulation.facts _ _ b.0 c.script_from.ensures.consumed
          c.in_ok-script.script read.end c.args.name.now c.args.address.now c.args.count
          (read-counted (most_waiting * c.args.count) c.saturating_mul.result c.saturating_mul.ensures
          c.in_ok-script.script b.0 b.2)
          c.in-Some.member (found-in c.in_ok-script.script.head _ c.args.name.now _ _ c.head.ensures.value
          c.member_named.ensures.value c.in-Some.is)
          c.args.out.now c.serve.new.out c.args.door.now c.serve.new.door served.0 _ c.in_ok-world.world refl
          served.1 served.2,
    )
