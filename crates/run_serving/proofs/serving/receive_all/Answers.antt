use Rattle.std.proofs.Common.{◌+◌, ◌*◌, ◌∷◌, ◌∙◌, Err, length, arith, ap, refl, []}
use Rattle.std.proofs.lemmas.Result.{err_from_is_err_and}
use Rattle.cluster_model.specs.Steps.{steps_of}
use Rattle.serve_model.specs.Connections.{connection_cost}
use Rattle.simulation.proofs.Stepping.{steps-left-behind, steps-left-fewer}
use Rattle.run_player.specs.Playing.{player_of}
use Rattle.pat_door.specs.Doors.{Opened}
use Rattle.run_serving.proofs.Apart.{apart-closing, apart-none, apart-so, apart-stop}
use Rattle.run_serving.proofs.Closing.{closes-all, plays-declared, stops-in-closing, stops-in-script, stops-in-serving}
use Rattle.run_serving.proofs.serving.receive_all.Goals as goal

pub play_body-requires-clause-room : goal.play_body-requires-clause-room
play_body-requires-clause-room g c =
    let steps = steps_of c.args.script.body in
    steps-left-fewer (player_of g.W.Simulation.facts c.args.player.now).world
    (length steps + connection_cost * c.args.service.now.count) (length steps) (omega arith) c.requires.room

pub returns-in_err-play_body : goal.returns-in_err-play_body
returns-in_err-play_body g c =
    let p = err_from_is_err_and c.from_residual.result c.from_residual.ensures.1 in (
      [],
      stops-in-script g.K.Sink g.D.Door (player_of g.W.Simulation.facts c.args.player.now) c.args.out.now
          c.args.door.now (steps_of c.args.script.body) c.args.service.now.member c.args.service.now.count
          (player_of g.W.Simulation.facts c.play_body.new.self) c.play_body.new.out _ c.from_residual.result
          c.in_err-play_body.ensures (p.1 ∙ ap Err p.2),
      apart-stop g.D.Door c.args.door.now c.args.door.now _ c.from_residual.result _ c.args.service.now.member
          (Opened c.args.service.now.address.now ∷ []) [] (p.1 ∙ ap Err p.2)
          (apart-none {X = Unit {0}} g.D.Door c.args.door.now _ _ c.args.service.now.member
          (Opened c.args.service.now.address.now ∷ [])),
    )

pub receive-requires-clause-room : goal.receive-requires-clause-room
receive-requires-clause-room g c =
    steps-left-behind (player_of g.W.Simulation.facts c.args.player.now).world
    (player_of g.W.Simulation.facts c.play_body.new.self).world (length (steps_of c.args.script.body))
    (connection_cost * c.args.service.now.count) c.in_ok-play_body.ensures.taken c.requires.room

pub receive-requires-clause-declared : goal.receive-requires-clause-declared
receive-requires-clause-declared g c =
    plays-declared c.args.service.now.member c.in_ok-play_body.ensures c.requires.members c.requires.declared

pub returns-in_err-receive : goal.returns-in_err-receive
returns-in_err-receive g c =
    let p = err_from_is_err_and c.from_residual-in_err-receive.result c.from_residual-in_err-receive.ensures.1 in
    let r = c.in_err-receive.ensures in (
      r.0,
      stops-in-serving g.K.Sink g.D.Door (player_of g.W.Simulation.facts c.args.player.now) c.args.out.now
          c.args.door.now (steps_of c.args.script.body) c.args.service.now.member c.args.service.now.count
          (player_of g.W.Simulation.facts c.play_body.new.self)
          (player_of g.W.Simulation.facts c.receive.new.player) c.play_body.new.out c.receive.new.out c.receive.new.door
          r.0 c.in_ok-play_body.ensures _ c.from_residual-in_err-receive.result r.1 (p.1 ∙ ap Err p.2),
      apart-stop g.D.Door c.args.door.now c.receive.new.door _ c.from_residual-in_err-receive.result _
          c.args.service.now.member (Opened c.args.service.now.address.now ∷ []) r.0 (p.1 ∙ ap Err p.2)
          (apart-so c.in_ok-play_body.ensures.world r.2),
    )

pub returns-in_err-print_closing : goal.returns-in_err-print_closing
returns-in_err-print_closing g c =
    let final = c.from_residual-in_err-print_closing.result in
    let p = err_from_is_err_and final c.from_residual-in_err-print_closing.ensures.1 in
    let r = c.in_ok-receive.ensures in (
      r.0,
      stops-in-closing g.K.Sink g.D.Door (player_of g.W.Simulation.facts c.args.player.now) c.args.out.now
          c.args.door.now (steps_of c.args.script.body) c.args.service.now.member c.args.service.now.count
          (player_of g.W.Simulation.facts c.play_body.new.self) (player_of g.W.Simulation.facts c.receive.new.player)
          (player_of g.W.Simulation.facts c.receive.new.player) c.play_body.new.out c.receive.new.out
          c.print_closing.new.out c.receive.new.door r.0 c.in_ok-play_body.ensures r.1
          c.closing.result _ final c.closing.ensures c.in_err-print_closing.ensures.printed
          c.in_err-print_closing.ensures.memory (p.1 ∙ ap Err p.2),
      apart-closing g.D.Door c.args.door.now c.receive.new.door tt _ final _ c.args.service.now.member
          (Opened c.args.service.now.address.now ∷ []) r.0 (p.1 ∙ ap Err p.2)
          (apart-so c.in_ok-play_body.ensures.world r.2),
    )

pub returns : goal.returns
returns g c =
    let r = c.in_ok-receive.ensures in (
      r.0,
      closes-all g.K.Sink g.D.Door (player_of g.W.Simulation.facts c.args.player.now) c.args.out.now c.args.door.now
          (steps_of c.args.script.body) c.args.service.now.member c.args.service.now.count
          (player_of g.W.Simulation.facts c.play_body.new.self) (player_of g.W.Simulation.facts c.receive.new.player)
          (player_of g.W.Simulation.facts c.receive.new.player) c.play_body.new.out c.receive.new.out
          c.print_closing.new.out c.receive.new.door r.0 c.in_ok-play_body.ensures r.1
          c.closing.result refl c.closing.ensures c.in_ok-print_closing.ensures.printed,
      apart-so c.in_ok-play_body.ensures.world r.2,
    )
