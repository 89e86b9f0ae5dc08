use Rattle.std.proofs.Common.{◌+◌, ◌-◌, ◌*◌, ◌∷◌, ◌++◌, ◌∙◌, Err, Ok, arith, ap, refl, []}
use Rattle.std.proofs.lemmas.Result.{err_from_is_err_and}
use Rattle.serve_model.specs.Connections.{connection_cost}
use Rattle.simulation.proofs.Stepping.{steps-left-fewer}
use Rattle.run_player.specs.Playing.{player_of}
use Rattle.run_serving.proofs.Received.{Receives-none, Receives-so, Receives-start, Receives-stop, Receives-then, door-is-no-write, err-is-not-ok, received-members, room-behind}
use Rattle.run_serving.proofs.Apart.{apart-refused, apart-so, apart-start, apart-stop, apart-then}
use Rattle.run_serving.proofs.Visiting.{Came-refused}
use Rattle.pat_door.specs.Doors.{Opened}
use Rattle.run_serving.proofs.serving.receive.Goals as goal
use Rattle.run_printing.specs.declared.serve_error.ServeError.TheVariants.{Door}

pub returns-in_default : goal.returns-in_default
returns-in_default g c =
    let e = c.in_default.ensures in (
      [],
      Receives-none g.K.Sink g.D.Door (player_of g.W.Simulation.facts c.args.player.now)
          (player_of g.W.Simulation.facts c.args.player.now) c.args.out.now c.args.door.now c.open.new.self Door
          (Err Door) c.args.service.now.member c.args.service.now.count refl door-is-no-write
          (Came-refused g.D.Door c.args.door.now c.open.new.self
          (player_of g.W.Simulation.facts c.args.player.now).world.cluster c.args.service.now.member
          c.args.service.now.count e.same e.failed e.grows e.line
          (λ more serves.
          err-is-not-ok (Unit {0}) c.in_default.field-0 (e.served (c.args.service.now.count + more) serves).0)),
      apart-refused g.D.Door c.args.door.now c.open.new.self Door
          (player_of g.W.Simulation.facts c.args.player.now).world.cluster c.args.service.now.member
          (Opened c.args.service.now.address.now ∷ []) e.line e.heard,
    )

pub loop-init : goal.loop-init
loop-init g c =
    let e = c.in-Ok.ensures in (
      [],
      Receives-start g.K.Sink g.D.Door (player_of g.W.Simulation.facts c.args.player.now) c.args.out.now c.args.door.now
          c.open.new.self c.args.service.now.member e.same e.grows e.line (λ n serves. (e.served n serves).1),
      apart-start g.D.Door c.args.door.now c.open.new.self
          (player_of g.W.Simulation.facts c.args.player.now).world.cluster c.args.service.now.member
          (Opened c.args.service.now.address.now ∷ []) e.line e.heard e.spare,
    )

pub receive_next-requires-clause-room : goal.receive_next-requires-clause-room
receive_next-requires-clause-room g c =
    steps-left-fewer (player_of g.W.Simulation.facts c.loop.player).world
    (connection_cost * (c.args.service.now.count - c.loop.counter)) connection_cost (omega (arith, c.loop-test.true))
    (room-behind c.loop.counter c.args.service.now.count
    (omega (arith, c.loop-test.true)) c.loop.invariant.1 c.requires.room)

pub receive_next-requires-clause-declared : goal.receive_next-requires-clause-declared
receive_next-requires-clause-declared g c = received-members c.loop.invariant.1 c.requires.declared

pub returns-in_err-receive_next : goal.returns-in_err-receive_next
returns-in_err-receive_next g c =
    let p = err_from_is_err_and c.from_residual.result c.from_residual.ensures.1 in
    let r = c.in_err-receive_next.ensures in (
      c.loop.invariant.0 ++ r.0,
      Receives-stop _ c.from_residual.result (omega (arith, c.loop-test.true)) (p.1 ∙ ap Err p.2)
          (Receives-then (Err _) refl c.loop.invariant.1 r.1),
      apart-stop g.D.Door c.args.door.now _ _ c.from_residual.result
          (player_of g.W.Simulation.facts c.args.player.now).world.cluster c.args.service.now.member
          (Opened c.args.service.now.address.now ∷ []) _ (p.1 ∙ ap Err p.2)
          (apart-then g.D.Door c.args.door.now c.loop.door _ tt (Err _)
          (player_of g.W.Simulation.facts c.args.player.now).world.cluster c.args.service.now.member
          (Opened c.args.service.now.address.now ∷ []) c.loop.invariant.0 r.0 c.loop.invariant.2
          (apart-so c.loop.invariant.1.plays.world r.2)),
    )

pub loop-preserved : goal.loop-preserved
loop-preserved g c =
    let r = c.in_ok-receive_next.ensures in (
      c.loop.invariant.0 ++ r.0,
      Receives-then (Ok tt) refl c.loop.invariant.1 r.1,
      apart-then g.D.Door c.args.door.now c.loop.door _ tt (Ok tt)
          (player_of g.W.Simulation.facts c.args.player.now).world.cluster c.args.service.now.member
          (Opened c.args.service.now.address.now ∷ []) c.loop.invariant.0 r.0 c.loop.invariant.2
          (apart-so c.loop.invariant.1.plays.world r.2),
    )

pub returns : goal.returns
returns g c = (
  c.loop.invariant.0,
  Receives-so (omega (arith, c.loop-test.false, c.loop.auto.counter-end)) c.loop.invariant.1,
  c.loop.invariant.2,
)
