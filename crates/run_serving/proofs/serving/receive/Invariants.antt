use Rattle.std.proofs.Common.{List, [], ◌∷◌, Ok}
use Rattle.serve_model.specs.Connections.{Connection}
use Rattle.pat_door.specs.Doors.{Opened}
use Rattle.run_serving.specs.Receiving.{Receives}
use Rattle.run_serving.specs.Served.{ComeApart}
use Rattle.run_player.specs.Playing.{player_of}
use Rattle.run_serving.proofs.serving.receive.Given as goal

abbrev pub invariant-loop : goal.invariant-loop
invariant-loop g l = (visitors : List Connection)
    × Receives {X = Unit {0}} g.K.Sink g.D.Door (player_of g.W.Simulation.facts l.fn.player)
    (player_of g.W.Simulation.facts l.player) l.fn.out l.out l.fn.door l.door
    (Ok tt) l.service.member l.counter visitors
    × ComeApart {X = Unit {0}} g.D.Door l.fn.door l.door (Ok tt)
    (player_of g.W.Simulation.facts l.fn.player).world.cluster
    l.service.member (Opened l.service.address.now ∷ []) visitors
