use Rattle.std.proofs.Common.{replicate}
use Rattle.run_player.specs.Playing.{player_of}
use Rattle.run_player.proofs.Played.{Playing}
use Rattle.run_player.proofs.player.Player.play_ticks.Given as goal

abbrev pub invariant-loop-left : goal.invariant-loop-left
invariant-loop-left g l = Playing g.K.Sink (player_of g.W.Simulation.facts l.fn.self)
    (player_of g.W.Simulation.facts l.self) l.fn.out l.out (replicate l.count l.step) (replicate l.left l.step)

abbrev pub decreases-loop-left : goal.decreases-loop-left
decreases-loop-left g l = l.left
