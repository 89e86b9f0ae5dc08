use Rattle.std.proofs.Common.{length}
use Rattle.script_model.specs.Script.{AllAreLines, names_of}
use Rattle.cluster_model.specs.Steps.{steps_of}
use Rattle.run_player.specs.Playing.{player_of}
use Rattle.run_player.proofs.Played.{Playing}
use Rattle.run_player.proofs.player.Player.play_body.Given as goal

abbrev pub invariant-loop-line : goal.invariant-loop-line
invariant-loop-line g l =
    Playing g.K.Sink (player_of g.W.Simulation.facts l.fn.self)
    (player_of g.W.Simulation.facts l.self) l.fn.out l.out (steps_of l.fn.script.body) (steps_of l.lines)
    × AllAreLines (names_of l.fn.script.head) l.lines

abbrev pub decreases-loop-line : goal.decreases-loop-line
decreases-loop-line g l = length l.lines
