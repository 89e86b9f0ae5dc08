use Rattle.std.proofs.Common.{refl}
use Rattle.run_player.specs.Playing.{player_of}
use Rattle.run_player.proofs.Idling.{idles}
use Rattle.run_player.proofs.player.Player.idle.Goals as goal

pub returns : goal.returns
returns g c = idles (player_of g.W.Simulation.facts c.args.self.now) _ c.args.step.now c.args.count
    c.idle_for-ticks.result c.idle_for-ticks.ensures.most c.idle_for-ticks.ensures.ticks
    c.idle_for-ticks.ensures.world refl c.in_ok-note_ticks.ensures c.idle_for-ticks.ensures.taken
