use Rattle.std.proofs.Common.{arith}
use Rattle.std.proofs.lemmas.Result.{on_ok_weaker}
use Rattle.world_ticks.proofs.Bare.{bare-took}
use Rattle.world_ticks.proofs.ticks.bare_tick.Goals as goal

pub pass-requires : goal.pass-requires
pass-requires c = omega (arith, c.requires.room.clock)

pub returns-clause-emits : goal.returns-clause-emits
returns-clause-emits c =
    on_ok_weaker c.write_down.result
    (λ noted. bare-took c.args.stage.now c.pass.new.self c.args.events.now c.write_down.new.events
    c.clock.result c.pass.ensures c.clock.ensures noted c.requires.ends)
    c.write_down.ensures
