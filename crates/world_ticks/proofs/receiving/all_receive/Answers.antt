use Rattle.std.proofs.Common.{arith, eqb-true}
use Rattle.world_model.specs.Room.{receiving_cost}
use Rattle.world_model.proofs.Settled.{caught-up-where, none-received}
use Rattle.world_ticks.proofs.receiving.all_receive.Goals as goal

pub returns-then-caught_up-clause-emits : goal.returns-then-caught_up-clause-emits
returns-then-caught_up-clause-emits c =
    none-received c.args.stage.now c.args.events.now receiving_cost (c.requires.caught_up c.if-caught_up.true)

pub returns-clause-caught_up : goal.returns-clause-caught_up
returns-clause-caught_up c = λ same.
    caught-up-where c.args.stage.now c.each_receives.new.stage c.args.events.now c.each_receives.new.events
    receiving_cost c.in_ok-each_receives.ensures
    (omega (arith, eqb-true c.len.result c.len-before.result same, c.len.ensures, c.len-before.ensures))
