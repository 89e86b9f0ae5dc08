use Rattle.std.proofs.Common.{arith}
use Rattle.world_acts.proofs.Sleeping.{asleep-took, one-less-asleep, one-more-asleep, woken-behind, woken-more}
use Rattle.world_acts.proofs.Waking.{wake-took}
use Rattle.world_acts.proofs.wakes.wake.Goals as goal

pub returns-then-clock-until-clause-emits : goal.returns-then-clock-until-clause-emits
returns-then-clock-until-clause-emits c =
    asleep-took c.args.stage.now c.args.member c.args.events.now
    (c.wake_from-until.ensures.asleep c.args.stage.now.facts.clock
    (omega (arith, c.if-clock-until.true, c.clock.ensures)))

pub returns-then-clock-until-clause-asleep : goal.returns-then-clock-until-clause-asleep
returns-then-clock-until-clause-asleep c =
    one-more-asleep c.args.asleep.now c.set.new.self c.args.stage.now c.args.member c.wake_from-until.result.0
    c.requires.asleep c.wake_from-until.ensures.asleep c.set.ensures.same c.set.ensures.others

pub prove-unreachable-requires : goal.prove-unreachable-requires
prove-unreachable-requires c =
    let more = woken-more c.args.stage.now c.awaken.new.stage c.args.member c.args.events.now
    c.awaken.new.events c.in_ok-awaken.ensures in
    omega (arith, more, c.len-from.ensures, c.len-count.ensures, c.if-prove.true)

pub returns-clause-emits : goal.returns-clause-emits
returns-clause-emits c =
    let awake = c.wake_from-until.ensures.awake c.args.stage.now.facts.clock
    (omega (arith, c.if-clock-until.false, c.clock.ensures)) (omega (arith, c.requires.room.clock)) in
    wake-took c.args.stage.now c.awaken.new.stage c.args.member c.args.events.now c.awaken.new.events awake
    c.in_ok-awaken.ensures

pub returns-clause-asleep : goal.returns-clause-asleep
returns-clause-asleep c =
    let others = one-less-asleep c.args.asleep.now c.forget.new.self c.args.stage.now c.args.member
    c.requires.asleep c.forget.ensures.same c.forget.ensures.others in
    woken-behind c.forget.new.self c.pass.new.self c.args.stage.now c.awaken.new.stage c.args.member c.args.events.now
    c.awaken.new.events c.len-from.result c.in_ok-awaken.ensures (omega (arith, c.len-from.ensures))
    c.forget.ensures.same others c.pass.ensures.asleep
