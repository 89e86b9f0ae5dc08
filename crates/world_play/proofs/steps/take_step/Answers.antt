use Rattle.std.proofs.Common.{arith}
use Rattle.cluster_model.specs.Next.{acknowledge_events, step_events}
use Rattle.cluster_model.specs.Parts.{each}
use Rattle.world_model.specs.Room.{step_cost}
use Rattle.world_model.proofs.Settled.{caught-up-behind, none-acknowledged}
use Rattle.world_model.proofs.Taking.{Emits-then}
use Rattle.world_acts.proofs.Sleeping.{asleep-behind}
use Rattle.world_play.proofs.steps.take_step.Goals as goal

pub returns-then-lull-clause-emits : goal.returns-then-lull-clause-emits
returns-then-lull-clause-emits c =
    let settled = c.in_ok-caught_up.ensures.lull.settled c.if-lull.true in
    Emits-then c.args.stage.now c.perform.new.stage c.perform.new.stage _ _ _
    (step_events c.args.stage.now c.args.step.now)
    (λ later. each acknowledge_events later later.facts.members) step_cost 0 step_cost c.in_ok-caught_up.ensures.emits
    (none-acknowledged c.perform.new.stage c.perform.new.events 0 settled.1) (omega arith)

pub returns-clause-emits : goal.returns-clause-emits
returns-clause-emits c =
    Emits-then c.args.stage.now c.perform.new.stage c.acknowledge_all.new.self _ _ _
    (step_events c.args.stage.now c.args.step.now) (λ later. each acknowledge_events later later.facts.members)
    step_cost 0 step_cost c.in_ok-caught_up.ensures.emits c.in_ok-acknowledge_all.ensures.emits (omega arith)

pub returns-clause-lull : goal.returns-clause-lull
returns-clause-lull c =
    let took = c.in_ok-acknowledge_all.ensures.emits in
    let caught_up =
    caught-up-behind c.perform.new.stage c.acknowledge_all.new.self c.perform.new.events
    c.acknowledge_all.new.events _ 0 c.len-from.result _ c.still_caught_up-lull.result took
    (omega (arith, c.len-from.ensures)) c.still_caught_up-lull.ensures
    c.in_ok-caught_up.ensures.caught_up in
    record {
      settled = λ known. (caught_up known, c.in_ok-acknowledge_all.ensures.done);
      asleep = asleep-behind _ c.pass.new.self c.perform.new.stage c.acknowledge_all.new.self
          c.perform.new.events c.acknowledge_all.new.events _ c.len-from.result took.state took.event
          (omega (arith, c.len-from.ensures)) c.in_ok-caught_up.ensures.lull.asleep c.pass.ensures.asleep;
    }
