use Rattle.std.proofs.Common.{arith}
use Rattle.cluster_model.specs.declared.step.Step.TheVariants as steps
use Rattle.pat_world.proofs.IdleTicks.{idle-before-none, idle-found, ticks-idle-found}
use Rattle.pat_world.proofs.world.World.take.Goals as goal

pub take_step-requires-clause-lull : goal.take_step-requires-clause-lull
take_step-requires-clause-lull c = c.self.invariant.2

pub invariant_of-self : goal.invariant_of-self
invariant_of-self c = (
  idle-before-none steps.Scheduled c.take_step.new.stage,
  idle-before-none steps.Tick c.take_step.new.stage,
  c.unknown-self-inside.ensures c.take_step.new.stage,
)

pub invariant_of-self-2 : goal.invariant_of-self-2
invariant_of-self-2 c = (
  idle-found c.self.inside.stage c.take_step.new.stage c.args.events.now c.take_step.new.events c.args.step.now
      c.idle_before-self-inside.result c.len.result c.idle_before-self-inside.ensures.scheduled
      c.idle_before-self-inside.ensures.one c.idle_before-self-inside.ensures.due
      c.requires.empty (omega (arith, c.len.ensures)) c.in_default.ensures.emits c.in_default.ensures.acknowledged,
  ticks-idle-found c.take_step.new.stage c.ticks_idle_before-self-inside.result
      c.ticks_idle_before-self-inside.ensures c.in_default.ensures.acknowledged,
  c.in_default.ensures.lull,
)
