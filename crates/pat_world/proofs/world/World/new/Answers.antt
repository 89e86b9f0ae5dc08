use Rattle.std.proofs.Common.{[], refl}
use Rattle.cluster_model.specs.declared.step.Step.TheVariants as steps
use Rattle.cluster_model.specs.Starting.{cluster_of}
use Rattle.simulation.proofs.Standing.{is-stands}
use Rattle.pat_world.proofs.IdleTicks.{idle-before-none}
use Rattle.pat_world.proofs.Stepping.{is-counted-first, steps-left-first}
use Rattle.pat_world.proofs.world.World.new.Goals as goal

pub invariant_of-result : goal.invariant_of-result
invariant_of-result c = (
  idle-before-none steps.Scheduled c.in_ok-stage.stage,
  idle-before-none steps.Tick c.in_ok-stage.stage,
  c.unknown.ensures c.in_ok-stage.stage,
)

pub returns-clause-book : goal.returns-clause-book
returns-clause-book c = is-stands (cluster_of c.args.head.now) [] c.in_ok-stage.stage c.in_ok-stage.ensures

pub returns-clause-room : goal.returns-clause-room
returns-clause-room c = steps-left-first c.args.head.now _ c.in_ok-stage.ensures refl

pub returns-clause-counted : goal.returns-clause-counted
returns-clause-counted c = is-counted-first c.args.head.now c.in_ok-stage.stage c.in_ok-stage.ensures
