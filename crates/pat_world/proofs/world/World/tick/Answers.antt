use Rattle.std.proofs.Common.{◌+◌, ◌*◌, arith, sym, subst}
use Rattle.std.proofs.lemmas.Result.{on_ok_weaker}
use Rattle.cluster_model.specs.Ticking.{tick_events}
use Rattle.cluster_model.specs.declared.step.Step.TheVariants as steps
use Rattle.simulation.specs.Steps.{WorldFacts}
use Rattle.world_model.specs.Emits.{Emits}
use Rattle.world_model.specs.Idle.{IsIdleIn}
use Rattle.world_model.specs.Room.{HasRoom, step_cost, tick_cost}
use Rattle.world_model.proofs.Idling.{idle-ends}
use Rattle.world_model.proofs.Rooms.{HasRoom-fewer}
use Rattle.world_play.proofs.Lulls.{later-lull}
use Rattle.pat_world.proofs.IdleTicks.{idle-passed, step-took}
use Rattle.pat_world.proofs.world.World.tick.Goals as goal

pub bare_tick-requires-clause-room : goal.bare_tick-requires-clause-room
bare_tick-requires-clause-room c = subst (λ (w : WorldFacts). HasRoom w.cluster tick_cost) (sym c.self.view_is)
    (HasRoom-fewer c.args.self.now.cluster (step_cost * 1) tick_cost (omega arith) c.requires.room.room.room)

pub bare_tick-requires-clause-ends : goal.bare_tick-requires-clause-ends
bare_tick-requires-clause-ends c =
    idle-ends c.args.step.now c.self.inside.stage (c.self.inside.stage.facts.clock + 1)
    (subst (λ (w : WorldFacts). IsIdleIn c.args.step.now (w.cluster.facts.clock + 1) w.cluster)
    (sym c.self.view_is) c.requires.idle)

pub returns-clause-emits : goal.returns-clause-emits
returns-clause-emits c =
    let old = c.args.self.now.cluster in
    on_ok_weaker c.bare_tick.result
    (λ took.
    step-took old c.bare_tick.new.stage c.args.events.now c.bare_tick.new.events c.args.step.now c.requires.idle
    (subst (λ (w : WorldFacts).
    Emits w.cluster c.bare_tick.new.stage c.args.events.now c.bare_tick.new.events (tick_events w.cluster) tick_cost)
    c.self.view_is took))
    c.bare_tick.ensures.emits

pub invariant_of-self : goal.invariant_of-self
invariant_of-self c =
    let now = c.self.inside.stage.facts.clock + 1 in (
      idle-passed steps.Scheduled c.self.inside.idle_before now c.self.inside.stage c.bare_tick.new.stage
          c.bare_tick.ensures.clock c.self.invariant.0,
      idle-passed steps.Tick c.self.inside.ticks_idle_before now c.self.inside.stage c.bare_tick.new.stage
          c.bare_tick.ensures.clock c.self.invariant.1,
      later-lull c.self.inside.lull c.self.inside.stage c.bare_tick.new.stage now c.bare_tick.ensures.clock
          c.self.invariant.2,
    )
