use Rattle.std.proofs.Common.{ℕ, ◌≡◌, ◌<◌, ◌+◌, arith, subst}
use Rattle.world_model.specs.Idle.{IsIdleIn}
use Rattle.pat_world.proofs.world.World.tick_or_take.Goals as goal

pub tick-requires-clause-idle : goal.tick-requires-clause-idle
tick-requires-clause-idle c =
    let some : 0 < c.idle_ticks.result = omega arith in
    let one : c.idle_ticks.result ≡ 1 = omega (arith, c.idle_ticks.ensures.most) in
    subst (λ (n : ℕ). IsIdleIn c.args.step.now (c.args.self.now.cluster.facts.clock + n) c.args.self.now.cluster) one
    (c.idle_ticks.ensures.idle some)
