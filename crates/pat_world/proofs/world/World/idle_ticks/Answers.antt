use Rattle.std.proofs.Common.{arith, ap}
use Rattle.simulation.specs.Steps.{WorldFacts}
use Rattle.pat_world.proofs.world.World.idle_ticks.Goals as goal

pub returns-then-left-most-clause-idle : goal.returns-then-left-most-clause-idle
returns-then-left-most-clause-idle c = λ some.
    c.steps_idle_before-before.ensures _ (omega (arith, ap (λ (w : WorldFacts). w.cluster.facts.clock) c.self.view_is))

pub returns-else-left-most-clause-idle : goal.returns-else-left-most-clause-idle
returns-else-left-most-clause-idle c = λ some.
    c.steps_idle_before-before.ensures _ (omega (arith, ap (λ (w : WorldFacts). w.cluster.facts.clock) c.self.view_is))
