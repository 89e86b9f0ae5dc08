use Rattle.std.proofs.Common.{subst}
use Rattle.simulation.specs.Steps.{WorldFacts}
use Rattle.world_stage.specs.AgentViews.{IsViewOf}
use Rattle.pat_world.proofs.Running.{view-runs}
use Rattle.pat_world.proofs.world.World.view.Goals as goal

pub returns-clause-running : goal.returns-clause-running
returns-clause-running c = view-runs c.args.self.now.cluster c.args.id c.view.result
    (subst (λ (w : WorldFacts). IsViewOf w.cluster c.args.id c.view.result) c.self.view_is c.view.ensures)
