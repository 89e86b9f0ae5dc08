-- The world that a run leaves.
use Rattle.std.specs.Prelude.{◌≡◌, ◌-◌, length}
use Rattle.cluster_model.specs.Starting.{cluster_of}
use Rattle.simulation.specs.Book.{StandsFor}
use Rattle.simulation.specs.Steps.{HasStepsLeft, IsCounted, WorldFacts}
use Rattle.world_model.specs.Room.{most_steps}
use Rattle.run_model.specs.Run.{Played, run_of}

-- the world took all steps of this run: it stands for the book of them and counts them, it may
-- take what is left of the most steps, and no counter has come farther than its steps bring one
pub record IsLeftBy (played : Played) (world : WorldFacts) : Type 0 where
  pub stands : StandsFor (cluster_of played.head) (run_of played) world.cluster
  pub steps : world.steps ≡ length played.steps
  pub left : HasStepsLeft world (most_steps - length played.steps)
  pub counted : IsCounted world
