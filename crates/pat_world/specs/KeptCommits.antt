-- What a step keeps of acknowledged commits.
use Rattle.std.specs.Prelude.{◌++◌, List}
use Rattle.cluster_model.specs.declared.step.Step.{Step}
use Rattle.script_model.specs.Script.{HeadText, IsHead}
use Rattle.event_book.specs.declared.event.Event.{Event}
use Rattle.cluster_model.specs.Next.{run_events}
use Rattle.cluster_model.specs.Starting.{cluster_of}
use Rattle.cluster_model.specs.State.{Cluster}
use Rattle.commit_runs.specs.Runs.{KeepsCommitsIn, KeepsOrderIn}
use Rattle.simulation.specs.Book.{StandsFor}

-- whichever steps brought a world here from a head with synchronous mode on: at each moment of their book, and
-- inside the events that come next, each server that accepts writes has each acknowledged commit, and required
-- lists and sync key are in order, as long as the premises of one writer are met and the mode stays on
pub record KeepsAcknowledged (world : Cluster) (events : List Event) : Type 0 where
  pub kept : (head : HeadText) (steps : List Step) → IsHead head
      → StandsFor (cluster_of head) (run_events (cluster_of head) steps) world
      → KeepsCommitsIn head (run_events (cluster_of head) steps ++ events)
  pub order : (head : HeadText) (steps : List Step) → IsHead head
      → StandsFor (cluster_of head) (run_events (cluster_of head) steps) world
      → KeepsOrderIn head (run_events (cluster_of head) steps ++ events)
