-- What a step keeps.
use Rattle.std.specs.Prelude.{◌++◌, List}
use Rattle.cluster_model.specs.declared.step.Step.{Step}
use Rattle.script_model.specs.Script.{HeadText, IsHead}
use Rattle.event_book.specs.declared.event.Event.{Event}
use Rattle.event_book.specs.Writers.{HasOneWriter}
use Rattle.cluster_model.specs.Next.{run_events}
use Rattle.cluster_model.specs.Starting.{cluster_of}
use Rattle.cluster_model.specs.State.{Cluster}
use Rattle.lease_parts.specs.Kept.{WhereMet}
use Rattle.simulation.specs.Book.{StandsFor}

-- whichever steps brought a world here from a head: at each moment of their book, and inside
-- the events that come next, at most one server accepts writes, as long as the premises are met
pub record KeepsOneWriter (world : Cluster) (events : List Event) : Type 0 where
  pub sole : (head : HeadText) (steps : List Step) → IsHead head
      → StandsFor (cluster_of head) (run_events (cluster_of head) steps) world
      → WhereMet head (run_events (cluster_of head) steps ++ events) HasOneWriter
