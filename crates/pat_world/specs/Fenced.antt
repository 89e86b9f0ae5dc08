-- Which writes under a lease are granted in a step.
use Rattle.std.specs.Prelude.{List}
use Rattle.cluster_model.specs.declared.step.Step.{Step}
use Rattle.script_model.specs.Script.{HeadText}
use Rattle.event_book.specs.declared.event.Event.{Event}
use Rattle.cluster_model.specs.Next.{run_events}
use Rattle.cluster_model.specs.Starting.{cluster_of}
use Rattle.cluster_model.specs.State.{Cluster}
use Rattle.lease_runs.specs.Fencing.{AreFenced}
use Rattle.simulation.specs.Book.{StandsFor}

-- whichever steps brought a world here from a head: each write under a lease that is granted inside the
-- events that come next finds the leader key there at that moment, as the grant of that lease left it
abbrev pub KeepsFencing : Cluster → List Event → Type 0
KeepsFencing world events = (head : HeadText) (steps : List Step)
    → StandsFor (cluster_of head) (run_events (cluster_of head) steps) world → AreFenced world events
