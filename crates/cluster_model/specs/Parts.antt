-- Parts of a step, and how they follow one another.
use Rattle.std.specs.Prelude.{Bool, true, false, List, [], ◌∷◌, ◌++◌, map, Option}
use Rattle.std.specs.Option.{option_map_or}
use Rattle.pat_base.specs.declared.ticks.Ticks.{Ticks}
use Rattle.event_book.specs.declared.event.Event.{Event}
use Rattle.event_book.specs.declared.event.EventKind.{EventKind}
use Rattle.cluster_model.specs.Cluster.{cluster_after, cluster_over}
use Rattle.cluster_model.specs.State.{Cluster}

-- one happening, at its moment
abbrev pub event_of : Cluster → EventKind → List Event
event_of cluster kind = record { tick = record { 0 = (cluster_after cluster kind).facts.clock }; kind = kind } ∷ []

-- happenings, one after another
abbrev pub events_of : Cluster → List EventKind → List Event
events_of cluster [] = []
events_of cluster (kind ∷ more) = event_of cluster kind ++ events_of (cluster_after cluster kind) more

-- these happenings at one moment
abbrev pub events_at : Ticks → List EventKind → List Event
events_at tick kinds = map (λ kind. record { tick = tick; kind = kind }) kinds

-- these events, and then what comes after them
abbrev pub events_then : Cluster → List Event → (Cluster → List Event) → List Event
events_then cluster events more = events ++ more (cluster_over cluster events)

-- what comes of something, where there is something
abbrev pub for_some : {X : Type 0} → Option X → (X → List Event) → List Event
for_some found events = option_map_or events found []

-- what comes of each of these, one after another
abbrev pub each : {X : Type 0} → (Cluster → X → List Event) → Cluster → List X → List Event
each events cluster [] = []
each events cluster (x ∷ more) = events_then cluster (events cluster x) (λ later. each events later more)

-- whether nothing happens
abbrev pub is_empty : List Event → Bool
is_empty [] = true
is_empty (event ∷ events) = false
