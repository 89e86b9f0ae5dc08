-- What a part of a step owes.
use Rattle.std.specs.Prelude.{ℕ, ◌≡◌, ◌+◌, List}
use Rattle.event_book.specs.declared.event.Event.{Event}
use Rattle.event_list.specs.Listed.{Listed, ◌+++◌}
use Rattle.cluster_model.specs.Cluster.{cluster_over}
use Rattle.cluster_model.specs.State.{Cluster}
use Rattle.world_model.specs.Room.{HasRoom}

-- these events happened: they were handed out behind those that there were, and whether messages are traced
-- in the list stays; the cluster is what they leave, and it has room for all but so many events fewer
pub record Emits (before after : Cluster) (had has : Listed) (events : List Event) (cost : ℕ) : Type 0 where
  pub state : after ≡ cluster_over before events
  pub event : has ≡ had +++ events
  pub room : (more : ℕ) → HasRoom before (cost + more) → HasRoom after more
