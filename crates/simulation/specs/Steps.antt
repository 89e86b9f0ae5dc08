-- A world, and the steps that it took.
use Rattle.std.specs.Prelude.{Bool, ℕ, ◌≡◌, ◌+◌, ◌≤◌}
use Rattle.cluster_model.specs.State.{Cluster}
use Rattle.world_model.specs.Counted.{AreCounted, counted_by}
use Rattle.world_model.specs.Room.{HasRoomFor, most_steps}

-- a cluster at a moment, how many steps a world took up to there, and
-- whether it is spent: memory ran out in a step, so it takes no more of them
pub record WorldFacts : Type 0 where
  pub cluster : Cluster
  pub steps : ℕ
  pub spent : Bool

-- a world may take so many steps more: they bring no counter to its
-- end, and with those that it took they are no more than a world takes
pub record HasStepsLeft (world : WorldFacts) (more : ℕ) : Type 0 where
  pub room : HasRoomFor world.cluster more
  pub steps : world.steps + more ≤ most_steps

-- no counter has come farther than the steps that were taken bring one
abbrev pub IsCounted : WorldFacts → Type 0
IsCounted world = AreCounted world.cluster (counted_by world.steps)

-- a world took so many steps: it counts them, and they took no more
-- room, and brought no counter farther, than so many do
pub record TookSteps (before after : WorldFacts) (count : ℕ) : Type 0 where
  pub steps : after.steps ≡ before.steps + count
  pub room : (more : ℕ) → HasRoomFor before.cluster (count + more) → HasRoomFor after.cluster more
  pub counted : IsCounted before → IsCounted after
