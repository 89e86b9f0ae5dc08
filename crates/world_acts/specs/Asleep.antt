-- Agents that are known to have nothing to do.
use Rattle.std.specs.Prelude.{ℕ, ◌<◌, slice_index_or}
use Rattle.event_book.specs.declared.member.Member.{Member}
use Rattle.cluster_model.specs.State.{Cluster}
use Rattle.world_model.specs.Idle.{SleepsAt}
use Rattle.world_acts.specs.declared.sleepers.Sleepers.{Sleepers}

-- before which moment the agent of the member of this number is known to have nothing to do
abbrev pub until_of : Sleepers → ℕ → ℕ
until_of sleepers number = (slice_index_or sleepers.until number (record { 0 = 0 })).0

-- before its moment the agent of each member isn't to be woken
pub record AreAsleep (sleepers : Sleepers) (cluster : Cluster) : Type 0 where
  pub each : (member : Member) (now : ℕ) → now < until_of sleepers member.id.number → SleepsAt now cluster member
