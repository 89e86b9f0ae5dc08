-- What the laws of configurations say.
use Rattle.std.specs.Prelude.{Bool, ◌≡◌, ◌⊎◌, ℕ, List, [], ◌∷◌, Option, Some, None, option_and_then}
use Rattle.store_keys.specs.declared.config.Config.{Config}
use Rattle.serde_json.specs.Data.{Data, object, Members, no_members, member}
use Rattle.serde_json.specs.Find.{get, get_member}
use Rattle.cluster_config.specs.declared.setting.Setting.{Setting}
use Rattle.cluster_config.specs.declared.setting.Setting.TheVariants as settings

-- the number that is set; nothing for a setting that is a truth value
abbrev pub number_set : Setting → Config → Option ℕ
number_set settings.FailsafeMode config = None
number_set settings.LoopWait config = Some config.loop_wait
number_set settings.MaximumLagOnFailover config = Some config.maximum_lag_on_failover
number_set settings.Pause config = None
number_set settings.UsePgRewind config = None
number_set settings.PrimaryStartTimeout config = Some config.primary_start_timeout
number_set settings.RetryTimeout config = Some config.retry_timeout
number_set settings.StandbyCluster config = None
number_set settings.SynchronousMode config = None
number_set settings.SynchronousModeStrict config = None
number_set settings.SynchronousNodeCount config = Some config.synchronous_node_count
number_set settings.Ttl config = Some config.ttl

-- the truth value that is set; nothing for a setting that is a number
abbrev pub truth_set : Setting → Config → Option Bool
truth_set settings.FailsafeMode config = Some config.failsafe_mode
truth_set settings.LoopWait config = None
truth_set settings.MaximumLagOnFailover config = None
truth_set settings.Pause config = Some config.pause
truth_set settings.UsePgRewind config = Some config.use_pg_rewind
truth_set settings.PrimaryStartTimeout config = None
truth_set settings.RetryTimeout config = None
truth_set settings.StandbyCluster config = None
truth_set settings.SynchronousMode config = Some config.synchronous_mode
truth_set settings.SynchronousModeStrict config = Some config.synchronous_mode_strict
truth_set settings.SynchronousNodeCount config = None
truth_set settings.Ttl config = None

-- an object has each name once
abbrev pub IsDistinct : Members → Type 0
IsDistinct no_members = Unit {0}
IsDistinct (member name d ms) = (get_member name ms ≡ None) × IsDistinct ms

-- what stands at the end of a path of names
abbrev pub found_along : List (List ℕ) → Data → Option Data
found_along [] d = Some d
found_along (name ∷ path) d = option_and_then (found_along path) (get name d)

-- a patch says nothing of what stands at the end of a path: at some
-- name along it, the patch has nothing, and objects before
abbrev pub LeavesAlone : List (List ℕ) → Members → Members → Type 0
LeavesAlone [] present patch = ⊥
LeavesAlone (name ∷ path) present patch =
    (get_member name patch ≡ None)
    ⊎ ((inner : Members) × (there : Members) × (get_member name patch ≡ Some (object inner)) ×
    (get_member name present ≡ Some (object there)) × IsDistinct present × IsDistinct patch ×
    LeavesAlone path there inner)
