-- The settings of a cluster: their names, their order and their ranges
-- (Patroni's documentation, "Dynamic Configuration Settings").
use Rattle.std.specs.Prelude.{ℕ, ◌≤◌, ◌^◌, List, [], ◌∷◌, Option, Some, None, codes}
use Rattle.cluster_config.specs.declared.setting.Setting.{Setting}
use Rattle.cluster_config.specs.declared.setting.Setting.TheVariants as settings
use Rattle.cluster_config.specs.declared.setting.SettingKind.{SettingKind}
use Rattle.cluster_config.specs.declared.setting.SettingKind.TheVariants as setting_kinds
use Rattle.cluster_config.specs.declared.setting.SettingRange.{SettingRange}
use Rattle.pat_base.specs.declared.member_id.TheConstants.{MOST_MEMBERS}

-- the name of a setting in the text of a configuration, with that of the object that it stands in
abbrev pub setting_name : Setting → List ℕ
setting_name settings.FailsafeMode = codes "failsafe_mode"
setting_name settings.LoopWait = codes "loop_wait"
setting_name settings.MaximumLagOnFailover = codes "maximum_lag_on_failover"
setting_name settings.Pause = codes "pause"
setting_name settings.UsePgRewind = codes "postgresql.use_pg_rewind"
setting_name settings.PrimaryStartTimeout = codes "primary_start_timeout"
setting_name settings.RetryTimeout = codes "retry_timeout"
setting_name settings.StandbyCluster = codes "standby_cluster"
setting_name settings.SynchronousMode = codes "synchronous_mode"
setting_name settings.SynchronousModeStrict = codes "synchronous_mode_strict"
setting_name settings.SynchronousNodeCount = codes "synchronous_node_count"
setting_name settings.Ttl = codes "ttl"

-- all settings, in the byte order of their names
abbrev pub settings_in_order : List Setting
settings_in_order = settings.FailsafeMode ∷ settings.LoopWait ∷ settings.MaximumLagOnFailover ∷ settings.Pause
    ∷ settings.UsePgRewind ∷ settings.PrimaryStartTimeout ∷ settings.RetryTimeout ∷ settings.StandbyCluster
    ∷ settings.SynchronousMode ∷ settings.SynchronousModeStrict ∷ settings.SynchronousNodeCount ∷ settings.Ttl ∷ []

-- a day, in seconds: the longest time that a setting may say
abbrev pub longest : ℕ
longest = 86400

-- in seconds
abbrev pub loop_wait_range : SettingRange
loop_wait_range = record { least = 1; greatest = longest }

-- in seconds
abbrev pub retry_timeout_range : SettingRange
retry_timeout_range = record { least = 3; greatest = longest }

-- in seconds
abbrev pub ttl_range : SettingRange
ttl_range = record { least = 20; greatest = longest }

-- in bytes
abbrev pub maximum_lag_range : SettingRange
maximum_lag_range = record { least = 0; greatest = 2 ^ 62 }

-- in seconds
abbrev pub primary_start_timeout_range : SettingRange
primary_start_timeout_range = record { least = 0; greatest = longest }

-- in standbys
abbrev pub node_count_range : SettingRange
node_count_range = record { least = 1; greatest = MOST_MEMBERS }

-- what a setting holds: a number within a range, a truth value, or an object that is kept
abbrev pub kind_of : Setting → SettingKind
kind_of settings.FailsafeMode = setting_kinds.Truth
kind_of settings.LoopWait = setting_kinds.Number loop_wait_range
kind_of settings.MaximumLagOnFailover = setting_kinds.Number maximum_lag_range
kind_of settings.Pause = setting_kinds.Truth
kind_of settings.UsePgRewind = setting_kinds.Truth
kind_of settings.PrimaryStartTimeout = setting_kinds.Number primary_start_timeout_range
kind_of settings.RetryTimeout = setting_kinds.Number retry_timeout_range
kind_of settings.StandbyCluster = setting_kinds.Kept
kind_of settings.SynchronousMode = setting_kinds.Truth
kind_of settings.SynchronousModeStrict = setting_kinds.Truth
kind_of settings.SynchronousNodeCount = setting_kinds.Number node_count_range
kind_of settings.Ttl = setting_kinds.Number ttl_range

-- the range of what is a number; nothing for anything else
abbrev pub range_in : SettingKind → Option SettingRange
range_in (setting_kinds.Number range) = Some range
range_in setting_kinds.Truth = None
range_in setting_kinds.Kept = None

-- the range of a setting that is a number
abbrev pub range_of : Setting → Option SettingRange
range_of setting = range_in (kind_of setting)

-- a number is within a range
abbrev pub IsWithin : SettingRange → ℕ → Type 0
IsWithin range n = (range.least ≤ n) × (n ≤ range.greatest)
