-- Why a JSON value is no configuration: its first fault.
use Rattle.std.specs.Prelude.{ℕ, ◌+◌, ◌*◌, Bool, true, false, not, is_some, nat_lt, nat_le, find, Option, Some, None, option_map}
use Rattle.store_keys.specs.declared.config.Config.{Config}
use Rattle.serde_json.specs.Data.{Data}
use Rattle.serde_json.specs.Written.{has_float}
use Rattle.cluster_config.specs.declared.config_fault.ConfigFault.{ConfigFault}
use Rattle.cluster_config.specs.declared.config_fault.ConfigFault.TheVariants as faults
use Rattle.cluster_config.specs.declared.setting.Setting.{Setting}
use Rattle.cluster_config.specs.declared.setting.Setting.TheVariants as settings
use Rattle.cluster_config.specs.declared.setting.SettingKind.{SettingKind}
use Rattle.cluster_config.specs.declared.setting.SettingKind.TheVariants as setting_kinds
use Rattle.cluster_config.specs.declared.setting.SettingRange.{SettingRange}
use Rattle.cluster_config.specs.declared.setting_value.WholeNumber.{WholeNumber}
use Rattle.cluster_config.specs.declared.setting_value.WholeNumber.TheVariants.{BelowZero, FromZero}
use Rattle.cluster_config.specs.SettingTable.{kind_of, range_of, settings_in_order}
use Rattle.cluster_config.specs.SettingValues.{value_at, whole_number, truth_value}

-- whether what stands for a whole number is none, or above the greatest
abbrev pub is_bad_number : SettingRange → Option WholeNumber → Bool
is_bad_number range None = true
is_bad_number range (Some BelowZero) = false
is_bad_number range (Some (FromZero n)) = nat_lt range.greatest n

-- whether a value isn't of a setting's kind, or above its greatest; what is kept may be anything
abbrev pub is_bad_value : SettingKind → Data → Bool
is_bad_value (setting_kinds.Number range) d = is_bad_number range (whole_number d)
is_bad_value setting_kinds.Truth d = not (is_some (truth_value d))
is_bad_value setting_kinds.Kept d = false

-- the same of what a configuration has at a setting's key; where nothing stands nothing is bad
abbrev pub is_bad_if_some : SettingKind → Option Data → Bool
is_bad_if_some kind None = false
is_bad_if_some kind (Some d) = is_bad_value kind d

-- whether the value at a setting's key is of the wrong kind, or above the greatest
abbrev pub is_bad : Data → Setting → Bool
is_bad d setting = is_bad_if_some (kind_of setting) (value_at setting d)

-- whether a whole number is below the least
abbrev pub is_low_number : SettingRange → Option WholeNumber → Bool
is_low_number range None = false
is_low_number range (Some BelowZero) = true
is_low_number range (Some (FromZero n)) = nat_lt n range.least

-- whether a value is below a setting's least
abbrev pub is_low_value : Option SettingRange → Data → Bool
is_low_value None d = false
is_low_value (Some range) d = is_low_number range (whole_number d)

-- the same of what a configuration has at a setting's key
abbrev pub is_low_if_some : Option SettingRange → Option Data → Bool
is_low_if_some range None = false
is_low_if_some range (Some d) = is_low_value range d

-- whether the value at a setting's key is below the setting's least
abbrev pub is_low : Data → Setting → Bool
is_low d setting = is_low_if_some (range_of setting) (value_at setting d)

-- a lease lasts as long as one wait between turns and two waits for an
-- answer (Patroni's documentation, "Dynamic Configuration Settings")
abbrev pub keeps_times : Config → Bool
keeps_times config = nat_le (config.loop_wait + 2 * config.retry_timeout) config.ttl

-- whether what was on is off, or the other way round
abbrev pub is_switched : Bool → Bool → Bool
is_switched true next = not next
is_switched false next = next

-- whether a configuration changes a setting of another that is as the
-- first configuration has it for good: the failsafe mode, and quorum commit
abbrev pub is_changed : Config → Config → Setting → Bool
is_changed present next settings.FailsafeMode = is_switched present.failsafe_mode next.failsafe_mode
is_changed present next settings.SynchronousMode = is_switched present.quorum next.quorum
is_changed present next _ = false

-- this fault, or else the next
abbrev pub or_next : Option ConfigFault → Option ConfigFault → Option ConfigFault
or_next None next = next
or_next (Some fault) next = Some fault

-- this fault where a rule is broken
abbrev pub fault_if : Bool → ConfigFault → Option ConfigFault
fault_if false fault = None
fault_if true fault = Some fault

-- the first fault of a value that sets this: of the first setting in byte order that is of the
-- wrong kind, of the first below its least, of the rule on times, of a number that isn't whole
abbrev pub fault_of : Data → Config → Option ConfigFault
fault_of d config =
    or_next (option_map faults.BadValue (find (is_bad d) settings_in_order)) (
    or_next (option_map faults.BelowMinimum (find (is_low d) settings_in_order)) (
    or_next (fault_if (not (keeps_times config)) faults.TimesRule) (
    fault_if (has_float d) faults.Fraction)))
