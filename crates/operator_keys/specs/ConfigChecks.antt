-- The checks of changes of the configuration: the configuration that a request gives,
-- or what refuses it (Patroni's documentation of the REST API, "Config endpoint").
use Rattle.std.specs.Prelude.{ℕ, Bool, List, Option, Some, None, Result, Ok, Err}
use Rattle.std.specs.Option.{option_copied}
use Rattle.store_keys.specs.declared.key.Key.TheVariants as keys
use Rattle.store_keys.specs.declared.value.KeyEntry.{KeyEntry}
use Rattle.store_keys.specs.declared.value.Value.{Value}
use Rattle.store_keys.specs.declared.value.Value.TheVariants as values
use Rattle.store_keys.specs.Defaults.{default_settings}
use Rattle.store_keys.specs.Settings.{Settings}
use Rattle.cluster_config.specs.declared.config_fault.ConfigFault.{ConfigFault}
use Rattle.cluster_view.specs.declared.view.AgentView.{AgentView}
use Rattle.cluster_config.specs.ConfigReading.{config_patched, config_replaced}
use Rattle.cluster_view.specs.Snapshots.{SnapshotFacts, entry_in}
use Rattle.operator_answers.specs.declared.answer_text.Text.TheVariants as texts
use Rattle.operator_keys.specs.declared.config_checks.ConfigChange.{ConfigChange}
use Rattle.operator_keys.specs.declared.config_checks.ConfigChange.TheVariants as changes
use Rattle.operator_keys.specs.declared.refusal.Refused.{Refused}
use Rattle.operator_keys.specs.Checks.{seen_if}
use Rattle.operator_keys.specs.Refusals.{on_ok}
use Rattle.operator_answers.specs.Statuses.{bad_request}

-- the configuration that a value is
abbrev pub configuration_by : Value → Option Settings
configuration_by (values.Config config) = Some config
configuration_by _ = None

-- the configuration that an entry holds
abbrev pub configuration_of_entry : Option KeyEntry → Option Settings
configuration_of_entry None = None
configuration_of_entry (Some found) = configuration_by found.value

-- the configuration in a snapshot
abbrev pub configuration_in : SnapshotFacts → Option Settings
configuration_in seen = configuration_of_entry (entry_in keys.Config seen)

-- what a change with this body makes of the present configuration
abbrev pub changed : ConfigChange → Settings → List ℕ → Result Settings ConfigFault
changed changes.Patch present bytes = config_patched present bytes
changed changes.Replace present bytes = config_replaced present bytes

-- a configuration, or its first fault as what refuses it
abbrev pub unless_faulty : Result Settings ConfigFault → Result Settings Refused
unless_faulty (Ok next) = Ok next
unless_faulty (Err fault) = Err (record { status = bad_request; text = texts.BadConfiguration fault })

-- the configuration that a change gives of the present one, or of one that
-- sets nothing where a snapshot has none (no snapshot is without one)
abbrev pub configuration_from : ConfigChange → Option Settings → List ℕ → Result Settings Refused
configuration_from change None bytes = unless_faulty (changed change default_settings bytes)
configuration_from change (Some present) bytes = unless_faulty (changed change present bytes)

-- the configuration that a change gives by this snapshot, or the first of these that refuses
-- it: the want of a snapshot, a request that waits, and what is at fault in the configuration
abbrev pub configuration_on : Option SnapshotFacts → Bool → ConfigChange → List ℕ → Result Settings Refused
configuration_on seen waits change bytes =
    on_ok (seen_if seen waits) (λ snapshot. configuration_from change (configuration_in snapshot) bytes)

-- the same by what an agent shows
abbrev pub configuration_of : AgentView → ConfigChange → List ℕ → Result Settings Refused
configuration_of view change bytes = configuration_on (option_copied view.seen) view.waits change bytes
