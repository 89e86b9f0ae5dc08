-- `/config`: the configuration (Patroni documentation, "Patroni REST API", "Config endpoint").
use Rattle.std.specs.Prelude.{ℕ, List, [], Option, Some, None}
use Rattle.store_keys.specs.declared.key.Key.TheVariants as keys
use Rattle.store_keys.specs.declared.value.KeyEntry.{KeyEntry}
use Rattle.store_keys.specs.declared.value.Value.{Value}
use Rattle.store_keys.specs.declared.value.Value.TheVariants as values
use Rattle.cluster_view.specs.Snapshots.{SnapshotFacts, entry_in}

-- the text of a value of the configuration's key
abbrev pub text_by : Value → List ℕ
text_by (values.Config config) = config.text
text_by _ = []

-- the text by the entry of the configuration's key, which is in each snapshot that was read
abbrev pub text_of_entry : Option KeyEntry → List ℕ
text_of_entry None = []
text_of_entry (Some found) = text_by found.value

-- the text of the configuration
abbrev pub configuration_text : SnapshotFacts → List ℕ
configuration_text snapshot = text_of_entry (entry_in keys.Config snapshot)
