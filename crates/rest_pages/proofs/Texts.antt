-- The text of a configuration.
use Rattle.std.proofs.Common.{◌≡◌, ◌∙◌, true, false, Option, Some, None, IsSome, refl, ap}
use Rattle.store_keys.specs.declared.key.Key.TheVariants as keys
use Rattle.store_keys.specs.declared.value.KeyEntry.{KeyEntry}
use Rattle.store_keys.specs.declared.value.Value.{Value}
use Rattle.store_keys.specs.declared.value.Value.TheVariants as values
use Rattle.lease_store.specs.Kinds.{IsOfKind}
use Rattle.store_keys.specs.Settings.{Settings}
use Rattle.lease_store.proofs.Keeping.{kind_found}
use Rattle.cluster_view.specs.Snapshots.{IsRead, SnapshotFacts, entry_in}
use Rattle.rest_pages.specs.Configuration.{configuration_text, text_by, text_of_entry}

-- a value of the configuration's kind is a configuration
configuration-by : (value : Value) → IsOfKind keys.Config value
    → (config : Settings) × (value ≡ values.Config config) × (text_by value ≡ config.text)
configuration-by (values.Config config) kind = (config, refl, refl)
configuration-by (values.Leader member) kind = absurd kind
configuration-by (values.Member info) kind = absurd kind
configuration-by (values.Failover failover) kind = absurd kind
configuration-by (values.Sync sync) kind = absurd kind
configuration-by (values.Status end) kind = absurd kind
configuration-by (values.History row) kind = absurd kind
configuration-by (values.Failsafe members) kind = absurd kind
configuration-by (values.Scheduled planned) kind = absurd kind

false-true : false ≡ true → ⊥
false-true e = cc

configuration-found : (snapshot : SnapshotFacts) (entry : Option KeyEntry)
    → entry_in keys.Config snapshot ≡ entry → IsSome entry → IsRead snapshot.entries
    → (found : KeyEntry) × (config : Settings) × (entry_in keys.Config snapshot ≡ Some found)
    × (found.value ≡ values.Config config) × (configuration_text snapshot ≡ config.text)
configuration-found snapshot None is some read = absurd (false-true some)
configuration-found snapshot (Some found) is some read =
    let parts : (config : Settings) × (found.value ≡ values.Config config) × (text_by found.value ≡ config.text) =
    configuration-by found.value (kind_found keys.Config snapshot.entries found read.kinds is) in
    (found, parts.0, is, parts.1, ap text_of_entry is ∙ parts.2)

-- a snapshot that was read has a configuration, whose text is that of the page
pub configuration-told : (snapshot : SnapshotFacts) → IsRead snapshot.entries
    → (found : KeyEntry) × (config : Settings) × (entry_in keys.Config snapshot ≡ Some found)
    × (found.value ≡ values.Config config) × (configuration_text snapshot ≡ config.text)
configuration-told snapshot read = configuration-found snapshot (entry_in keys.Config snapshot) refl read.config read
