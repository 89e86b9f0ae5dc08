-- No configuration that the key store holds, or that a snapshot in flight has, pauses the cluster.
use Rattle.std.specs.Prelude.{◌≡◌, false, List, [], ◌∷◌, Option, Some, None}
use Rattle.std.specs.FinMap.{find}
use Rattle.store_keys.specs.declared.key.Key.{Key}
use Rattle.store_keys.specs.declared.key.Key.TheVariants as keys
use Rattle.store_keys.specs.declared.value.KeyEntry.{KeyEntry}
use Rattle.store_keys.specs.declared.value.Value.{Value}
use Rattle.store_keys.specs.declared.value.Value.TheVariants as values
use Rattle.lease_store.specs.KeyOrder.{key_cmp}
use Rattle.lease_store.specs.Kept.{IsKept}
use Rattle.event_book.specs.Flight.{Flight}
use Rattle.event_book.specs.Facts.{Facts}

-- this value is no configuration that pauses the cluster
abbrev pub IsUnpausedValue : Value → Type 0
IsUnpausedValue (values.Config config) = config.config.pause ≡ false
IsUnpausedValue _ = Unit {0}

-- this key is absent, or holds no configuration that pauses the cluster
abbrev pub IsUnpausedHeld : Option KeyEntry → Type 0
IsUnpausedHeld None = Unit {0}
IsUnpausedHeld (Some found_key) = IsUnpausedValue found_key.value

-- the configuration among these pairs doesn't pause
abbrev pub IsUnpausedIn : List (Key × KeyEntry) → Type 0
IsUnpausedIn pairs = IsUnpausedHeld (find key_cmp keys.Config pairs)

-- nor does the one of any snapshot in flight
abbrev pub AreUnpaused : Flight → Type 0
AreUnpaused [] = Unit {0}
AreUnpaused (entry ∷ entries) = IsUnpausedIn entry.1.snapshot × AreUnpaused entries

-- no configuration pauses the cluster: neither that of the key store nor that of a snapshot in flight
pub record NobodyPauses (facts : Facts) : Type 0 where
  pub store : IsUnpausedIn facts.keys.pairs
  pub flight : AreUnpaused facts.flight
  pub kept : IsKept facts.keys.pairs
