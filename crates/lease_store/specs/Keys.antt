-- What the store holds, and the state of a key at a moment.
use Rattle.std.specs.Prelude.{ℕ, nat_lt, Bool, true, if◌then◌else◌, List, [], ◌∷◌, Option, Some, None}
use Rattle.std.specs.FinMap.{find}
use Rattle.pat_base.specs.declared.ticks.Ticks.{Ticks}
use Rattle.store_keys.specs.declared.key.Key.{Key}
use Rattle.store_keys.specs.declared.key.Key.TheVariants as keys
use Rattle.store_keys.specs.declared.value.KeyEntry.{KeyEntry}
use Rattle.store_keys.specs.declared.value.Value.TheVariants as values
use Rattle.store_keys.specs.Settings.{Settings}
use Rattle.lease_store.specs.KeyOrder.{key_cmp}

-- the last granted revision, and the entry of each key that was written and not deleted or dropped since: a map,
-- as the list of its pairs in the order of the keys
pub record Keys : Type 0 where
  pub revision : ℕ
  pub pairs : List (Key × KeyEntry)

-- whether a key with this expiry is present: it is absent at its expiry tick, and from then on
abbrev pub is_present : ℕ → Option Ticks → Bool
is_present now None = true
is_present now (Some expiry) = nat_lt now expiry.0

-- the entry, where it is present
abbrev pub present : ℕ → Option KeyEntry → Option KeyEntry
present now None = None
present now (Some stored) = if is_present now stored.expiry then Some stored else None

-- what these pairs have at a key that is present
abbrev pub key_in : List (Key × KeyEntry) → ℕ → Key → Option KeyEntry
key_in pairs now key = present now (find key_cmp key pairs)

-- the state of a key at a moment
abbrev pub key_at : Keys → ℕ → Key → Option KeyEntry
key_at store now key = key_in store.pairs now key

-- a store that holds this configuration alone, which is its first granted write
abbrev pub first_keys : Settings → Keys
first_keys config = record {
  revision = 1;
  pairs = (keys.Config, record { value = values.Config config; revision = 1; expiry = None }) ∷ [];
}
