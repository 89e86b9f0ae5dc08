-- The keys that commits read among the keys that the book leaves.
use Rattle.std.specs.Prelude.{ℕ, ◌≡◌, Option, Some, None}
use Rattle.std.specs.FinMap.{find}
use Rattle.store_keys.specs.declared.key.Key.TheVariants as keys
use Rattle.store_keys.specs.declared.value.KeyEntry.{KeyEntry}
use Rattle.store_keys.specs.declared.value.Value.{Value}
use Rattle.store_keys.specs.declared.value.Value.TheVariants as values
use Rattle.lease_store.specs.KeyOrder.{key_cmp}
use Rattle.event_book.specs.Facts.{Facts}
use Rattle.lease_model.specs.Stores.{IsEndless, IsSameStore}
use Rattle.commit_actions.specs.Keys.{SyncKey}
use Rattle.commit_actions.specs.Stored.{key_seen}
use Rattle.commit_actions.specs.Past.{Past}

-- the sync key with this value and revision, if the value is one of a sync key
abbrev pub sync_value : Value → ℕ → Option SyncKey
sync_value (values.Sync key) revision = Some (key_seen key revision)
sync_value _ revision = None

-- the sync key as the key store has it
abbrev pub sync_key_of : Option KeyEntry → Option SyncKey
sync_key_of None = None
sync_key_of (Some found_key) = sync_value found_key.value found_key.revision

-- the past has the keys of the lease as the key store of the book has them, and
-- the sync key too, which has no expiry: where it has an entry, it is present
pub record IsSameKeys (past : Past) (facts : Facts) : Type 0 where
  pub lease : IsSameStore past.lease facts
  pub sync : past.sync ≡ sync_key_of (find key_cmp keys.Sync facts.keys.pairs)
  pub endless : IsEndless (find key_cmp keys.Sync facts.keys.pairs)
