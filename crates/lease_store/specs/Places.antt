-- Where a key stands among pairs, or where it would stand.
use Rattle.std.specs.Prelude.{ℕ, ◌≡◌, ◌+◌, ◌<◌, ◌≤◌, ◌++◌, List, ◌∷◌, length, take, drop, Some, None, IsTrue, slice_index_or}
use Rattle.std.specs.FinMap.{find, put, is_sorted}
use Rattle.store_keys.specs.declared.key.Key.{Key}
use Rattle.store_keys.specs.declared.value.KeyEntry.{KeyEntry}
use Rattle.lease_store.specs.KeyOrder.{key_cmp}

-- the key stands at this place: a new value of it goes there
pub record IsPlaceOf (key : Key) (pairs : List (Key × KeyEntry)) (at : ℕ) : Type 0 where
  pub within : at < length pairs
  pub puts : (stored : KeyEntry) → put key_cmp key stored pairs ≡ take at pairs ++ (key, stored) ∷ drop (at + 1) pairs
  pub holds : (other : Key × KeyEntry) → find key_cmp key pairs ≡ Some ((slice_index_or pairs at other).1)
  pub key_is : (other : Key × KeyEntry) → (slice_index_or pairs at other).0 ≡ key

-- the key would stand in front of this place
pub record IsGapFor (key : Key) (pairs : List (Key × KeyEntry)) (at : ℕ) : Type 0 where
  pub within : at ≤ length pairs
  pub puts : (stored : KeyEntry) → put key_cmp key stored pairs ≡ take at pairs ++ (key, stored) ∷ drop at pairs
  pub lacks : IsTrue (is_sorted key_cmp pairs) → find key_cmp key pairs ≡ None
