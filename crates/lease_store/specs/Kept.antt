-- What holds of the pairs of every store.
use Rattle.std.specs.Prelude.{◌≡◌, List, [], ◌∷◌, Option, Some, None, IsTrue}
use Rattle.std.specs.FinMap.{find, is_sorted}
use Rattle.store_keys.specs.declared.key.Key.{Key}
use Rattle.store_keys.specs.declared.key.Key.TheVariants as keys
use Rattle.store_keys.specs.declared.value.KeyEntry.{KeyEntry}
use Rattle.lease_store.specs.KeyOrder.{key_cmp}
use Rattle.lease_store.specs.Kinds.{IsOfKind}

-- each value is of its key's kind
abbrev pub AreOfKind : List (Key × KeyEntry) → Type 0
AreOfKind [] = Unit {0}
AreOfKind (pair ∷ pairs) = IsOfKind pair.0 pair.1.value × AreOfKind pairs

-- it is there, and for good
abbrev pub IsLasting : Option KeyEntry → Type 0
IsLasting None = ⊥
IsLasting (Some stored) = stored.expiry ≡ None

-- the keys strictly rise, each value is of its key's kind, and the configuration is there for good
pub record IsKept (pairs : List (Key × KeyEntry)) : Type 0 where
  pub order : IsTrue (is_sorted key_cmp pairs)
  pub kinds : AreOfKind pairs
  pub config : IsLasting (find key_cmp keys.Config pairs)
