-- Pairs in the order of their keys.
use Rattle.std.specs.Prelude.{List, [], ◌∷◌, Option, Some, None, Bool, true, ◌&&◌}
use Rattle.std.specs.FinMap.{put}
use Rattle.std.specs.Ordering.{is_lt}
use Rattle.store_keys.specs.declared.key.Key.{Key}
use Rattle.store_keys.specs.declared.value.KeyEntry.{KeyEntry}
use Rattle.lease_store.specs.KeyOrder.{key_cmp}

-- these pairs in the order of their keys; of several of one key the first
abbrev pub in_key_order : List (Key × KeyEntry) → List (Key × KeyEntry)
in_key_order [] = []
in_key_order (pair ∷ pairs) = put key_cmp pair.0 pair.1 (in_key_order pairs)

-- a key comes behind the last one, if there is a last one
abbrev pub comes_behind : Option Key → Key → Bool
comes_behind None key = true
comes_behind (Some last) key = is_lt (key_cmp last key)

-- behind the last key, if there is one, each key comes before that of the next pair
abbrev pub rises_behind : Option Key → List (Key × KeyEntry) → Bool
rises_behind last [] = true
rises_behind last (pair ∷ pairs) = comes_behind last pair.0 && rises_behind (Some pair.0) pairs
