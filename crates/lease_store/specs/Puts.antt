-- Pairs that are put among others.
use Rattle.std.specs.Prelude.{List, [], ◌∷◌}
use Rattle.std.specs.FinMap.{put}
use Rattle.store_keys.specs.declared.key.Key.{Key}
use Rattle.store_keys.specs.declared.value.KeyEntry.{KeyEntry}
use Rattle.lease_store.specs.KeyOrder.{key_cmp}

-- the pairs with others put among them, in this order
abbrev pub puts_over : List (Key × KeyEntry) → List (Key × KeyEntry) → List (Key × KeyEntry)
puts_over pairs [] = pairs
puts_over pairs (next ∷ puts) = puts_over (put key_cmp next.0 next.1 pairs) puts
