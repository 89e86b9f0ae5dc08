-- Copies of what the store holds.
use Rattle.std.specs.Prelude.{◌≡◌, List, [], Option, Some, None, IfSome, Vec}
use Rattle.store_keys.specs.declared.key.Key.{Key}
use Rattle.store_keys.specs.declared.value.KeyEntry.{KeyEntry}

-- these are copies of all pairs, if there are any
abbrev pub AreCopies : {Z : Type 0} → List (Key × KeyEntry) → Option (Vec (Key × KeyEntry) Z) → Type 0
AreCopies pairs copies = IfSome copies (λ c. c.items ≡ pairs)

-- the pairs that are copied, none where nothing is
abbrev pub items_if : {Z : Type 0} → Option (Vec (Key × KeyEntry) Z) → List (Key × KeyEntry)
items_if None = []
items_if (Some copies) = copies.items
