-- Lists of which one item changes.
use Rattle.std.specs.Prelude.{ℕ, List, Option, Some, None, slice_get, slice_set}

-- a list with one item changed, which is this one at this number; without an item there it stays as it is
abbrev pub changed_at : {A : Type 0} → List A → ℕ → (A → A) → Option A → List A
changed_at items number change None = items
changed_at items number change (Some item) = slice_set items number (change item)

-- a list with the item of one number changed, if there is one
abbrev pub with_changed : {A : Type 0} → List A → ℕ → (A → A) → List A
with_changed items number change = changed_at items number change (slice_get items number)
