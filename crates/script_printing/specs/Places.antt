-- Lines by their places.
use Rattle.std.specs.Prelude.{ℕ, List, option_map, slice_get}
use Rattle.std.specs.Option.{option_to_list}

-- the line of what stands at a place, if anything does
abbrev pub line_at : {A : Type 0} → (A → List ℕ) → List A → ℕ → List (List ℕ)
line_at text xs place = option_to_list (option_map text (slice_get xs place))
