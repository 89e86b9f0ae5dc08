-- Numbers that rise along a list.
use Rattle.std.specs.Prelude.{ℕ, ◌+◌, ◌≤◌, List, [], ◌∷◌}

-- the numbers rise from this one on, and stay below that one
abbrev pub RiseTo : {X : Type 0} → ℕ → List (ℕ × X) → ℕ → Type 0
RiseTo low [] high = low ≤ high
RiseTo low (entry ∷ entries) high = (low ≤ entry.0) × RiseTo (entry.0 + 1) entries high
