-- What is said of sources and sinks.
use Rattle.std.specs.Prelude.{ℕ, ◌≡◌, ◌⊎◌, ◌<◌, ◌≤◌, ◌^◌, ◌-◌, ◌++◌, List, drop, Option, Some}

-- what holds of a content, where it is told
abbrev pub Known : Option (List ℕ) → (List ℕ → Type 0) → Type 0
Known content P = (bytes : List ℕ) → content ≡ Some bytes → P bytes

-- the count rose, or stands at its last value
abbrev pub Rose : ℕ → ℕ → Type 0
Rose before after = (before < after) ⊎ (after ≡ 2 ^ 64 - 1)

-- the content grew by these bytes
pub record Grew (before after : Option (List ℕ)) (bytes : List ℕ) : Type 0 where
  pub all : (had : List ℕ) → before ≡ Some had → after ≡ Some (had ++ bytes)

-- the content grew by a front of these bytes
pub record GrewByPrefix (before after : Option (List ℕ)) (bytes : List ℕ) : Type 0 where
  pub part : (had : List ℕ) → before ≡ Some had
      → (front : List ℕ) × (rest : List ℕ) × (front ++ rest ≡ bytes) × (after ≡ Some (had ++ front))

-- at most so many of the bytes to come were taken
pub record Consumed (before after : Option (List ℕ)) (most : ℕ) : Type 0 where
  pub some : (all : List ℕ) → before ≡ Some all → (count : ℕ) × (count ≤ most) × (after ≡ Some (drop count all))
