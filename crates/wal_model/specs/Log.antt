-- Logs as lists of entries.
use Rattle.std.specs.Prelude.{◌≡◌, ℕ, ◌==◌, ◌&&◌, if◌then◌else◌, Bool, List, [], ◌∷◌, ◌++◌, length, take, drop, sum_by}
use Rattle.std.specs.List.{starts_with}
use Rattle.wal_model.specs.declared.entry.Entry.{Entry}

-- the end of a log: the sum of the bytes of its entries
abbrev pub end_of : List Entry → ℕ
end_of entries = sum_by (λ entry. entry.bytes) entries

-- y begins with x
pub record IsPrefixOf (x y : List Entry) : Type 0 where
  pub rest : List Entry
  pub whole : y ≡ x ++ rest

-- two entries are the same: the same commit on the same timeline, of as many bytes
abbrev pub is_same : Entry → Entry → Bool
is_same x y = (x.serial == y.serial) && ((x.timeline == y.timeline) && (x.bytes == y.bytes))

-- whether y begins with x
abbrev pub is_prefix : List Entry → List Entry → Bool
is_prefix x y = starts_with is_same y x

-- the longest list with which both begin
abbrev pub common_of : List Entry → List Entry → List Entry
common_of [] ys = []
common_of (x ∷ xs) [] = []
common_of (x ∷ xs) (y ∷ ys) = if is_same x y then x ∷ common_of xs ys else []

-- where two logs part: the end of the longest list with which both begin
abbrev pub fork_of : List Entry → List Entry → ℕ
fork_of x y = end_of (common_of x y)

-- a log with the next entries of another one that begins with it, at most this many
abbrev pub received : List Entry → List Entry → ℕ → List Entry
received log from most = log ++ take most (drop (length log) from)
