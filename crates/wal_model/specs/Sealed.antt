-- How much is sealed.
use Rattle.std.specs.Prelude.{◌≡◌, ℕ, ◌≤◌, ◌^◌, List, ◌++◌, length}
use Rattle.wal_model.specs.declared.entry.Entry.{Entry}
use Rattle.wal_model.specs.Log.{end_of}

-- with how many entries a piece is sealed
abbrev pub most_sealed : ℕ
most_sealed = 256

-- how many entries may lie in pieces of a log
abbrev pub most_in_pieces : ℕ
most_in_pieces = 2 ^ 63

-- a log of pieces and a tail: its end is this position, and the tail isn't longer than a piece
pub record IsLog (pieces tail : List Entry) (position : ℕ) : Type 0 where
  pub end : position ≡ end_of (pieces ++ tail)
  pub short : length tail ≤ most_sealed
