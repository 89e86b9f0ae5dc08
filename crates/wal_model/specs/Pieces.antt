-- Logs of which a front lies in sealed pieces.
use Rattle.std.specs.Prelude.{◌≡◌, ℕ, ◌≤◌, ◌<◌, ◌+◌, List, [], ◌∷◌, ◌++◌, length, take}
use Rattle.wal_model.specs.declared.entry.Entry.{Entry}
use Rattle.wal_model.specs.declared.placed.Placed.{Placed}
use Rattle.wal_model.specs.Log.{IsPrefixOf, end_of}
use Rattle.wal_model.specs.Sealed.{most_in_pieces}

-- the entries of pieces, one piece after another
abbrev pub joined : List Placed → List Entry
joined [] = []
joined (placed ∷ rest) = placed.piece ++ joined rest

-- pieces that follow so many entries, which end at this position: none
-- is empty, and each knows where it begins and ends
abbrev pub Follow : ℕ → ℕ → List Placed → Type 0
Follow before start [] = Unit {0}
Follow before start (placed ∷ rest) =
    (placed.before ≡ before) × (placed.end.position ≡ start + end_of placed.piece) × (1 ≤ length placed.piece)
    × Follow (before + length placed.piece) placed.end.position rest

-- the pieces of a log from its beginning on
pub record AreChained (pieces : List Placed) : Type 0 where
  pub follow : Follow 0 0 pieces
  pub most : length (joined pieces) ≤ most_in_pieces

-- and it is known how many entries they have
pub record AreCounted (pieces : List Placed) (entries : ℕ) : Type 0 where
  pub chained : AreChained pieces
  pub count : entries ≡ length (joined pieces)

-- a piece stands in a log, and has the entry at this place
pub record Holds (placed : Placed) (log : List Entry) (place : ℕ) : Type 0 where
  pub first : List Entry
  pub rest : List Entry
  pub whole : log ≡ first ++ (placed.piece ++ rest)
  pub before : placed.before ≡ length first
  pub end : placed.end.position ≡ end_of first + end_of placed.piece
  pub reached : placed.before ≤ place
  pub within : place < placed.before + length placed.piece

-- a piece can take the place of all that stands in a log behind the entries before it
pub record Continues (placed : Placed) (log : List Entry) : Type 0 where
  pub before : placed.before ≤ length log
  pub end : placed.end.position ≡ end_of (take placed.before log) + end_of placed.piece
  pub some : 1 ≤ length placed.piece

-- a log grew within another one, to at most so many entries
pub record Grows (log grown from : List Entry) (until : ℕ) : Type 0 where
  pub longer : IsPrefixOf log grown
  pub within : IsPrefixOf grown from
  pub most : length grown ≤ until
