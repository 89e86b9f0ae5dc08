-- Texts that are written line by line.
use Rattle.std.specs.Prelude.{ℕ, ◌+◌, ◌==◌, Bool, true, false, List, [], ◌∷◌}

-- a line that ends here or goes on so far
abbrev pub length_if : Bool → ℕ → ℕ
length_if true more = 1
length_if false more = 1 + more

-- how many bytes the first line of a text has, with its line feed
abbrev pub line_length : List ℕ → ℕ
line_length [] = 0
line_length (byte ∷ text) = length_if (byte == 10) (line_length text)
