-- Words between blanks.
use Rattle.std.specs.Prelude.{ℕ, ◌+◌, List, Option, Some, None, take, drop}
use Rattle.script_words.specs.Lines.{first_at}

-- the bytes before this place and those behind it, or all of them
abbrev pub cut_at : List ℕ → Option ℕ → List ℕ × Option (List ℕ)
cut_at bytes None = (bytes, None)
cut_at bytes (Some end) = (take end bytes, Some (drop (end + 1) bytes))

-- the word before the first blank, and what stands behind that blank, if there is one
abbrev pub cut_word : List ℕ → List ℕ × Option (List ℕ)
cut_word bytes = cut_at bytes (first_at 32 bytes)
