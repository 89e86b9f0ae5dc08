-- Texts between marks.
use Rattle.std.specs.Prelude.{ℕ, ◌==◌, nat_lt, Bool, if◌then◌else◌, List, [], ◌∷◌, Option, Some, None, length}
use Rattle.std.specs.List.{slice_split, position_or_len, before_first, after_first}

-- the byte between two words
abbrev pub space : ℕ
space = 32

-- the byte between an option and its value, or the path of a setting and its value
abbrev pub equals_sign : ℕ
equals_sign = 61

-- whether a byte is this one
abbrev pub is_byte : ℕ → ℕ → Bool
is_byte mark b = b == mark

-- the bytes before the first such mark, and those behind it, if there is one
abbrev pub cut_once : ℕ → List ℕ → List ℕ × Option (List ℕ)
cut_once mark bytes = if nat_lt (position_or_len (is_byte mark) bytes) (length bytes)
    then (before_first (is_byte mark) bytes, Some (after_first (is_byte mark) bytes)) else (bytes, None)

-- the parts between such marks, of which there is always one
abbrev pub parts_between : ℕ → List ℕ → List (List ℕ)
parts_between mark bytes = slice_split (is_byte mark) bytes

-- the words of what stands behind a space, if there is one
abbrev pub words_behind : Option (List ℕ) → List (List ℕ)
words_behind None = []
words_behind (Some text) = parts_between space text

-- the words of a line, with one space between two of them; the empty text has none
abbrev pub line_words : List ℕ → List (List ℕ)
line_words [] = []
line_words (b ∷ bs) = parts_between space (b ∷ bs)
