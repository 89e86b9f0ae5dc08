-- Bytes as lines.
use Rattle.std.specs.Prelude.{ℕ, ◌==◌, ◌+◌, not, Bool, true, if◌then◌else◌, List, [], ◌∷◌, ◌++◌, Option, Some, None}
use Rattle.std.specs.List.{list_all}

-- lines, each ended by its line feed
abbrev pub ended : List (List ℕ) → List ℕ
ended [] = []
ended (line ∷ lines) = line ++ (10 ∷ ended lines)

-- a byte before the first of the lines
abbrev pub push_byte : ℕ → List (List ℕ) → List (List ℕ)
push_byte b [] = (b ∷ []) ∷ []
push_byte b (line ∷ lines) = (b ∷ line) ∷ lines

-- the lines, each ended by a line feed; the last may lack it
abbrev pub lines_in : List ℕ → List (List ℕ)
lines_in [] = []
lines_in (b ∷ bs) = if b == 10 then [] ∷ lines_in bs else push_byte b (lines_in bs)

-- an empty line, or a comment: a line that begins with '#'
abbrev pub is_skipped : List ℕ → Bool
is_skipped [] = true
is_skipped (b ∷ bs) = b == 35

-- the lines that count
abbrev pub counted_lines : List (List ℕ) → List (List ℕ)
counted_lines [] = []
counted_lines (line ∷ lines) = if is_skipped line then counted_lines lines else line ∷ counted_lines lines

-- one place further
abbrev pub one_more : Option ℕ → Option ℕ
one_more None = None
one_more (Some n) = Some (n + 1)

-- where a byte stands first
abbrev pub first_at : ℕ → List ℕ → Option ℕ
first_at byte [] = None
first_at byte (b ∷ bs) = if b == byte then Some 0 else one_more (first_at byte bs)

-- a byte that ends no line
abbrev pub is_in_line : ℕ → Bool
is_in_line b = not (b == 10)

-- bytes without a line feed
abbrev pub is_one_line : List ℕ → Bool
is_one_line bytes = list_all is_in_line bytes
