-- Lists of names as text.
use Rattle.std.specs.Prelude.{ℕ, List, [], ◌∷◌, ◌++◌, codes}
use Rattle.pat_base.specs.declared.name.Name.{Name}
use Rattle.pat_base.specs.Name.{name_bytes}

-- each name behind a blank
abbrev pub behind_blanks : List Name → List ℕ
behind_blanks [] = []
behind_blanks (name ∷ names) = codes " " ++ (name_bytes name ++ behind_blanks names)

-- a name, and others each behind a blank
abbrev pub listed_from : Name → List Name → List ℕ
listed_from first others = name_bytes first ++ behind_blanks others

-- the names with a blank between each two, or the text for nobody
abbrev pub listed : List ℕ → List Name → List ℕ
listed nobody [] = nobody
listed nobody (name ∷ names) = listed_from name names
