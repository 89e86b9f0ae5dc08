-- Tables of cases.
use Rattle.std.specs.Prelude.{ℕ, Bool, ◌&&◌, ◌==◌, List, Option, option_map, bit_and}
use Rattle.std.specs.List.{list_any, find}
use Rattle.pat_cases.specs.declared.case.Case.{Case}

-- whether a row matches these facts: within its mask just those hold that it wants
abbrev pub matches : ℕ → Case → Bool
matches facts row = bit_and facts row.mask == row.wanted

-- the answer of the first row that matches
abbrev pub first_answer : ℕ → List Case → Option ℕ
first_answer facts rows = option_map (λ row. row.answer) (find (matches facts) rows)

-- whether a row looks at no fact, and so matches all
abbrev pub matches_all : Case → Bool
matches_all row = row.mask == 0 && row.wanted == 0

-- whether some row matches all facts
abbrev pub is_closed : List Case → Bool
is_closed rows = list_any matches_all rows
