-- A closed table has an answer.
use Rattle.std.proofs.Common.{◌≡◌, ℕ, Bool, true, false, cond, IsTrue, ◌==◌, List, [], ◌∷◌, Option, Some, IsSome, option_map, inl, inr, refl}
use Rattle.std.proofs.lemmas.Bool.{and_parts, or_cases, eqb-true, false≢true}
use Rattle.std.specs.List.{find}
use Rattle.std.specs.Int.Bits.{and_zero_r}
use Rattle.pat_cases.specs.declared.case.Case.{Case}
use Rattle.pat_cases.specs.Cases.{matches, matches_all, first_answer, is_closed}

-- a row that looks at no fact matches these
matches-where-all : (facts : ℕ) (row : Case) → matches_all row ≡ true → matches facts row ≡ true
matches-where-all facts row all =
    let parts = and_parts (row.mask == 0) (row.wanted == 0) all in
    rw (eqb-true row.mask 0 parts.0, eqb-true row.wanted 0 parts.1, and_zero_r facts) refl

-- where a later row answers, some row does
some-answer : (here : Bool) (row : Case) (later : Option Case) → IsSome (option_map (λ (r : Case). r.answer) later)
    → IsSome (option_map (λ (r : Case). r.answer) (cond here (Some row) later))
some-answer true row later some = refl
some-answer false row later some = some

-- some row of a closed table matches
pub closed-answers : (facts : ℕ) (rows : List Case) → IsTrue (is_closed rows) → IsSome (first_answer facts rows)
closed-answers facts [] closed = absurd (false≢true closed)
closed-answers facts (row ∷ rows) closed =
    elim (or_cases (matches_all row) (is_closed rows) closed) [
      | inl all ↦ rw (matches-where-all facts row all) refl
      | inr rest ↦ some-answer (matches facts row) row (find (matches facts) rows) (closed-answers facts rows rest)
    ]
