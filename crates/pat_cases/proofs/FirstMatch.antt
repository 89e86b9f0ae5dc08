-- The first match of a table, row by row.
use Rattle.std.proofs.Common.{◌≡◌, ℕ, zero, suc, Bool, true, false, cond, List, [], ◌∷◌, Some, option_map, slice_get, arith, refl, ap, sym, ◌∙◌}
use Rattle.std.specs.List.{find}
use Rattle.std.proofs.lemmas.Option.{none-some, same_Some}
use Rattle.pat_cases.specs.declared.case.Case.{Case}
use Rattle.pat_cases.specs.Cases.{matches, first_answer}
use Rattle.pat_cases.specs.Matches.{NoneMatchesBefore, AnswersFirst}

-- one more row that doesn't match stands before these
fail-later : (facts : ℕ) (row : Case) (rows : List Case) (place : ℕ) → matches facts row ≡ false
    → NoneMatchesBefore facts rows place → NoneMatchesBefore facts (row ∷ rows) (suc place)
fail-later facts row rows place fails before zero other below is =
    ap (matches facts) (sym (same_Some row other is)) ∙ fails
fail-later facts row rows place fails before (suc k) other below is = before k other (omega (arith, below)) is

-- the first match is the row in front, or else the later one
found-as : (facts answer : ℕ) (row : Case) (rows : List Case) (here : Bool) → matches facts row ≡ here
    → option_map (λ (r : Case). r.answer) (cond here (Some row) (find (matches facts) rows)) ≡ Some answer
    → (first_answer facts rows ≡ Some answer → AnswersFirst facts rows answer) → AnswersFirst facts (row ∷ rows) answer
found-as facts answer row rows true is found later = record {
  place = 0;
  row = row;
  stands = refl;
  matching = is;
  answered = same_Some row.answer answer found;
  earlier = λ k other below there. absurd (omega (arith, below));
}
found-as facts answer row rows false is found later =
    let first = later found in
    record {
      place = suc first.place;
      row = first.row;
      stands = first.stands;
      matching = first.matching;
      answered = first.answered;
      earlier = fail-later facts row rows first.place is first.earlier;
    }

-- what a table answers is the answer of its first match
pub answers-first : (facts : ℕ) (rows : List Case) (answer : ℕ) → first_answer facts rows ≡ Some answer
    → AnswersFirst facts rows answer
answers-first facts [] answer found = absurd (none-some answer found)
answers-first facts (row ∷ rows) answer found =
    found-as facts answer row rows (matches facts row) refl found (answers-first facts rows answer)

-- a row at this place answers, where it is the first to match
first-at : (facts : ℕ) (rows : List Case) (place : ℕ) (row : Case) → slice_get rows place ≡ Some row
    → matches facts row ≡ true → NoneMatchesBefore facts rows place → first_answer facts rows ≡ Some row.answer
first-at facts [] place row stands matching earlier = absurd (none-some row stands)
first-at facts (first ∷ rows) zero row stands matching earlier =
    let same : first ≡ row = same_Some first row stands in
    rw (same, matching) refl
first-at facts (first ∷ rows) (suc place) row stands matching earlier =
    let fails : matches facts first ≡ false = earlier 0 first (omega arith) refl in
    rw fails
    (first-at facts rows place row stands matching (λ k other below. earlier (suc k) other (omega (arith, below))))

-- a table answers what its first match does
pub first-answers : (facts : ℕ) (rows : List Case) (answer : ℕ) → AnswersFirst facts rows answer
    → first_answer facts rows ≡ Some answer
first-answers facts rows answer first =
    first-at facts rows first.place first.row first.stands first.matching first.earlier ∙ ap Some first.answered
