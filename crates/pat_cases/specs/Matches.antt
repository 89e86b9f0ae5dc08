-- What the first match of a table is, row by row.
use Rattle.std.specs.Prelude.{◌≡◌, ℕ, ◌<◌, true, false, List, Some, slice_get}
use Rattle.pat_cases.specs.declared.case.Case.{Case}
use Rattle.pat_cases.specs.Cases.{matches}

-- no row before this place matches these facts
abbrev pub NoneMatchesBefore : ℕ → List Case → ℕ → Type 0
NoneMatchesBefore facts rows place =
    (k : ℕ) (row : Case) → k < place → slice_get rows k ≡ Some row → matches facts row ≡ false

-- a row at some place matches these facts and answers this, and no row before it matches
pub record AnswersFirst (facts : ℕ) (rows : List Case) (answer : ℕ) : Type 0 where
  pub place : ℕ
  pub row : Case
  pub stands : slice_get rows place ≡ Some row
  pub matching : matches facts row ≡ true
  pub answered : row.answer ≡ answer
  pub earlier : NoneMatchesBefore facts rows place
