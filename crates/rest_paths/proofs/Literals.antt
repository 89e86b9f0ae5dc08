-- Routes without parameters are found where they are the path, byte for byte.
use Rattle.std.proofs.Common.{◌≡◌, ℕ, zero, suc, ◌≤◌, ◌==◌, ◌&&◌, nat_lt, Bool, true, false, cond, IsTrue, List, [], ◌∷◌, length, Option, Some, None, arith, refl, sym, ◌∙◌}
use Rattle.std.specs.List.{list_all}
use Rattle.std.proofs.lemmas.Bool.{false≢true}
use Rattle.std.proofs.lemmas.Bool.Decides.{nat_tests}
use Rattle.matchit.specs.Rows.{RowsOf, param_token, catch_all_token}
use Rattle.matchit.specs.Order.{lookup}
use Rattle.matchit.specs.Seek.{own, step, seek, or_else, param_step, same_text, has_slash}

-- a token that is a byte, and no parameter
abbrev pub is_byte : ℕ → Bool
is_byte token = nat_lt token param_token

pub both : (a b : Bool) → IsTrue (a && b) → IsTrue a × IsTrue b
both true b e = (refl, e)
both false b e = absurd (false≢true e)

-- a byte is no token of a parameter
no-parameter : (token parameter : ℕ) → IsTrue (is_byte token) → param_token ≤ parameter → (token == parameter) ≡ false
no-parameter token parameter byte above = grind (arith, nat_tests)

-- the answer of a pair that a test chose
chosen-answer : {A B : Type 0} (test : Bool) (b : B) (x y : A) → (cond {A = A × B} test (x, b) (y, b)).1 ≡ b
chosen-answer true b x y = refl
chosen-answer false b x y = refl

module _ {K : Type 0} where
  -- rows without parameters
  abbrev pub are_literal : RowsOf K → Bool
  are_literal rows = list_all (λ row. list_all is_byte row.0) rows

  own-lookup : (rows : RowsOf K) → own rows ≡ lookup [] rows
  own-lookup [] = refl
  own-lookup (([], key) ∷ rows) = refl
  own-lookup ((token ∷ text, key) ∷ rows) = own-lookup rows

  -- no row goes on with a token of a parameter
  no-step : (parameter : ℕ) → param_token ≤ parameter → (rows : RowsOf K) → IsTrue (are_literal rows)
      → step parameter rows ≡ []
  no-step parameter above [] all = refl
  no-step parameter above (([], key) ∷ rows) all = no-step parameter above rows (both true (are_literal rows) all).1
  no-step parameter above ((token ∷ text, key) ∷ rows) all =
      let row = both (is_byte token && list_all is_byte text) (are_literal rows) all in
      let here = both (is_byte token) (list_all is_byte text) row.0 in
      rw (no-parameter token parameter here.0 above) (no-step parameter above rows row.1)

  kept-literal : (here : Bool) (text : List ℕ) (key : K) (later : RowsOf K) → IsTrue (list_all is_byte text)
      → IsTrue (are_literal later) → IsTrue (are_literal (cond here ((text, key) ∷ later) later))
  kept-literal true text key later good rest = rw (good, rest) refl
  kept-literal false text key later good rest = rest

  -- what rows go on with is literal too
  step-literal : (byte : ℕ) (rows : RowsOf K) → IsTrue (are_literal rows) → IsTrue (are_literal (step byte rows))
  step-literal byte [] all = refl
  step-literal byte (([], key) ∷ rows) all = step-literal byte rows (both true (are_literal rows) all).1
  step-literal byte ((token ∷ text, key) ∷ rows) all =
      let row = both (is_byte token && list_all is_byte text) (are_literal rows) all in
      let here = both (is_byte token) (list_all is_byte text) row.0 in
      kept-literal (token == byte) text key (step byte rows) here.1 (step-literal byte rows row.1)

  found-by : (here : Bool) (byte : ℕ) (text path : List ℕ) (key : K) (rows later : RowsOf K)
      → lookup (byte ∷ path) rows ≡ lookup path later
      → cond (here && same_text text path) (Some key) (lookup (byte ∷ path) rows)
      ≡ lookup path (cond here ((text, key) ∷ later) later)
  found-by true byte text path key rows later same = rw same refl
  found-by false byte text path key rows later same = same

  -- a path is looked up byte by byte
  lookup-step : (byte : ℕ) (path : List ℕ) (rows : RowsOf K) → lookup (byte ∷ path) rows ≡ lookup path (step byte rows)
  lookup-step byte path [] = refl
  lookup-step byte path (([], key) ∷ rows) = lookup-step byte path rows
  lookup-step byte path ((token ∷ text, key) ∷ rows) =
      found-by (token == byte) byte text path key rows (step byte rows) (lookup-step byte path rows)

  param_step-nothing : (path : List ℕ) → (param_step {K = K} [] path).1 ≡ []
  unfolding param_step
  param_step-nothing path = chosen-answer (has_slash path) [] 0 (length path)

  or_else-nothing : (found : Option K) → or_else found None ≡ found
  or_else-nothing None = refl
  or_else-nothing (Some key) = refl

  -- nothing is found among no rows
  seek-nothing : (skip : ℕ) (path : List ℕ) → seek {K = K} skip [] path ≡ None
  unfolding seek
  seek-nothing skip [] = refl
  seek-nothing (suc skip) (byte ∷ path) = seek-nothing skip path
  seek-nothing zero (byte ∷ path) = rw (seek-nothing 0 path, param_step-nothing (byte ∷ path), seek-nothing _ path) refl

  seek-step : (rows : RowsOf K) (byte : ℕ) (path : List ℕ) → step param_token rows ≡ []
      → step catch_all_token rows ≡ [] → seek 0 rows (byte ∷ path) ≡ seek 0 (step byte rows) path
  unfolding seek
  seek-step rows byte path no_param no_rest =
      rw (no_param, no_rest, param_step-nothing (byte ∷ path), seek-nothing _ path)
      (or_else-nothing (seek 0 (step byte rows) path))

  -- what is found by walking is what is there byte for byte
  pub seek-lookup : (rows : RowsOf K) → IsTrue (are_literal rows) → (path : List ℕ)
      → seek 0 rows path ≡ lookup path rows
  unfolding seek
  seek-lookup rows all [] = own-lookup rows
  seek-lookup rows all (byte ∷ path) =
      seek-step rows byte path (no-step param_token (omega arith) rows all)
      (no-step catch_all_token (omega arith) rows all)
      ∙ (seek-lookup (step byte rows) (step-literal byte rows all) path ∙ sym (lookup-step byte path rows))
