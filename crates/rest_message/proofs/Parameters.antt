-- The parameters of a query, from the first on.
use Rattle.std.proofs.Common.{◌≡◌, ℕ, ◌+◌, ◌≤◌, nat_lt, Bool, true, false, cond, List, [], ◌∷◌, length, take, drop, Option, Some, None, is_some, option_map, arith, refl, ap, sym, ◌∙◌}
use Rattle.std.specs.List.{position, position_or_len, slice_split}
use Rattle.std.specs.Option.{option_or}
use Rattle.std.proofs.lemmas.Bool.{true≢false, false≢true, ltb-true, ltb-false}
use Rattle.std.proofs.lemmas.List.Elements.{All-from_get_or}
use Rattle.std.proofs.lemmas.List.Splits.{slice_split_first, slice_split_none}
use Rattle.std.proofs.lemmas.List.Sums.{fails_before_first}
use Rattle.std.proofs.lemmas.Option.{cond_some, none-some}
use Rattle.rest_message.specs.Targets.{is_separator, first_lag, lag_value, lag_in}

-- one more parameter
pub next-parameter : (query : List ℕ) (place : ℕ) → position is_separator query ≡ Some place
    → lag_in query ≡ option_or (lag_value (take place query)) (lag_in (drop (place + 1) query))
next-parameter query place is =
    let first : ℕ = position_or_len is_separator query in
    let found = cond_some (nat_lt first (length query)) first place is in
    rw (← found.1) (ap first_lag (slice_split_first is_separator query 0 (ltb-true first (length query) found.0)))

undivided : (found : Bool) (query : List ℕ) → nat_lt (position_or_len is_separator query) (length query) ≡ found
    → cond found (Some (position_or_len is_separator query)) None ≡ None → slice_split is_separator query ≡ query ∷ []
undivided true query is none = absurd (none-some (position_or_len is_separator query) (sym none))
undivided false query is none =
    let past : length query ≤ position_or_len is_separator query =
    ltb-false (position_or_len is_separator query) (length query) is in
    slice_split_none is_separator query
    (All-from_get_or (λ byte. is_separator byte ≡ false) query 0
    (λ place within. fails_before_first is_separator query place 0 (omega (arith, within, past))))

or-none : (o : Option (List ℕ)) → option_or o None ≡ o
or-none None = refl
or-none (Some value) = refl

-- the last parameter
pub last-parameter : (query : List ℕ) → position is_separator query ≡ None → lag_in query ≡ lag_value query
last-parameter query is =
    ap first_lag (undivided (nat_lt (position_or_len is_separator query) (length query)) query refl is)
    ∙ or-none (lag_value query)

-- a value was found
pub found-here : {A : Type 0} (g : A → List ℕ) (o : Option A) (later : Option (List ℕ)) → is_some o ≡ true
    → option_or (option_map g o) later ≡ option_map g o
found-here g None later some = absurd (false≢true some)
found-here g (Some x) later some = refl

-- none was
pub found-later : {A : Type 0} (g : A → List ℕ) (o : Option A) (later : Option (List ℕ)) → is_some o ≡ false
    → option_or (option_map g o) later ≡ later
found-later g None later none = refl
found-later g (Some x) later none = absurd (true≢false none)
