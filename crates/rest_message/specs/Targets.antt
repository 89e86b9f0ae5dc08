-- Targets of requests: a path, and a query behind the first question mark (RFC 9112, section 3.2.1).
use Rattle.std.specs.Prelude.{ℕ, Bool, ◌==◌, nat_lt, if◌then◌else◌, List, [], ◌∷◌, drop, take, length, codes, Option, Some, None, option_and_then}
use Rattle.std.specs.List.{before_first, after_first, position_or_len, slice_split}
use Rattle.std.specs.Option.{option_or}
use Rattle.std.specs.Str.{bytes_eq}
use Rattle.rest_message.specs.declared.target.TheConstants.{QUERY_SIGN, SEPARATOR}

-- the sign before a query
abbrev pub is_query_sign : ℕ → Bool
is_query_sign byte = byte == QUERY_SIGN

-- the path of a target: what stands before the first question mark, and all of it where there is none
abbrev pub path_of : List ℕ → List ℕ
path_of target = before_first is_query_sign target

-- what stands behind the first question mark, if there is one
abbrev pub query_of : List ℕ → Option (List ℕ)
query_of target =
    if nat_lt (position_or_len is_query_sign target) (length target)
    then Some (after_first is_query_sign target) else None

-- the sign between parameters
abbrev pub is_separator : ℕ → Bool
is_separator byte = byte == SEPARATOR

-- what a parameter lag begins with
abbrev pub lag_sign : List ℕ
lag_sign = codes "lag="

-- the value of a parameter lag: what stands behind that
abbrev pub lag_value : List ℕ → Option (List ℕ)
lag_value parameter =
    if bytes_eq (take (length lag_sign) parameter) lag_sign
    then Some (drop (length lag_sign) parameter) else None

-- the first value of a parameter lag
abbrev pub first_lag : List (List ℕ) → Option (List ℕ)
first_lag [] = None
first_lag (parameter ∷ parameters) = option_or (lag_value parameter) (first_lag parameters)

-- the value of the first parameter lag of a query
abbrev pub lag_in : List ℕ → Option (List ℕ)
lag_in query = first_lag (slice_split is_separator query)

-- the value of the first parameter lag of a target
abbrev pub lag_of : List ℕ → Option (List ℕ)
lag_of target = option_and_then lag_in (query_of target)
