-- How much content a request has (RFC 9110, section 8.6; RFC 9112, section 6.3).
use Rattle.std.specs.Prelude.{ℕ, Bool, ◌&&◌, if◌then◌else◌, nat_lt, List, [], ◌∷◌, map, filter, length, codes, Result, Ok, Err}
use Rattle.std.specs.Char.{to_ascii_lowercase, is_ascii_digit}
use Rattle.std.specs.List.{list_all}
use Rattle.std.specs.Str.{bytes_eq}
use Rattle.std.specs.Str.Parse.{digits_value}
use Rattle.rest_request.specs.declared.limits.TheConstants.{BODY_LIMIT}
use Rattle.rest_request.specs.declared.fault.RequestFault.{RequestFault}
use Rattle.rest_request.specs.declared.fault.RequestFault.TheVariants.{BadLength, TooLong}

-- whether a field, as its name and its value, gives the length: names are the same in any case
abbrev pub is_content_length : List ℕ × List ℕ → Bool
is_content_length field = bytes_eq (map to_ascii_lowercase field.0) (codes "content-length")

-- the values of the fields that give the length
abbrev pub length_values : List (List ℕ × List ℕ) → List (List ℕ)
length_values fields = map (λ field. field.1) (filter is_content_length fields)

-- a decimal number: digits alone, and at least one
abbrev pub is_decimal : List ℕ → Bool
is_decimal text = nat_lt 0 (length text) && list_all is_ascii_digit text

-- a length within the limit
abbrev pub within_limit : ℕ → Result ℕ RequestFault
within_limit n = if nat_lt BODY_LIMIT n then Err TooLong else Ok n

-- the length that one value gives
abbrev pub length_by : List ℕ → Result ℕ RequestFault
length_by text = if is_decimal text then within_limit (digits_value 10 text) else Err BadLength

-- the length by all values: without one there is no content, and a second one is a fault
abbrev pub length_by_all : List (List ℕ) → Result ℕ RequestFault
length_by_all [] = Ok 0
length_by_all (value ∷ []) = length_by value
length_by_all (value ∷ other ∷ more) = Err BadLength

-- how many bytes of content follow a head with these fields
abbrev pub content_length : List (List ℕ × List ℕ) → Result ℕ RequestFault
content_length fields = length_by_all (length_values fields)
