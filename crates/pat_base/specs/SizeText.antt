-- Sizes as text, with PostgreSQL's units of memory.
use Rattle.std.specs.Prelude.{ℕ, ◌*◌, ◌^◌, nat_lt, if◌then◌else◌, Bool, not, List, [], drop, length, codes, Option, Some, None}
use Rattle.std.specs.Char.{is_ascii_digit}
use Rattle.std.specs.List.{position_or_len, before_first}
use Rattle.std.specs.Str.{bytes_eq}
use Rattle.std.specs.Str.Parse.{digits_value}
use Rattle.pat_base.specs.LsnText.{at_most}

-- a byte that is no decimal digit
abbrev pub is_no_digit : ℕ → Bool
is_no_digit byte = not (is_ascii_digit byte)

-- the decimal digits that the text begins with
abbrev pub digits_of : List ℕ → List ℕ
digits_of text = before_first is_no_digit text

-- what stands behind them
abbrev pub unit_text : List ℕ → List ℕ
unit_text text = drop (position_or_len is_no_digit text) text

-- how many bytes a unit has: none, kB, MB or GB
abbrev pub unit_of : List ℕ → Option ℕ
unit_of unit =
    if bytes_eq unit [] then Some 1
    else (if bytes_eq unit (codes "kB") then Some (2 ^ 10)
    else (if bytes_eq unit (codes "MB") then Some (2 ^ 20)
    else (if bytes_eq unit (codes "GB") then Some (2 ^ 30) else None)))

-- the number that some digits write
abbrev pub size_number_of : List ℕ → Option ℕ
size_number_of digits = if nat_lt 0 (length digits) then Some (digits_value 10 digits) else None

-- so many units, if they are at most 2^63 bytes
abbrev pub sized : Option ℕ → Option ℕ → Option ℕ
sized (Some number) (Some unit) = at_most (2 ^ 63) (number * unit)
sized (Some number) None = None
sized None _ = None

-- the number of bytes that the text writes, if it writes one: decimal digits, and then a unit
abbrev pub size_of : List ℕ → Option ℕ
size_of text = sized (size_number_of (digits_of text)) (unit_of (unit_text text))
