-- Log positions as text.
use Rattle.std.specs.Prelude.{ℕ, ◌+◌, ◌*◌, ◌/◌, ◌%◌, ◌^◌, ◌++◌, ◌==◌, nat_le, if◌then◌else◌, Bool, true, List, codes, Option, Some, None}
use Rattle.std.specs.List.{before_first, after_first}
use Rattle.std.specs.Char.{is_ascii_hexdigit}
use Rattle.std.specs.Fmt.{digits}
use Rattle.std.specs.Str.Parse.{digits_value}
use Rattle.pat_base.specs.Bounded.{is_text}

-- two hexadecimal numbers in capitals, the high and the low 32 bits, with a slash between
abbrev pub lsn_text : ℕ → List ℕ
lsn_text position = digits 16 true (position / 2 ^ 32) ++ (codes "/" ++ digits 16 true (position % 2 ^ 32))

-- 1 to 8 hexadecimal digits
abbrev pub is_hex_number : List ℕ → Bool
is_hex_number bytes = is_text 8 is_ascii_hexdigit bytes

-- the number that 1 to 8 hexadecimal digits write, if the bytes are such
abbrev pub hex_number : List ℕ → Option ℕ
hex_number bytes = if is_hex_number bytes then Some (digits_value 16 bytes) else None

-- the byte of a slash
abbrev pub is_slash : ℕ → Bool
is_slash byte = byte == 47

-- the number, if it is at most this many
abbrev pub at_most : ℕ → ℕ → Option ℕ
at_most most number = if nat_le number most then Some number else None

-- the position of its high and its low 32 bits, if both are there and it is at most 2 ^ 63
abbrev pub joined : Option ℕ → Option ℕ → Option ℕ
joined (Some high) (Some low) = at_most (2 ^ 63) (high * 2 ^ 32 + low)
joined None _ = None
joined (Some high) None = None

-- the position that the bytes write, if they write one: its high 32 bits, a slash, and its low 32 bits
abbrev pub lsn_of : List ℕ → Option ℕ
lsn_of bytes = joined (hex_number (before_first is_slash bytes)) (hex_number (after_first is_slash bytes))
