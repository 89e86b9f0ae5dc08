-- Tokens of HTTP.
use Rattle.std.specs.Prelude.{ℕ, ◌==◌, ◌&&◌, ◌||◌, nat_lt, Bool, List, codes, length}
use Rattle.std.specs.Char.{is_ascii_alphanumeric}
use Rattle.std.specs.List.{list_all, list_any}

-- the signs of a token beside letters and digits
abbrev pub token_signs : List ℕ
token_signs = codes "!#$%&'*+-.^_`|~"

-- a byte of a token
abbrev pub is_token_byte : ℕ → Bool
is_token_byte b = is_ascii_alphanumeric b || list_any (λ sign. sign == b) token_signs

-- a token of HTTP (RFC 9110, section 5.6.2): at least one such byte
abbrev pub is_token : List ℕ → Bool
is_token word = nat_lt 0 (length word) && list_all is_token_byte word
