-- Short text as bytes.
use Rattle.std.specs.Prelude.{ℕ, ◌≤◌, List, length, take, refl}
use Rattle.std.specs.Str.{IsAscii}
use Rattle.pat_base.specs.Bounded.{padded, length-padded, take-padded}
use Rattle.pat_base.specs.declared.short_text.ShortText.{ShortText}

-- the bytes of a text
abbrev pub text_bytes : {room : ℕ} → ShortText room → List ℕ
text_bytes text = take text.len text.bytes

-- the text of these bytes
abbrev pub short_text : (room : ℕ) (bytes : List ℕ) → length bytes ≤ room → IsAscii bytes → ShortText room
short_text room bytes fits ascii = record {
  bytes = padded room bytes;
  len = length bytes;
  full = length-padded room bytes fits;
  fits = fits;
  ascii = rw (take-padded room bytes) ascii;
  zeros = rw (take-padded room bytes) refl;
}
