-- Text that has no markup.
use Rattle.std.specs.Prelude.{ℕ, ◌==◌, ◌&&◌, nat_le, if◌then◌else◌, List, [], ◌∷◌, codes}
use Rattle.std.specs.List.{flat_map}

-- how a byte is written that has a meaning in markup; each that is no printable one of ASCII is a question mark
abbrev pub escape : ℕ → List ℕ
escape byte =
    if byte == 38 then codes "&amp;" else if byte == 60 then codes "&lt;" else if byte == 62 then codes "&gt;"
    else if byte == 34 then codes "&quot;" else if nat_le 32 byte && nat_le byte 126 then byte ∷ [] else codes "?"

-- bytes as text that has no markup
abbrev pub escaped : List ℕ → List ℕ
escaped bytes = flat_map escape bytes
