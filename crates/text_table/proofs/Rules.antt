-- The signs of rules.
use Rattle.std.proofs.Common.{ℕ, ◌<◌, zero, suc, List, [], ◌∷◌, ◌++◌, replicate, codes, arith}
use Rattle.std.specs.List.{flat_map}
use Rattle.std.specs.Str.{IsAscii}
use Rattle.std.proofs.lemmas.Str.{IsAscii-append}
use Rattle.std.proofs.lemmas.Str.Ascii.{IsAscii-cons, IsAscii-nil}
use Rattle.text_table.specs.declared.slot.Slot.{Slot}
use Rattle.text_table.specs.Tables.{dashes, hyphen, rule_line}

ascii-replicate : (n b : ℕ) → b < 128 → IsAscii (replicate n b)
ascii-replicate zero b here = IsAscii-nil
ascii-replicate (suc n) b here = IsAscii-cons b (replicate n b) here (ascii-replicate n b here)

ascii-hyphen : hyphen < 128
ascii-hyphen = omega arith

corner : 43 < 128
corner = omega arith

ascii-dashes : (slot : Slot) → IsAscii (dashes slot)
ascii-dashes slot =
    IsAscii-cons hyphen (replicate slot.width hyphen ++ codes "-+") ascii-hyphen
    (IsAscii-append (replicate slot.width hyphen) (codes "-+") (ascii-replicate slot.width hyphen ascii-hyphen)
    (IsAscii-cons hyphen (43 ∷ []) ascii-hyphen (IsAscii-cons 43 [] corner IsAscii-nil)))

ascii-parts : (slots : List Slot) → IsAscii (flat_map dashes slots)
ascii-parts [] = IsAscii-nil
ascii-parts (slot ∷ slots) =
    IsAscii-append (dashes slot) (flat_map dashes slots) (ascii-dashes slot) (ascii-parts slots)

-- rules are ASCII
pub ascii-rule : (slots : List Slot) → IsAscii (rule_line slots)
ascii-rule slots = IsAscii-cons 43 (flat_map dashes slots) corner (ascii-parts slots)
