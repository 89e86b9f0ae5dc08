-- Text of a bounded length.
use Rattle.std.specs.Prelude.{ℕ, ◌≡◌, ◌≤◌, ◌<◌, ◌-◌, ◌++◌, ◌&&◌, nat_le, nat_lt, Bool, IsTrue, List, [], ◌∷◌, length, take, drop, replicate, refl}
use Rattle.std.specs.List.{list_all}
use Rattle.std.specs.Str.{IsAscii}
use Rattle.std.proofs.Common.{arith, ◌∙◌, length-append, zero, suc}
use Rattle.std.proofs.lemmas.Bool.{and_parts}
use Rattle.std.proofs.lemmas.Bool.Decides.{nat_tests}
use Rattle.std.proofs.lemmas.List.{length-replicate, drop-replicate}
use Rattle.std.proofs.lemmas.Str.Ascii.{IsAscii-nil}
use Rattle.std.proofs.Math.Seq.{take-append_seam}

-- 1 to so many bytes, each of which passes a test
abbrev pub is_text : ℕ → (ℕ → Bool) → List ℕ → Bool
is_text most test bytes = nat_lt 0 (length bytes) && nat_le (length bytes) most && list_all test bytes

pub is_text-bytes : (most : ℕ) (test : ℕ → Bool) (v : List ℕ) → IsTrue (is_text most test v) → IsTrue (list_all test v)
is_text-bytes most test v h = (and_parts (nat_lt 0 (length v) && nat_le (length v) most) (list_all test v) h).1

pub is_text-fits : (most : ℕ) (test : ℕ → Bool) (v : List ℕ) → IsTrue (is_text most test v) → length v ≤ most
is_text-fits most test v h = grind (arith, nat_tests)

-- bytes that are ASCII one by one are so together
pub list_all-ascii : (test : ℕ → Bool) → ((b : ℕ) → IsTrue (test b) → b < 128) → (v : List ℕ)
    → IsTrue (list_all test v) → IsAscii v
list_all-ascii test low [] h i = IsAscii-nil i
list_all-ascii test low (b ∷ bs) h zero = low b (and_parts (test b) (list_all test bs) h).0
list_all-ascii test low (b ∷ bs) h (suc i) = list_all-ascii test low bs (and_parts (test b) (list_all test bs) h).1 i

pub is_text-ascii : (most : ℕ) (test : ℕ → Bool) → ((b : ℕ) → IsTrue (test b) → b < 128) → (v : List ℕ)
    → IsTrue (is_text most test v) → IsAscii v
is_text-ascii most test low v h = list_all-ascii test low v (is_text-bytes most test v h)

-- the bytes of a text, and zeros up to its room
abbrev pub padded : ℕ → List ℕ → List ℕ
padded room bytes = bytes ++ replicate (room - length bytes) 0

pub length-padded : (room : ℕ) (v : List ℕ) → length v ≤ room → length (padded room v) ≡ room
length-padded room v h =
    length-append v (replicate (room - length v) 0) ∙ omega (arith, length-replicate {A = ℕ} (room - length v) 0)

pub take-padded : (room : ℕ) (v : List ℕ) → take (length v) (padded room v) ≡ v
take-padded room v = take-append_seam v (replicate (room - length v) 0)

-- the bytes written over the front of zeros
pub padded-over_zeros : (room : ℕ) (v : List ℕ) → v ++ drop (length v) (replicate room 0) ≡ padded room v
padded-over_zeros room v = rw drop-replicate refl
