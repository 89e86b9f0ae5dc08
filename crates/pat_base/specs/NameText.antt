-- The bytes of names.
use Rattle.std.specs.Prelude.{ℕ, ◌<◌, ◌&&◌, ◌||◌, ◌==◌, nat_le, Bool, IsTrue, List}
use Rattle.std.proofs.Common.{arith}
use Rattle.std.proofs.lemmas.Bool.Decides.{nat_tests}
use Rattle.pat_base.specs.Bounded.{is_text}

-- a to z, 0 to 9, _ and -
abbrev pub is_name_byte : ℕ → Bool
is_name_byte b = (nat_le 97 b && nat_le b 122) || (nat_le 48 b && nat_le b 57) || (b == 95) || (b == 45)

-- 1 to 32 such bytes
abbrev pub is_name : List ℕ → Bool
is_name bytes = is_text 32 is_name_byte bytes

pub is_name_byte-ascii : (b : ℕ) → IsTrue (is_name_byte b) → b < 128
is_name_byte-ascii b h = grind (arith, nat_tests)
