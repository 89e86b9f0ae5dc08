-- The bytes of hosts.
use Rattle.std.specs.Prelude.{ℕ, ◌<◌, ◌&&◌, ◌||◌, ◌==◌, nat_le, Bool, IsTrue, List}
use Rattle.std.proofs.Common.{arith}
use Rattle.std.proofs.lemmas.Bool.Decides.{nat_tests}
use Rattle.pat_base.specs.Bounded.{is_text}

-- a to z, A to Z, 0 to 9, ., : and -
abbrev pub is_host_byte : ℕ → Bool
is_host_byte b = (nat_le 97 b && nat_le b 122) || (nat_le 65 b && nat_le b 90) || (nat_le 48 b && nat_le b 57)
    || (b == 46) || (b == 58) || (b == 45)

-- 1 to 40 such bytes
abbrev pub is_host : List ℕ → Bool
is_host bytes = is_text 40 is_host_byte bytes

pub is_host_byte-ascii : (b : ℕ) → IsTrue (is_host_byte b) → b < 128
is_host_byte-ascii b h = grind (arith, nat_tests)
