-- Log positions by their bytes.
use Rattle.std.specs.Prelude.{ℕ, ◌^◌, min}
use Rattle.std.proofs.Math.Nat.{min-le_right}
use Rattle.pat_base.specs.declared.lsn.Lsn.{Lsn}

-- the position behind so many bytes, and the greatest where there are more than a log may have
unfoldable pub lsn_at : ℕ → Lsn
lsn_at bytes = record { position = min bytes (2 ^ 63); within = min-le_right bytes (2 ^ 63) }
