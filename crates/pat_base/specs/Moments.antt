-- Moments.
use Rattle.std.specs.Prelude.{ℕ, ◌^◌}

-- moments that are reckoned with: to each of them spans may be added
abbrev pub latest : ℕ
latest = 2 ^ 62
