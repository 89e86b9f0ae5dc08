-- How far members lag, in megabytes.
use Rattle.std.specs.Prelude.{ℕ, ◌+◌, ◌/◌, ◌%◌}
use Rattle.std.specs.declared.cmp.Ordering.{Ordering}
use Rattle.std.specs.declared.cmp.Ordering.TheVariants.{Less, Equal, Greater}
use Rattle.std.specs.Ordering.{nat_cmp}
use Rattle.patronictl.specs.declared.lag.TheConstants.{HALF, MEGABYTE}

-- so many whole megabytes, or one more, by how the rest compares with a half: at a half the even one
abbrev pub rounded_by : Ordering → ℕ → ℕ
rounded_by Less whole = whole
rounded_by Equal whole = whole + whole % 2
rounded_by Greater whole = whole + 1

-- whole megabytes, or one more where the rest of the bytes asks for it
abbrev pub rounded : ℕ → ℕ → ℕ
rounded whole rest = rounded_by (nat_cmp rest HALF) whole

-- how many megabytes so many bytes are, to the nearest; where two are as near, the even one
abbrev pub megabytes : ℕ → ℕ
megabytes bytes = rounded (bytes / MEGABYTE) (bytes % MEGABYTE)
