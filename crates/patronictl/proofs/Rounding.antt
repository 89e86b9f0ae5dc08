-- Rounding to the nearest.
use Rattle.std.proofs.Common.{◌≡◌, ℕ, ◌+◌, ◌*◌, ◌/◌, ◌%◌, ◌<◌, ◌≤◌, refl, arith}
use Rattle.std.specs.declared.cmp.Ordering.{Ordering}
use Rattle.std.specs.declared.cmp.Ordering.TheVariants.{Less, Equal, Greater}
use Rattle.std.specs.Ordering.{nat_cmp}
use Rattle.std.proofs.lemmas.Cmp.{ranked}
use Rattle.patronictl.specs.Lags.{megabytes, rounded_by}
use Rattle.patronictl.specs.declared.lag.TheConstants.{HALF, MEGABYTE}

-- so many megabytes are the nearest to these bytes, and of two the even ones
pub record IsNearest (bytes told : ℕ) : Type 0 where
  pub not_above : 2 * (MEGABYTE * told) ≤ 2 * bytes + MEGABYTE
  pub not_below : 2 * bytes ≤ 2 * (MEGABYTE * told) + MEGABYTE
  pub even_above : 2 * (MEGABYTE * told) ≡ 2 * bytes + MEGABYTE → told % 2 ≡ 0
  pub even_below : 2 * bytes ≡ 2 * (MEGABYTE * told) + MEGABYTE → told % 2 ≡ 0

nearest-by : (bytes whole rest : ℕ) (order : Ordering) → order ≡ nat_cmp rest HALF
    → bytes ≡ MEGABYTE * whole + rest → rest < MEGABYTE → IsNearest bytes (rounded_by order whole)
nearest-by bytes whole rest Less is sum below =
    let less : rest < HALF = ranked rest HALF Less is in
    record {
      not_above = omega arith;
      not_below = omega arith;
      even_above = λ e. absurd (omega (arith, e));
      even_below = λ e. absurd (omega (arith, e));
    }
nearest-by bytes whole rest Equal is sum below =
    let same : rest ≡ HALF = ranked rest HALF Equal is in
    record {
      not_above = omega arith;
      not_below = omega arith;
      even_above = λ e. omega (arith, e);
      even_below = λ e. omega (arith, e);
    }
nearest-by bytes whole rest Greater is sum below =
    let more : HALF < rest = ranked rest HALF Greater is in
    record {
      not_above = omega arith;
      not_below = omega arith;
      even_above = λ e. absurd (omega (arith, e));
      even_below = λ e. absurd (omega (arith, e));
    }

-- the megabytes that are told are the nearest
pub told-are-nearest : (bytes : ℕ) → IsNearest bytes (megabytes bytes)
told-are-nearest bytes =
    nearest-by bytes (bytes / MEGABYTE) (bytes % MEGABYTE) (nat_cmp (bytes % MEGABYTE) HALF) refl
    (omega arith) (omega arith)
