-- The status that no check of operators and no health check has.
use Rattle.std.specs.Prelude.{ℕ}

-- the status of a known path with another method (RFC 9110, "405 Method Not Allowed")
abbrev pub method_not_allowed : ℕ
method_not_allowed = 405
