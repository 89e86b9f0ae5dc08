-- The two statuses of health checks.
use Rattle.std.specs.Prelude.{ℕ}

-- the member is what the path asks for (RFC 9110, "200 OK")
abbrev pub ok : ℕ
ok = 200

-- it is not (RFC 9110, "503 Service Unavailable")
abbrev pub unavailable : ℕ
unavailable = 503
