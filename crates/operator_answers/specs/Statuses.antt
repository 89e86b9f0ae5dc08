-- The statuses of answers to operators.
use Rattle.std.specs.Prelude.{ℕ}

-- the status of a request that was carried out (RFC 9110, "200 OK")
abbrev pub ok : ℕ
ok = 200

-- the status of a request that can't be carried out as it was sent (RFC 9110, "400 Bad Request")
abbrev pub bad_request : ℕ
bad_request = 400

-- the status of a request for what isn't there (RFC 9110, "404 Not Found")
abbrev pub not_found : ℕ
not_found = 404

-- the status of a request that meets another state than it expects (RFC 9110, "409 Conflict")
abbrev pub conflict : ℕ
conflict = 409

-- the status of a request that doesn't fit the cluster as it is (RFC 9110, "412 Precondition Failed")
abbrev pub precondition_failed : ℕ
precondition_failed = 412

-- the status of a request for what the member may not do (RFC 9110, "500 Internal Server Error")
abbrev pub internal_server_error : ℕ
internal_server_error = 500

-- the status of what is asked of failsafe mode while it is off (RFC 9110, "502 Bad Gateway")
abbrev pub bad_gateway : ℕ
bad_gateway = 502

-- the status of a request that can't be carried out now (RFC 9110, "503 Service Unavailable")
abbrev pub service_unavailable : ℕ
service_unavailable = 503
