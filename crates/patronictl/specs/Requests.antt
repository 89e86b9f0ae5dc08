-- The requests of commands (Patroni documentation, "Patroni REST API").
use Rattle.std.specs.Prelude.{ℕ, List, [], ◌++◌, codes, Option, Some, None}
use Rattle.rest_message.specs.Requests.{RequestText}
use Rattle.rest_message.specs.declared.verb.Verb.{Verb}
use Rattle.rest_message.specs.declared.verb.Verb.TheVariants.{Patch, Post}

-- the request of this method to this path, with this body
abbrev pub request_with : Verb → List ℕ → List ℕ → RequestText
request_with method path body = record { verb = method; target = path; body = body }

-- a change of the configuration
abbrev pub config_change : List ℕ → RequestText
config_change body = request_with Patch (codes "/config") body

-- what is posted to a path
abbrev pub posted : List ℕ → List ℕ → RequestText
posted path body = request_with Post path body

-- that the cluster is paused
abbrev pub pause_body : List ℕ
pause_body = codes "{\"pause\":true}"

-- that the setting is dropped, which pauses the cluster
abbrev pub resume_body : List ℕ
resume_body = codes "{\"pause\":null}"

-- from whom, and where a candidate is named to whom the cluster is switched over
abbrev pub switchover_body : List ℕ → Option (List ℕ) → List ℕ
switchover_body leader None = codes "{\"leader\":\"" ++ (leader ++ codes "\"}")
switchover_body leader (Some candidate) =
    codes "{\"leader\":\"" ++ (leader ++ (codes "\",\"candidate\":\"" ++ (candidate ++ codes "\"}")))

-- to whom the cluster is failed over
abbrev pub failover_body : List ℕ → List ℕ
failover_body candidate = codes "{\"candidate\":\"" ++ (candidate ++ codes "\"}")

-- the request that restarts a server
abbrev pub restart_request : RequestText
restart_request = posted (codes "/restart") []

-- the request that makes a server anew
abbrev pub reinitialize_request : RequestText
reinitialize_request = posted (codes "/reinitialize") []
