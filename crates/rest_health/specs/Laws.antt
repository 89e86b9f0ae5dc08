-- What laws of health checks say.
use Rattle.std.specs.Prelude.{◌≡◌, ◌↔◌, ℕ, Bool, true, false}
use Rattle.rest_health.specs.declared.endpoint.Endpoint.{Endpoint}
use Rattle.rest_health.specs.declared.endpoint.Endpoint.TheVariants.{Root, Primary, ReadWrite, Replica, Sync, Synchronous, Async, Asynchronous}
use Rattle.rest_health.specs.Statuses.{ok, unavailable}
use Rattle.rest_health.specs.Words.{is_set}

-- the fact of this bit holds in a word
abbrev pub Has : ℕ → ℕ → Type 0
Has word bit = is_set word bit ≡ true

-- the fact of this bit doesn't hold in a word
abbrev pub Lacks : ℕ → ℕ → Type 0
Lacks word bit = is_set word bit ≡ false

-- a status is OK exactly where this holds, and else it is UNAVAILABLE
pub record IsOkWhere (status : ℕ) (Healthy : Type 0) : Type 0 where
  pub ok_where : (status ≡ ok) ↔ Healthy
  pub unavailable_else : (Healthy → ⊥) → status ≡ unavailable

-- whether a path asks for a primary
abbrev pub is_for_primaries : Endpoint → Bool
is_for_primaries Root = true
is_for_primaries Primary = true
is_for_primaries ReadWrite = true
is_for_primaries _ = false

-- whether a path asks for a replica
abbrev pub is_for_replicas : Endpoint → Bool
is_for_replicas Replica = true
is_for_replicas Sync = true
is_for_replicas Synchronous = true
is_for_replicas Async = true
is_for_replicas Asynchronous = true
is_for_replicas _ = false
