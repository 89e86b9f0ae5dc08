-- The health of a member by path, in the words of Patroni (Patroni
-- documentation, "Patroni REST API", "Health check endpoints").
use Rattle.std.specs.Prelude.{ℕ, Bool, ◌&&◌, ◌||◌, not, if◌then◌else◌}
use Rattle.rest_health.specs.declared.endpoint.Endpoint.{Endpoint}
use Rattle.rest_health.specs.declared.endpoint.Endpoint.TheVariants.{Root, Primary, ReadWrite, Leader, Replica, ReadOnly, Sync, Synchronous, ReadOnlySync, Async, Asynchronous, Health, Readiness, Liveness}
use Rattle.rest_health.specs.declared.facts.Facts.{Facts}
use Rattle.rest_health.specs.Statuses.{ok, unavailable}
use Rattle.rest_health.specs.Words.{facts_of}

-- whether a member runs as the primary with the leader key
abbrev pub leads : Facts → Bool
leads facts = facts.primary && facts.has_key

-- whether a member runs as a replica, and balancers may send it load
abbrev pub takes_load : Facts → Bool
takes_load facts = facts.replica && not facts.no_load_balance

-- whether such a replica is a synchronous standby
abbrev pub is_sync : Facts → Bool
is_sync facts = takes_load facts && facts.standby

-- whether such a replica is none, and lags no further than the query allows
abbrev pub is_async : Facts → Bool
is_async facts = takes_load facts && not facts.standby && facts.within_lag

-- whether a member's server is up and running
abbrev pub is_running : Facts → Bool
is_running facts = facts.primary || facts.replica

-- whether a member is what a path asks for
abbrev pub is_healthy : Endpoint → Facts → Bool
is_healthy Root facts = leads facts
is_healthy Primary facts = leads facts
is_healthy ReadWrite facts = leads facts
is_healthy Leader facts = facts.has_key
is_healthy Replica facts = takes_load facts && facts.within_lag
is_healthy ReadOnly facts = takes_load facts || leads facts
is_healthy Sync facts = is_sync facts
is_healthy Synchronous facts = is_sync facts
is_healthy ReadOnlySync facts = is_sync facts || leads facts
is_healthy Async facts = is_async facts
is_healthy Asynchronous facts = is_async facts
is_healthy Health facts = is_running facts
is_healthy Readiness facts = facts.has_key || is_running facts
is_healthy Liveness facts = if facts.primary then facts.fresh_as_primary else facts.fresh_otherwise

-- the status of a member that is what a path asks for, or is not
abbrev pub status_where : Bool → ℕ
status_where healthy = if healthy then ok else unavailable

-- the status of a path, by a word of facts
abbrev pub health_of : Endpoint → ℕ → ℕ
health_of endpoint word = status_where (is_healthy endpoint (facts_of word))
