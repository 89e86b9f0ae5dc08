-- What laws of health checks over views say.
use Rattle.std.specs.Prelude.{◌≡◌, ◌≤◌, ◌+◌, ℕ, Bool, true, false, List, Option, Some}
use Rattle.pat_base.specs.declared.lsn.Lsn.{Lsn}
use Rattle.pat_base.specs.declared.server_state.State.{State}
use Rattle.pat_base.specs.declared.server_state.State.TheVariants as states
use Rattle.pat_base.specs.declared.ticks.Ticks.{Ticks}
use Rattle.store_keys.specs.declared.config.Config.{Config}
use Rattle.store_keys.specs.declared.value.SyncKey.{SyncKey}
use Rattle.rest_health.specs.declared.endpoint.Endpoint.{Endpoint}
use Rattle.rest_health.specs.declared.endpoint.Endpoint.TheVariants as paths
use Rattle.cluster_view.specs.declared.view.AgentView.{AgentView}
use Rattle.cluster_view.specs.KeyValues.{sync_in}
use Rattle.cluster_view.specs.Naming.{is_standby}
use Rattle.cluster_view.specs.Snapshots.{SnapshotFacts}
use Rattle.rest_facts.specs.Lags.{limit_of, status_on}
use Rattle.cluster_view.specs.Roles.{has_key}
use Rattle.rest_facts.specs.Turns.{config_on, primary_span, other_span}

-- an agent's role holds the leader key
abbrev pub HoldsKey : AgentView → Type 0
HoldsKey view = has_key view.role ≡ true

-- the server runs as the primary, and the agent holds the leader key
abbrev pub Leads : AgentView → Type 0
Leads view = (view.state ≡ states.Primary) × HoldsKey view

-- the server runs as a replica, and no tag keeps load from it
abbrev pub TakesLoad : AgentView → Type 0
TakesLoad view = (view.state ≡ states.Replica) × (view.tags.noloadbalance ≡ false)

-- a snapshot was accepted whose sync key names the member as a standby
abbrev pub IsNamed : AgentView → Option SnapshotFacts → Type 0
IsNamed view seen = (snapshot : SnapshotFacts) × (sync : SyncKey) × (seen ≡ Some snapshot)
    × (sync_in snapshot ≡ Some sync) × (is_standby view.me sync ≡ true)

-- where the query sets a limit and the leader told where its log ends, the own log ends at most so many bytes before
abbrev pub KeepsUp : AgentView → Option SnapshotFacts → Option (List ℕ) → Type 0
KeepsUp view seen lag = (limit : ℕ) (status : Lsn) → limit_of lag ≡ Some limit → status_on seen ≡ Some status
    → (end : Lsn) × (view.end ≡ Some end) × (status.position ≤ end.position + limit)

-- how long ago the last turn may be: the ttl on a primary, and twice that else
abbrev pub allowed_span : State → Config → ℕ
allowed_span states.Primary config = primary_span config
allowed_span _ config = other_span config

-- a turn of this incarnation began, the last one no longer ago than allowed
abbrev pub TakesTurns : AgentView → Option SnapshotFacts → Type 0
TakesTurns view seen =
    (turn : Ticks) × (view.last_turn ≡ Some turn) × (view.moment.0 ≤ turn.0 + allowed_span view.state (config_on seen))

-- the lag of the query counts on this path
abbrev pub counts_lag : Endpoint → Bool
counts_lag paths.Replica = true
counts_lag paths.Async = true
counts_lag paths.Asynchronous = true
counts_lag _ = false
