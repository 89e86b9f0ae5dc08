-- What health checks look at of a member, and what they answer, by what its agent
-- shows, the newest snapshot that it accepted, and the value of the parameter lag.
use Rattle.std.specs.Prelude.{ℕ, List, Option}
use Rattle.rest_health.specs.declared.endpoint.Endpoint.{Endpoint}
use Rattle.rest_health.specs.declared.facts.Facts.{Facts}
use Rattle.rest_health.specs.Health.{is_healthy, status_where}
use Rattle.cluster_view.specs.declared.view.AgentView.{AgentView}
use Rattle.cluster_view.specs.Snapshots.{SnapshotFacts}
use Rattle.cluster_view.specs.Roles.{has_key}
use Rattle.rest_facts.specs.Lags.{limit_of, status_on, is_within_limit}
use Rattle.pat_base.specs.ServerState.{is_primary, is_replica}
use Rattle.rest_facts.specs.Members.{is_standby_on}
use Rattle.rest_facts.specs.Turns.{config_on, primary_span, other_span, is_fresh}

-- the facts of a view
abbrev pub facts_of_view : AgentView → Option SnapshotFacts → Option (List ℕ) → Facts
facts_of_view view seen lag = record {
  primary = is_primary view.state;
  replica = is_replica view.state;
  has_key = has_key view.role;
  no_load_balance = view.tags.noloadbalance;
  standby = is_standby_on view.me seen;
  within_lag = is_within_limit (limit_of lag) (status_on seen) view.end;
  fresh_as_primary = is_fresh view.moment view.last_turn (primary_span (config_on seen));
  fresh_otherwise = is_fresh view.moment view.last_turn (other_span (config_on seen));
}

-- the status of a path
abbrev pub health_of_view : Endpoint → AgentView → Option SnapshotFacts → Option (List ℕ) → ℕ
health_of_view endpoint view seen lag = status_where (is_healthy endpoint (facts_of_view view seen lag))
