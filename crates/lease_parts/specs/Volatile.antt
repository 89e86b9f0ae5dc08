-- What the law of one writer sees of a cluster.
use Rattle.std.specs.Prelude.{ℕ, Option, Some, None, option_map, slice_get}
use Rattle.agent_model.specs.Agents.{AgentFacts}
use Rattle.cluster_model.specs.FailsafeDeadlines.{is_set_by_failsafe}
use Rattle.cluster_model.specs.State.{Cluster}
use Rattle.lease_model.specs.Past.{VolatileState}
use Rattle.lease_model.specs.States.{Agent, Machine, fresh_agent}
use Rattle.lease_parts.specs.AgentSeen.{agent_seen}
use Rattle.lease_parts.specs.Machines.{live_in, deadline_in, hold_in, run_in}

-- the agent of a member, if one runs; past the members all is as before the first event
abbrev pub agent_now : Option (Option AgentFacts) → Option Agent
agent_now None = Some (fresh_agent 1)
agent_now (Some agent) = option_map agent_seen agent

-- what no event says of a member, by a cluster: whether its server is live, and its agent
abbrev pub volatile_of : Cluster → ℕ → VolatileState
volatile_of cluster m =
    record { live = live_in cluster.facts.servers m; agent = agent_now (slice_get cluster.agents m) }

-- the machine of a member, by a cluster
abbrev pub machine_in : Cluster → ℕ → Machine
machine_in cluster m = record {
  live = live_in cluster.facts.servers m;
  deadline = deadline_in cluster.facts.deadlines m;
  by_failsafe = is_set_by_failsafe (slice_get cluster.failsafe_deadlines m);
  hold = hold_in cluster.facts.holds m;
  agent = agent_now (slice_get cluster.agents m);
  runs = run_in cluster.facts.processes m;
}
