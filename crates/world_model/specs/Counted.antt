-- How far the counters of a cluster have come.
use Rattle.std.specs.Prelude.{ℕ, ◌+◌, ◌*◌, ◌<◌, ◌≤◌, All, Option, IfSome}
use Rattle.agent_model.specs.Agents.{AgentFacts}
use Rattle.cluster_model.specs.State.{Cluster}
use Rattle.world_model.specs.Room.{step_cost}

-- an agent that runs has numbered at most so many messages
abbrev pub HasNumbered : ℕ → Option AgentFacts → Type 0
HasNumbered bound agent = IfSome agent (λ a. a.knows.sequence ≤ bound)

-- each counter is below this bound: the clock, the numbers of revisions, messages and commits,
-- and each process's run and server's timeline. No agent that runs has numbered more messages
pub record AreCounted (cluster : Cluster) (bound : ℕ) : Type 0 where
  pub clock : cluster.facts.clock < bound
  pub revision : cluster.facts.keys.revision < bound
  pub sent : cluster.facts.sent < bound
  pub runs : All (λ state. state.incarnation < bound) cluster.facts.processes
  pub agents : All (HasNumbered bound) cluster.agents
  pub timelines : All (λ s. s.timeline < bound) cluster.facts.servers
  pub remote : IfSome cluster.facts.remote (λ s. s.timeline < bound)
  pub commits : cluster.facts.commits < bound

-- no counter of a cluster comes so far in so many steps: before the first one each is at most 1
abbrev pub counted_by : ℕ → ℕ
counted_by steps = step_cost * steps + 2
