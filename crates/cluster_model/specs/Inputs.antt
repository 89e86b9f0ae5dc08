-- The inputs of agents.
use Rattle.std.specs.Prelude.{ℕ, ◌+◌, ◌&&◌, not, Bool, false, List, [], Option, Some, None, option_map, option_and_then, slice_get}
use Rattle.pat_base.specs.declared.ticks.Ticks.{Ticks}
use Rattle.wal_model.specs.declared.entry.HistoryPoint.{HistoryPoint}
use Rattle.event_book.specs.declared.agent_process.AgentProcess.{AgentProcess}
use Rattle.event_book.specs.declared.member.Member.{Member}
use Rattle.agent_model.specs.declared.heard.Heard.{Heard}
use Rattle.agent_model.specs.declared.machine.Machine.{Machine}
use Rattle.agent_model.specs.declared.output.Output.{Output}
use Rattle.agent_model.specs.declared.who.Who.{Who}
use Rattle.agent_model.specs.Agents.{AgentFacts, Follower, Outcome, fresh_knowledge, outcome_from}
use Rattle.agent_model.specs.Table.{step}
use Rattle.agent_model.specs.Wake.{is_due}
use Rattle.cluster_model.specs.Machines.{machine_of, points_of}
use Rattle.cluster_model.specs.State.{Cluster}

-- the moment of a cluster
abbrev pub moment_of : Cluster → Ticks
moment_of cluster = record { 0 = cluster.facts.clock }

-- the agent at a place, where one runs
abbrev pub agent_at : List (Option AgentFacts) → ℕ → Option AgentFacts
agent_at agents place = option_and_then (λ agent. agent) (slice_get agents place)

-- an agent with its machine, before an input: it has done nothing yet
abbrev pub standing : Option AgentFacts → Option Machine → Option Outcome
standing (Some agent) (Some machine) = Some (outcome_from agent.role agent.knows machine [])
standing _ _ = None

-- the agent of a member with its machine, where one runs
abbrev pub standing_of : Cluster → Member → Option Outcome
standing_of cluster member = standing (agent_at cluster.agents member.id.number) (machine_of cluster member)

-- what this input makes of an agent with its machine, where there are both, at a server with this history
abbrev pub outcome_at : Ticks → List HistoryPoint → Heard → Option AgentFacts → Option Machine → Option Outcome
outcome_at now points heard agent machine = option_map (step now points heard) (standing agent machine)

-- what this input makes of the agent of a member
abbrev pub outcome_of : Cluster → Member → Heard → Option Outcome
outcome_of cluster member heard = outcome_at (moment_of cluster) (points_of cluster member) heard
    (agent_at cluster.agents member.id.number) (machine_of cluster member)

-- what the agent of a member makes of what a message says, if it says anything to agents
abbrev pub outcome_of_heard : Cluster → Member → Option Heard → Option Outcome
outcome_of_heard cluster member None = None
outcome_of_heard cluster member (Some heard) = outcome_of cluster member heard

-- what an input did, if there was one
abbrev pub outputs_of : Option Outcome → List Output
outputs_of None = []
outputs_of (Some outcome) = outcome.outputs

-- there is something to do for this agent with its machine, if there is one
abbrev pub has_work : Ticks → Option Outcome → Bool
has_work now None = false
has_work now (Some o) = is_due now o.role o.knows o.machine

-- an agent that runs and isn't suspended
abbrev pub may_act : AgentProcess → Bool
may_act process = process.running && not process.suspended

-- one that has something to do besides
abbrev pub is_to_wake : Ticks → AgentProcess → Option Outcome → Bool
is_to_wake now process o = may_act process && has_work now o

-- an agent that starts at this moment, in its incarnation of this number: its first turn is due in the next tick
abbrev pub starting_agent : Who → ℕ → ℕ → AgentFacts
starting_agent who now incarnation =
    record { role = Follower; knows = fresh_knowledge who (record { 0 = now + 1 }) incarnation }
