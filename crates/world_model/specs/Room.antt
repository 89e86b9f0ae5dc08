-- How far a cluster may go, and how often the parts of a step count any one
-- counter up at most: at most once an event, but for the inputs of agents.
use Rattle.std.specs.Prelude.{ℕ, ◌+◌, ◌*◌, ◌^◌, ◌<◌, ◌≤◌, All, Option, IfSome}
use Rattle.event_book.specs.declared.event.AgentEvent.{AgentEvent}
use Rattle.event_book.specs.declared.event.AgentEvent.TheVariants as agents
use Rattle.event_book.specs.declared.event.EventKind.{EventKind}
use Rattle.event_book.specs.declared.event.EventKind.TheVariants as kinds
use Rattle.event_book.specs.declared.event.MessageEvent.{MessageEvent}
use Rattle.event_book.specs.declared.event.MessageEvent.TheVariants as messages
use Rattle.agent_model.specs.Agents.{AgentFacts, most_messages}
use Rattle.agent_model.specs.Outputs.{most_outputs}
use Rattle.cluster_model.specs.Limits.{most_in_flight, most_rounds}
use Rattle.pat_base.specs.declared.member_id.TheConstants.{MOST_MEMBERS}
use Rattle.cluster_model.specs.State.{Cluster}

-- an agent that runs has so many more numbers for messages
abbrev pub HasNumbers : ℕ → Option AgentFacts → Type 0
HasNumbers numbers agent = IfSome agent (λ a. a.knows.sequence + numbers ≤ most_messages)

-- no counter comes to its end by being counted up so often
pub record HasRoom (cluster : Cluster) (cost : ℕ) : Type 0 where
  pub clock : cluster.facts.clock + cost < 2 ^ 60
  pub revision : cluster.facts.keys.revision + cost < 2 ^ 60
  pub sent : cluster.facts.sent + cost < 2 ^ 60
  pub runs : All (λ state. state.incarnation + cost < 2 ^ 60) cluster.facts.processes
  -- an agent that starts has numbers too
  pub numbers : cost ≤ most_messages
  pub agents : All (HasNumbers cost) cluster.agents
  pub timelines : All (λ s. s.timeline + cost < 2 ^ 60) cluster.facts.servers
  pub remote : IfSome cluster.facts.remote (λ s. s.timeline + cost < 2 ^ 60)
  pub commits : cluster.facts.commits + cost < 2 ^ 60

-- an agent that hears something may number as many messages as an input brings outputs
abbrev pub hearing_cost : ℕ
hearing_cost = most_outputs

-- how often any one counter is counted up at most by what happens to an agent
abbrev pub agent_event_cost : AgentEvent → ℕ
agent_event_cost (agents.Woken member) = hearing_cost
agent_event_cost (agents.Operated member action) = hearing_cost
agent_event_cost _ = 1

-- by what happens to a message
abbrev pub message_event_cost : MessageEvent → ℕ
message_event_cost (messages.Delivered number) = hearing_cost
message_event_cost _ = 1

-- by an event: once, unless it is an input of an agent
abbrev pub event_cost : EventKind → ℕ
event_cost (kinds.Agent happening) = agent_event_cost happening
event_cost (kinds.Message happening) = message_event_cost happening
event_cost _ = 1

-- a message that is sent may be lost at once
abbrev pub sending_cost : ℕ
sending_cost = 1 + 1

-- a server starts and follows another one
abbrev pub replica_start_cost : ℕ
replica_start_cost = 1 + 1

-- an agent says that it ends its server, and does so
abbrev pub stopping_cost : ℕ
stopping_cost = 1 + 1

-- a watchdog is fed, and from when that counts
abbrev pub feeding_cost : ℕ
feeding_cost = 1 + 1

-- a server begins, and lacks a commit
abbrev pub beginning_cost : ℕ
beginning_cost = 1 + 1

-- a server that is live ends, and begins again
abbrev pub server_restart_cost : ℕ
server_restart_cost = 1 + beginning_cost

-- no output brings more than the restart of a server
abbrev pub output_cost : ℕ
output_cost = server_restart_cost

-- all outputs of an input
abbrev pub outputs_cost : ℕ
outputs_cost = output_cost * most_outputs

-- an agent is woken, and acts
abbrev pub input_cost : ℕ
input_cost = hearing_cost + outputs_cost

-- the key store decides, and answers
abbrev pub decision_cost : ℕ
decision_cost = 1 + sending_cost

-- a message comes, and an agent acts on it; what the key store does is less
abbrev pub message_cost : ℕ
message_cost = hearing_cost + outputs_cost

-- a replica receives, and confirms
abbrev pub streaming_cost : ℕ
streaming_cost = 1 + 1

-- an operator promotes a replica, and it begins
abbrev pub promotion_cost : ℕ
promotion_cost = 1 + beginning_cost

-- an agent starts, and removes the deadline of its watchdog
abbrev pub agent_start_cost : ℕ
agent_start_cost = 1 + 1

-- a request comes to an agent, and it acts; what it answers of itself is less
abbrev pub request_cost : ℕ
request_cost = hearing_cost + outputs_cost

-- no command brings more than a turn, a request or a message that is delivered
abbrev pub command_cost : ℕ
command_cost = input_cost

-- each agent is woken
abbrev pub wakes_cost : ℕ
wakes_cost = input_cost * MOST_MEMBERS

-- and then each message in flight moves
abbrev pub round_cost : ℕ
round_cost = wakes_cost + message_cost * most_in_flight

-- all rounds of a tick
abbrev pub rounds_cost : ℕ
rounds_cost = round_cost * most_rounds

-- each replica receives
abbrev pub receiving_cost : ℕ
receiving_cost = streaming_cost * MOST_MEMBERS

-- and then come the rounds
abbrev pub schedule_cost : ℕ
schedule_cost = receiving_cost + rounds_cost

-- each machine is reset
abbrev pub resets_cost : ℕ
resets_cost = 1 * MOST_MEMBERS

-- the start or the stop of each server is complete
abbrev pub completions_cost : ℕ
completions_cost = beginning_cost * MOST_MEMBERS

-- the clock grows by one, machines are reset, and starts and stops are complete; expiries take no room
abbrev pub tick_cost : ℕ
tick_cost = 1 + resets_cost + completions_cost

-- no step brings more than a tick of the default schedule; acknowledgements take no room
abbrev pub step_cost : ℕ
step_cost = tick_cost + schedule_cost

-- so many more steps can't bring a counter to its end
pub record HasRoomFor (cluster : Cluster) (steps : ℕ) : Type 0 where
  pub room : HasRoom cluster (step_cost * steps)

-- a world takes so many steps at most
abbrev pub most_steps : ℕ
most_steps = 2 ^ 30
