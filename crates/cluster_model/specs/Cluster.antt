-- What a book leaves of a cluster, with where its agents stand.
use Rattle.std.specs.Prelude.{ℕ, List, [], ◌∷◌, Option, Some, None}
use Rattle.pat_base.specs.declared.name.Name.{Name}
use Rattle.pat_base.specs.Changes.{with_changed}
use Rattle.member_options.specs.declared.member_option.MemberOptions.{MemberOptions}
use Rattle.event_book.specs.declared.event.AgentEvent.{AgentEvent}
use Rattle.event_book.specs.declared.event.AgentEvent.TheVariants as agents
use Rattle.event_book.specs.declared.event.Event.{Event}
use Rattle.event_book.specs.declared.event.EventKind.{EventKind}
use Rattle.event_book.specs.declared.event.EventKind.TheVariants as kinds
use Rattle.event_book.specs.declared.event.MessageEvent.{MessageEvent}
use Rattle.event_book.specs.declared.event.MessageEvent.TheVariants as messages
use Rattle.event_book.specs.declared.event.WatchdogEvent.{WatchdogEvent}
use Rattle.event_book.specs.declared.event.WatchdogEvent.TheVariants as watchdogs
use Rattle.event_book.specs.declared.link.LinkEnd.{LinkEnd}
use Rattle.event_book.specs.declared.link.LinkEnd.TheVariants as link_ends
use Rattle.event_book.specs.declared.member.Member.{Member}
use Rattle.event_book.specs.Facts.{facts_after}
use Rattle.event_book.specs.Flight.{InFlightFacts, in_flight}
use Rattle.agent_model.specs.declared.heard.Heard.TheVariants.{Wake, Operated}
use Rattle.agent_model.specs.Agents.{AgentFacts, Outcome}
use Rattle.cluster_model.specs.FailsafeDeadlines.{failsafe_deadlines_after}
use Rattle.cluster_model.specs.State.{Cluster}
use Rattle.cluster_model.specs.Hearing.{heard_from}
use Rattle.cluster_model.specs.Inputs.{outcome_of, outcome_of_heard, starting_agent}
use Rattle.cluster_model.specs.Machines.{who_of}

-- the agent after an input with this outcome; where there was none to hear it, as before
abbrev pub agent_after : Option Outcome → Option AgentFacts → Option AgentFacts
agent_after None agent = agent
agent_after (Some outcome) agent = Some (record { role = outcome.role; knows = outcome.knows })

-- the agents after an input of this member's
abbrev pub agent_facts_with : List (Option AgentFacts) → Member → Option Outcome → List (Option AgentFacts)
agent_facts_with agents member outcome = with_changed agents member.id.number (agent_after outcome)

-- the agents after that of this member ended
abbrev pub agent_facts_without : List (Option AgentFacts) → Member → List (Option AgentFacts)
agent_facts_without agents member = with_changed agents member.id.number (λ agent. None)

-- the agents of a cluster of this name with these members, of whom these
-- options are declared, at this moment, after one ended or started
abbrev pub agent_facts_moved : Name → List MemberOptions → List Member → ℕ → List (Option AgentFacts)
    → AgentEvent → List (Option AgentFacts)
agent_facts_moved scope options members now known (agents.Killed member) = agent_facts_without known member
agent_facts_moved scope options members now known (agents.Started member incarnation) = with_changed known
    member.id.number (λ agent. Some (starting_agent (who_of scope options members member) now incarnation))
agent_facts_moved scope options members now known _ = known

-- the agents after one was woken, did what an operator asked, ended or started
abbrev pub agent_facts_by : Cluster → AgentEvent → List (Option AgentFacts)
agent_facts_by cluster (agents.Woken member) = agent_facts_with cluster.agents member (outcome_of cluster member Wake)
agent_facts_by cluster (agents.Operated member action) =
    agent_facts_with cluster.agents member (outcome_of cluster member (Operated action))
agent_facts_by cluster happening =
    agent_facts_moved cluster.scope cluster.options cluster.facts.members cluster.facts.clock cluster.agents happening

-- the agents after this message came to this receiver: the agent of a member acts on it, and none does at the key store
abbrev pub agent_facts_reached_at : Cluster → InFlightFacts → LinkEnd → List (Option AgentFacts)
agent_facts_reached_at cluster message link_ends.Store = cluster.agents
agent_facts_reached_at cluster message (link_ends.Member member) =
    agent_facts_with cluster.agents member (outcome_of_heard cluster member (heard_from cluster message))

-- the agents after this message came to its receiver; where none was in flight, all are as before
abbrev pub agent_facts_reached : Cluster → Option InFlightFacts → List (Option AgentFacts)
agent_facts_reached cluster None = cluster.agents
agent_facts_reached cluster (Some message) = agent_facts_reached_at cluster message message.message.to

-- the agents after a message was sent, came or was lost
abbrev pub agent_facts_by_message : Cluster → MessageEvent → List (Option AgentFacts)
agent_facts_by_message cluster (messages.Delivered number) =
    agent_facts_reached cluster (in_flight cluster.facts.flight number)
agent_facts_by_message cluster _ = cluster.agents

-- the agents after what happens to a watchdog: the reset of a machine ends its agent
abbrev pub agent_facts_by_watchdog : List (Option AgentFacts) → WatchdogEvent → List (Option AgentFacts)
agent_facts_by_watchdog agents (watchdogs.Reset member) = agent_facts_without agents member
agent_facts_by_watchdog agents _ = agents

-- the agents after an event
abbrev pub agent_facts_after : Cluster → EventKind → List (Option AgentFacts)
agent_facts_after cluster (kinds.Message happening) = agent_facts_by_message cluster happening
agent_facts_after cluster (kinds.Watchdog happening) = agent_facts_by_watchdog cluster.agents happening
agent_facts_after cluster (kinds.Agent happening) = agent_facts_by cluster happening
agent_facts_after cluster _ = cluster.agents

-- what one more event leaves
abbrev pub cluster_after : Cluster → EventKind → Cluster
cluster_after cluster kind = record {
  scope = cluster.scope;
  options = cluster.options;
  facts = facts_after cluster.facts kind;
  failsafe_deadlines = failsafe_deadlines_after cluster.failsafe_deadlines kind;
  agents = agent_facts_after cluster kind;
}

-- what these events leave
abbrev pub cluster_over : Cluster → List Event → Cluster
cluster_over cluster [] = cluster
cluster_over cluster (event ∷ events) = cluster_over (cluster_after cluster event.kind) events
