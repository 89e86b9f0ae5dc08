-- What the law of kept commits reads of a run in synchronous mode.
use Rattle.std.specs.Prelude.{ℕ, false, List, Option, Some, None, option_map, slice_get}
use Rattle.script_model.specs.Script.{HeadText, names_of}
use Rattle.event_book.specs.declared.event.Event.{Event}
use Rattle.event_book.specs.Facts.{Facts, start_of}
use Rattle.event_book.specs.Logs.{logs_in}
use Rattle.event_book.specs.Required.{confirmed_in, required_in}
use Rattle.agent_model.specs.Agents.{AgentFacts}
use Rattle.agent_commit_law.specs.Committing.{committer_seen}
use Rattle.cluster_model.specs.State.{Cluster}
use Rattle.commit_actions.specs.Actions.{fresh_agent}
use Rattle.commit_actions.specs.Past.{Past, Setup, VolatileState, first_past, past_over, state_of}
use Rattle.commit_actions.specs.States.{Agent, State}
use Rattle.commit_servers.specs.Matching.{live_in}
use Rattle.run_promise.specs.Members.{member_count}

-- how many members a head declares. In synchronous mode no create of the leader key compares the sync key
abbrev pub setup_of : HeadText → Setup
setup_of head = record { member_count = member_count head; creates_compare = false }

-- the past of a cluster that this is the beginning of
abbrev pub first_past_of : Facts → Past
first_past_of start = first_past (logs_in start) (required_in start.servers) (confirmed_in start.servers)

-- what commits read of this book over the cluster of this head
abbrev pub past_of : HeadText → List Event → Past
past_of head book = past_over (first_past_of (start_of head.config (names_of head) head.base)) book

-- the agent of a member, if one runs; past the members all is as before the first event
abbrev pub agent_now : Option (Option AgentFacts) → Option Agent
agent_now None = Some (fresh_agent 1)
agent_now (Some agent) = option_map (λ (a : AgentFacts). committer_seen a.role a.knows) agent

-- what no event says of a member, by a cluster: whether its server is live, and its agent
abbrev pub volatile_of : Cluster → ℕ → VolatileState
volatile_of cluster m =
    record { live = live_in cluster.facts.servers m; agent = agent_now (slice_get cluster.agents m) }

-- the state of the law behind this book and cluster
abbrev pub state_of_run : HeadText → List Event → Cluster → State
state_of_run head book cluster = state_of (setup_of head) (past_of head book) (volatile_of cluster)
