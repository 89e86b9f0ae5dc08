-- What becomes of agents without their doing.
use Rattle.std.specs.Prelude.{ℕ, List, Option}
use Rattle.pat_base.specs.declared.name.Name.{Name}
use Rattle.member_options.specs.declared.member_option.MemberOptions.{MemberOptions}
use Rattle.event_book.specs.declared.event.EventKind.{EventKind}
use Rattle.event_book.specs.declared.event.EventKind.TheVariants as kinds
use Rattle.event_book.specs.declared.member.Member.{Member}
use Rattle.agent_model.specs.Agents.{AgentFacts}
use Rattle.cluster_model.specs.Cluster.{agent_facts_by_watchdog, agent_facts_moved}

-- the agents of a cluster of this name with these members, of whom these options
-- are declared, after a happening of this moment that is no input of one
abbrev pub agents_apart : Name → List MemberOptions → List Member → ℕ → List (Option AgentFacts) → EventKind
    → List (Option AgentFacts)
agents_apart scope options members now agents (kinds.Agent happening) =
    agent_facts_moved scope options members now agents happening
agents_apart scope options members now agents (kinds.Watchdog happening) = agent_facts_by_watchdog agents happening
agents_apart scope options members now agents _ = agents
