-- What there is before the first event.
use Rattle.std.specs.Prelude.{false, List, [], Option, Some, map, length, replicate}
use Rattle.pat_base.specs.declared.name.Name.{Name}
use Rattle.member_options.specs.declared.member_option.MemberOptions.{MemberOptions}
use Rattle.script_model.specs.Script.{HeadText, MemberText, names_of}
use Rattle.event_book.specs.declared.member.Member.{Member}
use Rattle.event_book.specs.Facts.{start_of}
use Rattle.agent_model.specs.Agents.{AgentFacts}
use Rattle.cluster_model.specs.Inputs.{starting_agent}
use Rattle.cluster_model.specs.Machines.{who_of}
use Rattle.cluster_model.specs.State.{Cluster}

-- what a head declares of its members beside their names
abbrev pub options_of : HeadText → List MemberOptions
options_of head = map (λ (member : MemberText). member.options) head.members

-- the cluster of a head, but for its agents
abbrev pub cluster_without_agents : HeadText → Cluster
cluster_without_agents head = record {
  scope = head.cluster;
  options = options_of head;
  facts = start_of head.config (names_of head) head.base;
  failsafe_deadlines = replicate (length (names_of head)) false;
  agents = [];
}

-- the agent of a member at the beginning, in its first incarnation:
-- that of member number i has its first turn at tick i + 1
abbrev pub first_agent : Name → List MemberOptions → List Member → Member → Option AgentFacts
first_agent scope options members member =
    Some (starting_agent (who_of scope options members member) member.id.number 1)

-- the cluster of a head, before the first event
abbrev pub cluster_of : HeadText → Cluster
cluster_of head =
    let cluster = cluster_without_agents head in
    record cluster {
      agents = map (first_agent head.cluster cluster.options cluster.facts.members) cluster.facts.members;
    }
