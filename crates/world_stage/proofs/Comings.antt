-- What happens keeps what a world keeps.
use Rattle.std.proofs.Common.{◌≡◌, ◌≤◌, arith, ℕ, Bool, List, [], ◌∷◌, Option, None, refl, ◌∙◌, ap, sym}
use Rattle.pat_base.specs.declared.ticks.Ticks.{Ticks}
use Rattle.lease_store.specs.Keys.{Keys}
use Rattle.pg_model.specs.Facts.{ServerFacts}
use Rattle.event_book.specs.declared.agent_process.AgentProcess.{AgentProcess}
use Rattle.event_book.specs.declared.event.EventKind.{EventKind}
use Rattle.event_book.specs.declared.event.EventKind.TheVariants as kinds
use Rattle.event_book.specs.declared.event.AgentEvent.{AgentEvent}
use Rattle.event_book.specs.declared.event.AgentEvent.TheVariants as agents
use Rattle.event_book.specs.declared.event.MessageEvent.{MessageEvent}
use Rattle.event_book.specs.declared.event.MessageEvent.TheVariants as messages
use Rattle.event_book.specs.Acknowledged.{acknowledged_after, commits_after}
use Rattle.event_book.specs.Clock.{now_after}
use Rattle.event_book.specs.Flight.{Flight, flight_after, sent_after}
use Rattle.event_book.specs.Frozen.{frozen_after}
use Rattle.event_book.specs.Keys.{keys_after}
use Rattle.event_book.specs.Links.{CutLinks, cuts_after}
use Rattle.event_book.specs.Processes.{processes_after}
use Rattle.event_book.specs.Servers.{remote_after, remote_by_log, servers_after}
use Rattle.event_book.specs.Watchdogs.{deadlines_after, holds_after}
use Rattle.event_book.specs.declared.event.LogEvent.{LogEvent}
use Rattle.event_book.specs.declared.event.LogEvent.TheVariants as logs
use Rattle.event_list.specs.Listed.{Listed, ◌+++◌}
use Rattle.agent_model.specs.Agents.{AgentFacts}
use Rattle.cluster_model.specs.Cluster.{agent_facts_after, agent_facts_by, agent_facts_by_message, agent_facts_moved, cluster_after}
use Rattle.cluster_model.specs.FailsafeDeadlines.{failsafe_deadlines_after}
use Rattle.cluster_model.specs.State.{Cluster}
use Rattle.world_model.specs.Apart.{agents_apart}
use Rattle.world_model.specs.Comes.{Counts, IsBare}
use Rattle.cluster_model.specs.Parts.{event_of}
use Rattle.world_model.specs.Emits.{Emits}
use Rattle.world_model.specs.Room.{agent_event_cost, event_cost, message_event_cost}
use Rattle.world_model.proofs.Deciding.{stamped-is}
use Rattle.world_model.proofs.Taking.{Emits-one, Emits-weaker}

-- what sends no message leaves the number of the last one
pub sent-same : (last : ℕ) (kind : EventKind) → IsBare kind → sent_after last kind ≡ last
sent-same last (kinds.Message (messages.Sent number message)) bare = absurd bare
sent-same last _ bare = refl

-- one thing happened, and was written down
pub Emits-told : (before after : Cluster) (tick : Ticks) (kind : EventKind) (had has : Listed)
    → Counts before kind → after ≡ cluster_after before kind → tick.0 ≡ after.facts.clock
    → has ≡ had +++ record { tick = tick; kind = kind } ∷ []
    → Emits before after had has (event_of before kind) (event_cost kind)
Emits-told before after tick kind had has counts state at told =
    Emits-one before after had has kind counts state
    (told ∙ ap (λ es. had +++ es) (stamped-is before tick kind (at ∙ ap (λ (c : Cluster). c.facts.clock) state)))

bare-agent : (happening : AgentEvent) → IsBare (kinds.Agent happening) → agent_event_cost happening ≤ 1
bare-agent (agents.Woken member) bare = absurd bare
bare-agent (agents.Operated member action) bare = absurd bare
bare-agent _ bare = omega arith

bare-message : (happening : MessageEvent) → IsBare (kinds.Message happening) → message_event_cost happening ≤ 1
bare-message (messages.Delivered number) bare = absurd bare
bare-message _ bare = omega arith

-- what brings nothing but itself is no input of an agent
bare-cost : (kind : EventKind) → IsBare kind → event_cost kind ≤ 1
bare-cost (kinds.Agent happening) bare = bare-agent happening bare
bare-cost (kinds.Message happening) bare = bare-message happening bare
bare-cost _ bare = omega arith

pub Emits-bare : (before after : Cluster) (tick : Ticks) (kind : EventKind) (had has : Listed) → IsBare kind
    → Counts before kind → after ≡ cluster_after before kind → tick.0 ≡ after.facts.clock
    → has ≡ had +++ record { tick = tick; kind = kind } ∷ []
    → Emits before after had has (event_of before kind) 1
Emits-bare before after tick kind had has bare counts state at told =
    Emits-weaker before after had has (event_of before kind) (event_cost kind) 1
    (Emits-told before after tick kind had has counts state at told) (bare-cost kind bare)

-- what becomes of agents where nothing is brought that they act on
agents-apart-by : (cluster : Cluster) (happening : AgentEvent) → IsBare (kinds.Agent happening)
    → agent_facts_by cluster happening
    ≡ agent_facts_moved cluster.scope cluster.options cluster.facts.members cluster.facts.clock cluster.agents happening
agents-apart-by cluster (agents.Woken member) bare = absurd bare
agents-apart-by cluster (agents.Operated member action) bare = absurd bare
agents-apart-by cluster _ bare = refl

agents-apart-message : (cluster : Cluster) (happening : MessageEvent) → IsBare (kinds.Message happening)
    → agent_facts_by_message cluster happening ≡ cluster.agents
agents-apart-message cluster (messages.Delivered number) bare = absurd bare
agents-apart-message cluster _ bare = refl

pub agents-apart : (cluster : Cluster) (kind : EventKind) → IsBare kind
    → agent_facts_after cluster kind
    ≡ agents_apart cluster.scope cluster.options cluster.facts.members cluster.facts.clock cluster.agents kind
agents-apart cluster (kinds.Agent happening) bare = agents-apart-by cluster happening bare
agents-apart cluster (kinds.Message happening) bare = agents-apart-message cluster happening bare
agents-apart cluster _ bare = refl

-- where there is no remote, none comes
absent-logged : (happening : LogEvent) → remote_by_log None happening ≡ None
absent-logged (logs.Appended server entry) = refl
absent-logged _ = refl

pub remote-absent : (kind : EventKind) → remote_after None kind ≡ None
remote-absent (kinds.Log happening) = absent-logged happening
remote-absent _ = refl

-- a cluster with these fields
abbrev pub changed : Cluster → ℕ → Keys → List AgentProcess → CutLinks → Flight → ℕ → List ServerFacts
    → Option ServerFacts → List Bool → List (Option Ticks) → List Bool → List (Option Ticks) → ℕ → List ℕ
    → List (Option AgentFacts) → Cluster
changed cluster clock keys processes cuts flight sent servers remote frozen deadlines failsafe_deadlines holds commits
    acknowledged agents =
    record {
      scope = cluster.scope;
      options = cluster.options;
      facts = record {
        clock = clock;
        keys = keys;
        members = cluster.facts.members;
        processes = processes;
        cuts = cuts;
        flight = flight;
        sent = sent;
        servers = servers;
        remote = remote;
        frozen = frozen;
        deadlines = deadlines;
        holds = holds;
        commits = commits;
        acknowledged = acknowledged;
      };
      failsafe_deadlines = failsafe_deadlines;
      agents = agents;
    }

-- where each field is what a happening leaves of it, the cluster is what that leaves
pub changed-is : (cluster : Cluster) (kind : EventKind) (clock : ℕ) (keys : Keys) (processes : List AgentProcess)
    (cuts : CutLinks) (flight : Flight) (sent : ℕ) (servers : List ServerFacts) (remote : Option ServerFacts)
    (frozen : List Bool)
    (deadlines : List (Option Ticks)) (failsafe_deadlines : List Bool) (holds : List (Option Ticks))
    (commits : ℕ) (acknowledged : List ℕ) (agents : List (Option AgentFacts)) → IsBare kind
    → clock ≡ now_after cluster.facts.clock kind → keys ≡ keys_after clock cluster.facts.keys kind
    → processes ≡ processes_after cluster.facts.processes kind
    → cuts ≡ cuts_after cluster.facts.cuts kind
    → flight ≡ flight_after cluster.facts.clock cluster.facts.keys cluster.facts.flight kind
    → sent ≡ sent_after cluster.facts.sent kind
    → servers ≡ servers_after clock cluster.facts.servers cluster.facts.remote kind
    → remote ≡ remote_after cluster.facts.remote kind
    → frozen ≡ frozen_after cluster.facts.frozen kind → deadlines ≡ deadlines_after cluster.facts.deadlines kind
    → failsafe_deadlines ≡ failsafe_deadlines_after cluster.failsafe_deadlines kind
    → holds ≡ holds_after cluster.facts.holds kind → commits ≡ commits_after cluster.facts.commits kind
    → acknowledged ≡ acknowledged_after cluster.facts.acknowledged kind
    → agents ≡ agents_apart cluster.scope cluster.options cluster.facts.members cluster.facts.clock cluster.agents kind
    → changed cluster clock keys processes cuts flight sent servers remote frozen deadlines failsafe_deadlines holds
    commits acknowledged agents
    ≡ cluster_after cluster kind
changed-is cluster kind clock keys processes cuts flight sent servers remote frozen deadlines
    failsafe_deadlines holds commits
    acknowledged agents bare clock_is keys_is processes_is cuts_is flight_is sent_is servers_is remote_is frozen_is
    deadlines_is failsafe_is holds_is commits_is acknowledged_is agents_are =
    let agents_so : agents ≡ agent_facts_after cluster kind = agents_are ∙ sym (agents-apart cluster kind bare) in
    rw (
      agents_so,
      acknowledged_is,
      commits_is,
      holds_is,
      failsafe_is,
      deadlines_is,
      frozen_is,
      remote_is,
      servers_is,
      sent_is,
      flight_is,
      cuts_is,
      processes_is,
      keys_is,
      clock_is,
    ) refl
