-- Counters, each of which an event counts up by one at most, and the
-- numbers of messages, of which an input of an agent takes some.
use Rattle.std.proofs.Common.{◌≡◌, ℕ, ◌+◌, ◌^◌, ◌≤◌, ◌<◌, List, [], All, Option, Some, None, arith, refl, ◌∙◌, ap, sym, subst}
use Rattle.std.specs.Prelude.{option_and_then, slice_get}
use Rattle.std.proofs.lemmas.List.Elements.{All-set}
use Rattle.pat_base.specs.declared.name.Name.{Name}
use Rattle.pat_base.specs.declared.ticks.Ticks.{Ticks}
use Rattle.pat_base.specs.Changes.{changed_at}
use Rattle.lease_store.specs.Keys.{Keys}
use Rattle.pg_model.specs.Facts.{ServerFacts}
use Rattle.event_book.specs.declared.agent_process.AgentProcess.{AgentProcess}
use Rattle.event_book.specs.declared.event.EventKind.{EventKind}
use Rattle.event_book.specs.declared.event.EventKind.TheVariants as kinds
use Rattle.event_book.specs.declared.event.AgentEvent.{AgentEvent}
use Rattle.event_book.specs.declared.event.AgentEvent.TheVariants as agents
use Rattle.event_book.specs.declared.event.MessageEvent.{MessageEvent}
use Rattle.event_book.specs.declared.event.MessageEvent.TheVariants as messages
use Rattle.event_book.specs.declared.event.StoreEvent.{StoreEvent}
use Rattle.event_book.specs.declared.event.StoreEvent.TheVariants as stores
use Rattle.event_book.specs.declared.event.WatchdogEvent.{WatchdogEvent}
use Rattle.event_book.specs.declared.event.WatchdogEvent.TheVariants as watchdogs
use Rattle.event_book.specs.declared.link.LinkEnd.{LinkEnd}
use Rattle.event_book.specs.declared.link.LinkEnd.TheVariants as link_ends
use Rattle.event_book.specs.declared.member.Member.{Member}
use Rattle.event_book.specs.Processes.{with_member_changed, processes_by, processes_by_watchdog, processes_after}
use Rattle.event_book.specs.Clock.{now_after}
use Rattle.event_book.specs.Flight.{InFlightFacts, Flight, in_flight, sent_after}
use Rattle.event_book.specs.Keys.{keys_after}
use Rattle.agent_model.specs.declared.heard.Heard.{Heard}
use Rattle.agent_model.specs.declared.heard.Heard.TheVariants.{Wake, Operated}
use Rattle.agent_model.specs.declared.machine.Machine.{Machine}
use Rattle.agent_model.specs.Agents.{AgentFacts, outcome_from, most_messages}
use Rattle.agent_model.specs.Table.{step}
use Rattle.wal_model.specs.declared.entry.HistoryPoint.{HistoryPoint}
use Rattle.member_options.specs.declared.member_option.MemberOptions.{MemberOptions}
use Rattle.cluster_model.specs.Cluster.{agent_after, agent_facts_after, agent_facts_by, agent_facts_by_message, agent_facts_by_watchdog, agent_facts_moved, agent_facts_reached, agent_facts_reached_at, agent_facts_with, cluster_after}
use Rattle.cluster_model.specs.Hearing.{heard_from}
use Rattle.cluster_model.specs.Inputs.{agent_at, moment_of, outcome_at, outcome_of, outcome_of_heard}
use Rattle.cluster_model.specs.Machines.{machine_of, points_of}
use Rattle.cluster_model.specs.State.{Cluster}
use Rattle.world_model.specs.Comes.{Counts, CountsAgent, CountsMessage}
use Rattle.world_model.specs.Room.{HasNumbers, HasRoom, agent_event_cost, event_cost, hearing_cost, message_event_cost}
use Rattle.agent_cases.proofs.Bounds.{step-small}
use Rattle.world_model.proofs.ServerRooms.{All-at, All-weaker, CountsCommit, HasTimeline, commits-more, remote-room, remote-weaker, servers-room}

with_member_changed-all_at : (X : Type 0) (P Q : X → Type 0) (xs : List X) (n : ℕ) (change : X → X) (found : Option X)
    → slice_get xs n ≡ found → All P xs → ((x : X) → P x → Q x)
    → ((x : X) → slice_get xs n ≡ Some x → P x → Q (change x)) → All Q (changed_at xs n change found)
with_member_changed-all_at X P Q xs n change None is all weaker at = All-weaker X P Q xs weaker all
with_member_changed-all_at X P Q xs n change (Some x) is all weaker at =
    All-set Q xs n (change x) (at x is (All-at X P xs n x all is)) (All-weaker X P Q xs weaker all)

pub with_member_changed-all : (X : Type 0) (P Q : X → Type 0) (xs : List X) (member : Member) (change : X → X)
    → All P xs → ((x : X) → P x → Q x)
    → ((x : X) → slice_get xs member.id.number ≡ Some x → P x → Q (change x))
    → All Q (with_member_changed xs member change)
with_member_changed-all X P Q xs member change all weaker at =
    with_member_changed-all_at X P Q xs member.id.number change (slice_get xs member.id.number) refl all weaker at

now-more : (now : ℕ) (kind : EventKind) → (now_after now kind ≤ now + 1) × (now ≤ now_after now kind)
now-more now kinds.Tick = (omega arith, omega arith)
now-more now _ = (omega arith, omega arith)

store-more : (now : ℕ) (known : Keys) (happening : StoreEvent)
    → (keys_after now known (kinds.Store happening)).revision ≤ known.revision + 1
store-more now known (stores.Granted number by txn standbys) = omega arith
store-more now known _ = omega arith

revision-more : (now : ℕ) (known : Keys) (kind : EventKind) → (keys_after now known kind).revision ≤ known.revision + 1
revision-more now known (kinds.Store happening) = store-more now known happening
revision-more now known _ = omega arith

message-more : (sent : ℕ) (happening : MessageEvent) → CountsMessage sent happening
    → sent_after sent (kinds.Message happening) ≤ sent + 1
message-more sent (messages.Sent number message) counts = counts
message-more sent _ counts = omega arith

sent-more : (cluster : Cluster) (kind : EventKind) → Counts cluster kind
    → sent_after cluster.facts.sent kind ≤ cluster.facts.sent + 1
sent-more cluster (kinds.Message happening) counts = message-more cluster.facts.sent happening counts
sent-more cluster _ counts = omega arith

abbrev HasRun : ℕ → AgentProcess → Type 0
HasRun events state = state.incarnation + events < 2 ^ 60

run-at : (agents : List AgentProcess) (events place : ℕ) (found : Option AgentProcess) (process : AgentProcess)
    → All (HasRun events) agents → slice_get agents place ≡ found → found ≡ Some process → process.incarnation < 2 ^ 60
run-at agents events place found process all is there =
    let has : HasRun events process = All-at AgentProcess (HasRun events) agents place process all (is ∙ there) in
    omega (arith, has)

-- an agent may begin one more run
pub run-below : (cluster : Cluster) (events place : ℕ) (process : AgentProcess) → HasRoom cluster events
    → slice_get cluster.facts.processes place ≡ Some process → process.incarnation < 2 ^ 60
run-below cluster events place process room is =
    run-at cluster.facts.processes events place (slice_get cluster.facts.processes place) process room.runs refl is

run-fewer : (events : ℕ) (state : AgentProcess) → HasRun (1 + events) state → HasRun events state
run-fewer events state room = omega (arith, room)

agents-room : (states : List AgentProcess) (events : ℕ) (happening : AgentEvent) → CountsAgent states happening
    → All (HasRun (1 + events)) states → All (HasRun events) (processes_by states happening)
agents-room states events (agents.Suspended agent) counts all =
    with_member_changed-all AgentProcess _ _ states agent _ all (run-fewer events) (λ state is. run-fewer events state)
agents-room states events (agents.Resumed agent) counts all =
    with_member_changed-all AgentProcess _ _ states agent _ all (run-fewer events) (λ state is. run-fewer events state)
agents-room states events (agents.Killed agent) counts all =
    with_member_changed-all AgentProcess _ _ states agent _ all (run-fewer events) (λ state is. run-fewer events state)
agents-room states events (agents.Started agent incarnation) counts all = with_member_changed-all AgentProcess
    _ _ states agent _ all (run-fewer events) (λ state is room. omega (arith, room, counts state is))
agents-room states events _ counts all = All-weaker AgentProcess _ _ states (run-fewer events) all

agents-watched : (states : List AgentProcess) (events : ℕ) (happening : WatchdogEvent)
    → All (HasRun (1 + events)) states → All (HasRun events) (processes_by_watchdog states happening)
agents-watched states events (watchdogs.Reset member) all =
    with_member_changed-all AgentProcess _ _ states member _ all (run-fewer events) (λ state is. run-fewer events state)
agents-watched states events _ all = All-weaker AgentProcess _ _ states (run-fewer events) all

runs-room : (cluster : Cluster) (events : ℕ) (kind : EventKind) → Counts cluster kind
    → All (HasRun (1 + events)) cluster.facts.processes
    → All (HasRun events) (processes_after cluster.facts.processes kind)
runs-room cluster events (kinds.Agent happening) counts all =
    agents-room cluster.facts.processes events happening counts all
runs-room cluster events (kinds.Watchdog happening) counts all =
    agents-watched cluster.facts.processes events happening all
runs-room cluster events _ counts all = All-weaker AgentProcess _ _ cluster.facts.processes (run-fewer events) all

abbrev Numbered : ℕ → List (Option AgentFacts) → Type 0
Numbered events agents = All (HasNumbers events) agents

pub numbers-fewer : (more fewer : ℕ) → fewer ≤ more → (agent : Option AgentFacts) → HasNumbers more agent
    → HasNumbers fewer agent
numbers-fewer more fewer h None has = tt
numbers-fewer more fewer h (Some agent) has = omega (arith, h, has)

numbered-fewer : (cost events : ℕ) (agents : List (Option AgentFacts)) → Numbered (cost + events) agents
    → Numbered events agents
numbered-fewer cost events agents = All-weaker (Option AgentFacts) (HasNumbers (cost + events))
    (HasNumbers events) agents (numbers-fewer (cost + events) events (omega arith))

stepped : (now : Ticks) (points : List HistoryPoint) (heard : Heard) (events : ℕ) (agent : AgentFacts)
    (machine : Machine) → agent.knows.sequence + (hearing_cost + events) ≤ most_messages
    → (step now points heard (outcome_from agent.role agent.knows machine [])).knows.sequence + events ≤ most_messages
stepped now points heard events agent machine room =
    let small = step-small now points heard (outcome_from agent.role agent.knows machine []) in
    omega (arith, room, small.sequence)

heard-numbers : (now : Ticks) (points : List HistoryPoint) (heard : Heard) (events : ℕ)
    (agent : Option AgentFacts) (machine : Option Machine) → HasNumbers (hearing_cost + events) agent
    → (found : Option AgentFacts) → agent ≡ found
    → HasNumbers events (agent_after (outcome_at now points heard agent machine) found)
heard-numbers now points heard events None machine has found is = subst (HasNumbers events) is tt
heard-numbers now points heard events (Some agent) None has found is =
    subst (HasNumbers events) is (numbers-fewer (hearing_cost + events) events (omega arith) (Some agent) has)
heard-numbers now points heard events (Some agent) (Some machine) has found is =
    stepped now points heard events agent machine has

agent-here : (agents : List (Option AgentFacts)) (place : ℕ) (found : Option AgentFacts)
    → slice_get agents place ≡ Some found → agent_at agents place ≡ found
agent-here agents place found is =
    ap (λ (o : Option (Option AgentFacts)). option_and_then (λ (agent : Option AgentFacts). agent) o) is

input-numbers : (cluster : Cluster) (member : Member) (heard : Heard) (events : ℕ)
    → Numbered (hearing_cost + events) cluster.agents
    → Numbered events (agent_facts_with cluster.agents member (outcome_of cluster member heard))
input-numbers cluster member heard events all =
    with_member_changed-all (Option AgentFacts) (HasNumbers (hearing_cost + events))
    (HasNumbers events) cluster.agents member (agent_after (outcome_of cluster member heard)) all
    (numbers-fewer (hearing_cost + events) events (omega arith))
    (λ found is has. let same = agent-here cluster.agents member.id.number found is in
    heard-numbers (moment_of cluster) (points_of cluster member) heard events (agent_at cluster.agents member.id.number)
    (machine_of cluster member) (subst (HasNumbers (hearing_cost + events)) (sym same) has) found same)

-- an input of an agent takes as many numbers as it may bring messages
pub input-numbers-if : (cluster : Cluster) (member : Member) (heard : Option Heard) (events : ℕ)
    → Numbered (hearing_cost + events) cluster.agents
    → Numbered events (agent_facts_with cluster.agents member (outcome_of_heard cluster member heard))
input-numbers-if cluster member None events all =
    with_member_changed-all (Option AgentFacts) (HasNumbers (hearing_cost + events)) (HasNumbers events)
    cluster.agents member (agent_after None) all (numbers-fewer (hearing_cost + events) events (omega arith))
    (λ found is has. numbers-fewer (hearing_cost + events) events (omega arith) found has)
input-numbers-if cluster member (Some heard) events all = input-numbers cluster member heard events all

moved-numbers : (scope : Name) (options : List MemberOptions) (members : List Member) (now events : ℕ)
    (known : List (Option AgentFacts)) (happening : AgentEvent) → 1 + events ≤ most_messages
    → Numbered (1 + events) known → Numbered events (agent_facts_moved scope options members now known happening)
moved-numbers scope options members now events known (agents.Killed member) enough all =
    with_member_changed-all (Option AgentFacts) (HasNumbers (1 + events)) (HasNumbers events) known member _ all
    (numbers-fewer (1 + events) events (omega arith)) (λ found is has. tt)
moved-numbers scope options members now events known (agents.Started member incarnation) enough all =
    with_member_changed-all (Option AgentFacts) (HasNumbers (1 + events)) (HasNumbers events) known member _ all
    (numbers-fewer (1 + events) events (omega arith)) (λ found is has. omega (arith, enough))
moved-numbers scope options members now events known _ enough all = numbered-fewer 1 events known all

agent-numbers : (cluster : Cluster) (events : ℕ) (happening : AgentEvent)
    → agent_event_cost happening + events ≤ most_messages
    → Numbered (agent_event_cost happening + events) cluster.agents → Numbered events (agent_facts_by cluster happening)
agent-numbers cluster events (agents.Woken member) enough all = input-numbers cluster member Wake events all
agent-numbers cluster events (agents.Operated member action) enough all =
    input-numbers cluster member (Operated action) events all
agent-numbers cluster events happening enough all = moved-numbers cluster.scope cluster.options
    cluster.facts.members cluster.facts.clock events cluster.agents happening enough all

reached-numbers_at : (cluster : Cluster) (events : ℕ) (message : InFlightFacts) (to : LinkEnd)
    → Numbered (hearing_cost + events) cluster.agents → Numbered events (agent_facts_reached_at cluster message to)
reached-numbers_at cluster events message link_ends.Store all = numbered-fewer hearing_cost events cluster.agents all
reached-numbers_at cluster events message (link_ends.Member member) all =
    input-numbers-if cluster member (heard_from cluster message) events all

reached-numbers : (cluster : Cluster) (events : ℕ) (found : Option InFlightFacts)
    → Numbered (hearing_cost + events) cluster.agents → Numbered events (agent_facts_reached cluster found)
reached-numbers cluster events None all = numbered-fewer hearing_cost events cluster.agents all
reached-numbers cluster events (Some message) all = reached-numbers_at cluster events message message.message.to all

message-numbers : (cluster : Cluster) (events : ℕ) (happening : MessageEvent)
    → Numbered (message_event_cost happening + events) cluster.agents
    → Numbered events (agent_facts_by_message cluster happening)
message-numbers cluster events (messages.Delivered number) all =
    reached-numbers cluster events (in_flight cluster.facts.flight number) all
message-numbers cluster events _ all = numbered-fewer 1 events cluster.agents all

watched-numbers : (events : ℕ) (agents : List (Option AgentFacts)) (happening : WatchdogEvent)
    → Numbered (1 + events) agents → Numbered events (agent_facts_by_watchdog agents happening)
watched-numbers events agents (watchdogs.Reset member) all =
    with_member_changed-all (Option AgentFacts) (HasNumbers (1 + events)) (HasNumbers events) agents member _ all
    (numbers-fewer (1 + events) events (omega arith)) (λ found is has. tt)
watched-numbers events agents _ all = numbered-fewer 1 events agents all

agents-numbers : (cluster : Cluster) (events : ℕ) (kind : EventKind) → event_cost kind + events ≤ most_messages
    → Numbered (event_cost kind + events) cluster.agents → Numbered events (agent_facts_after cluster kind)
agents-numbers cluster events (kinds.Message happening) enough all = message-numbers cluster events happening all
agents-numbers cluster events (kinds.Watchdog happening) enough all =
    watched-numbers events cluster.agents happening all
agents-numbers cluster events (kinds.Agent happening) enough all = agent-numbers cluster events happening enough all
agents-numbers cluster events _ enough all = numbered-fewer 1 events cluster.agents all

agent-event-some : (happening : AgentEvent) → 1 ≤ agent_event_cost happening
agent-event-some (agents.Woken member) = omega arith
agent-event-some (agents.Operated member action) = omega arith
agent-event-some _ = omega arith

message-event-some : (happening : MessageEvent) → 1 ≤ message_event_cost happening
message-event-some (messages.Delivered number) = omega arith
message-event-some _ = omega arith

-- each event may count something up
event-some : (kind : EventKind) → 1 ≤ event_cost kind
event-some (kinds.Agent happening) = agent-event-some happening
event-some (kinds.Message happening) = message-event-some happening
event-some _ = omega arith

commit-counts : (cluster : Cluster) (kind : EventKind) → Counts cluster kind → CountsCommit cluster.facts.commits kind
commit-counts cluster (kinds.Log happening) counts = counts
commit-counts cluster _ counts = tt

-- fewer events have room too
pub HasRoom-fewer : (cluster : Cluster) (more fewer : ℕ) → fewer ≤ more → HasRoom cluster more → HasRoom cluster fewer
HasRoom-fewer cluster more fewer h room = record {
  clock = omega (arith, room.clock);
  revision = omega (arith, room.revision);
  sent = omega (arith, room.sent);
  runs = All-weaker AgentProcess (HasRun more) (HasRun fewer) cluster.facts.processes
      (λ state has. omega (arith, has, h)) room.runs;
  numbers = omega (arith, room.numbers, h);
  agents = All-weaker (Option AgentFacts) (HasNumbers more) (HasNumbers fewer) cluster.agents
      (numbers-fewer more fewer h) room.agents;
  timelines = All-weaker ServerFacts (HasTimeline more) (HasTimeline fewer) cluster.facts.servers
      (λ s has. omega (arith, has, h)) room.timelines;
  remote = remote-weaker (HasTimeline more) (HasTimeline fewer) cluster.facts.remote
      (λ s has. omega (arith, has, h)) room.remote;
  commits = omega (arith, room.commits);
}

-- one more event takes its room
pub HasRoom-cluster_after : (cluster : Cluster) (kind : EventKind) (events : ℕ) → Counts cluster kind
    → HasRoom cluster (event_cost kind + events) → HasRoom (cluster_after cluster kind) events
HasRoom-cluster_after cluster kind events counts whole =
    let room = HasRoom-fewer cluster (event_cost kind + events) (1 + events) (omega (arith, event-some kind)) whole in
    record {
      clock = omega (arith, room.clock, (now-more cluster.facts.clock kind).0);
      revision =
          omega (arith, room.revision, revision-more (now_after cluster.facts.clock kind) cluster.facts.keys kind);
      sent = omega (arith, room.sent, sent-more cluster kind counts);
      runs = runs-room cluster events kind counts room.runs;
      numbers = omega (arith, room.numbers);
      agents = agents-numbers cluster events kind whole.numbers whole.agents;
      timelines = servers-room (now_after cluster.facts.clock kind) events cluster.facts.servers cluster.facts.remote
          kind room.timelines room.remote;
      remote = remote-room events cluster.facts.remote kind
          (remote-weaker (HasTimeline (1 + events)) (HasTimeline events) cluster.facts.remote
          (λ s has. omega (arith, has)) room.remote);
      commits =
          omega (arith, room.commits, commits-more cluster.facts.commits kind (commit-counts cluster kind counts));
    }

-- so it is whatever is in flight
pub HasRoom-landed : (cluster : Cluster) (flight : Flight) (events : ℕ) → HasRoom cluster events
    → HasRoom (record cluster { facts = record cluster.facts { flight = flight } }) events
HasRoom-landed cluster flight events room = record {
  clock = room.clock;
  revision = room.revision;
  sent = room.sent;
  runs = room.runs;
  numbers = room.numbers;
  agents = room.agents;
  timelines = room.timelines;
  remote = room.remote;
  commits = room.commits;
}
