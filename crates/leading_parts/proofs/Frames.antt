-- What happens elsewhere leaves a member as it stands.
use Rattle.std.proofs.Common.{ℕ, ◌≡◌, ◌≢◌, ◌==◌, Bool, true, false, cond, List, [], ◌∷◌, Option, Some, None, option_map, slice_get, refl, ap, ◌∙◌}
use Rattle.pat_base.specs.declared.server_state.State.{State}
use Rattle.pat_base.specs.Changes.{with_changed}
use Rattle.pg_model.specs.Facts.{ServerFacts}
use Rattle.event_book.specs.declared.event.AgentEvent.{AgentEvent}
use Rattle.event_book.specs.declared.event.AgentEvent.TheVariants as agents
use Rattle.event_book.specs.declared.event.Event.{Event}
use Rattle.event_book.specs.declared.event.EventKind.{EventKind}
use Rattle.event_book.specs.declared.event.EventKind.TheVariants as kinds
use Rattle.event_book.specs.declared.event.LogEvent.{LogEvent}
use Rattle.event_book.specs.declared.event.LogEvent.TheVariants as logs
use Rattle.event_book.specs.declared.event.MessageEvent.{MessageEvent}
use Rattle.event_book.specs.declared.event.MessageEvent.TheVariants as messages
use Rattle.event_book.specs.declared.event.ReplicationEvent.{ReplicationEvent}
use Rattle.event_book.specs.declared.event.ReplicationEvent.TheVariants as replications
use Rattle.event_book.specs.declared.event.ServerEvent.{ServerEvent}
use Rattle.event_book.specs.declared.event.ServerEvent.TheVariants as servers
use Rattle.event_book.specs.declared.event.WatchdogEvent.{WatchdogEvent}
use Rattle.event_book.specs.declared.event.WatchdogEvent.TheVariants as watchdogs
use Rattle.event_book.specs.declared.link.LinkEnd.{LinkEnd}
use Rattle.event_book.specs.declared.link.LinkEnd.TheVariants as ends
use Rattle.event_book.specs.Flight.{InFlightFacts, in_flight}
use Rattle.event_book.specs.Remote.{server_at}
use Rattle.event_book.specs.Servers.{received_by, copied_by, servers_by, servers_by_log, servers_by_replication}
use Rattle.cluster_model.specs.Cluster.{agent_facts_reached, agent_facts_reached_at, cluster_after, cluster_over}
use Rattle.cluster_model.specs.State.{Cluster}
use Rattle.cluster_model.proofs.Places.{get-changed, get-elsewhere}
use Rattle.leading_parts.specs.Elsewhere.{GoesElsewhere, IsElsewhere, AreElsewhere, StandsSame}

module _ (n : ℕ) where
  abbrev StateOf : List ServerFacts → Option State
  StateOf known = option_map (λ (s : ServerFacts). s.state) (slice_get known n)

  -- a change that leaves states
  mapped : (found : Option ServerFacts) (change : ServerFacts → ServerFacts)
      → ((s : ServerFacts) → (change s).state ≡ s.state)
      → option_map (λ (s : ServerFacts). s.state) (option_map change found)
      ≡ option_map (λ (s : ServerFacts). s.state) found
  mapped None change same = refl
  mapped (Some s) change same = ap Some (same s)

  either : (known : List ServerFacts) (change : ServerFacts → ServerFacts) (here : Bool)
      → ((s : ServerFacts) → (change s).state ≡ s.state)
      → option_map (λ (s : ServerFacts). s.state)
      (cond here (option_map change (slice_get known n)) (slice_get known n))
      ≡ StateOf known
  either known change true same = mapped (slice_get known n) change same
  either known change false same = refl

  state-kept : (known : List ServerFacts) (k : ℕ) (change : ServerFacts → ServerFacts)
      → ((s : ServerFacts) → (change s).state ≡ s.state) → StateOf (with_changed known k change) ≡ StateOf known
  state-kept known k change same =
      ap (option_map (λ (s : ServerFacts). s.state)) (get-changed known k n change) ∙ either known change (n == k) same

  state-elsewhere : (known : List ServerFacts) (k : ℕ) (change : ServerFacts → ServerFacts) → n ≢ k
      → StateOf (with_changed known k change) ≡ StateOf known
  state-elsewhere known k change other =
      ap (option_map (λ (s : ServerFacts). s.state)) (get-elsewhere known k n change other)

  received-kept : (known : List ServerFacts) (k count : ℕ) (upstream : Option ServerFacts)
      → StateOf (received_by known k count upstream) ≡ StateOf known
  received-kept known k count None = refl
  received-kept known k count (Some upstream) = state-kept known k _ (λ s. refl)

  copied-elsewhere : (known : List ServerFacts) (k : ℕ) (source : Option ServerFacts) → n ≢ k
      → StateOf (copied_by known k source) ≡ StateOf known
  copied-elsewhere known k None other = refl
  copied-elsewhere known k (Some source) other = state-elsewhere known k _ other

  pub same-as : (cluster after : Cluster) → after ≡ cluster → StandsSame n cluster after
  same-as cluster after e = record {
    agent = ap (λ (c : Cluster). slice_get c.agents n) e;
    process = ap (λ (c : Cluster). slice_get c.facts.processes n) e;
    deadline = ap (λ (c : Cluster). slice_get c.facts.deadlines n) e;
    basis = ap (λ (c : Cluster). slice_get c.failsafe_deadlines n) e;
    hold = ap (λ (c : Cluster). slice_get c.facts.holds n) e;
    state = ap (λ (c : Cluster). StateOf c.facts.servers) e;
  }

  agents-moved : (cluster : Cluster) (carried : InFlightFacts) (to : LinkEnd) → GoesElsewhere n to
      → slice_get (agent_facts_reached_at cluster carried to) n ≡ slice_get cluster.agents n
  agents-moved cluster carried ends.Store elsewhere = refl
  agents-moved cluster carried (ends.Member member) elsewhere =
      get-elsewhere cluster.agents member.id.number n _ elsewhere

  agents-reached : (cluster : Cluster) (found : Option InFlightFacts)
      → ((carried : InFlightFacts) → found ≡ Some carried → GoesElsewhere n carried.message.to)
      → slice_get (agent_facts_reached cluster found) n ≡ slice_get cluster.agents n
  agents-reached cluster None elsewhere = refl
  agents-reached cluster (Some carried) elsewhere =
      agents-moved cluster carried carried.message.to (elsewhere carried refl)

  same-server : (cluster : Cluster) (happening : ServerEvent) → IsElsewhere n cluster (kinds.Server happening)
      → StateOf (servers_by cluster.facts.clock cluster.facts.servers happening) ≡ StateOf cluster.facts.servers
  same-server cluster (servers.Began server timeline) other =
      state-elsewhere cluster.facts.servers server.id.number _ other
  same-server cluster (servers.Ended server) other = state-elsewhere cluster.facts.servers server.id.number _ other
  same-server cluster (servers.Crashed server) other = state-elsewhere cluster.facts.servers server.id.number _ other
  same-server cluster (servers.Stops server) other = state-elsewhere cluster.facts.servers server.id.number _ other
  same-server cluster (servers.StartsAsPrimary server) other =
      state-elsewhere cluster.facts.servers server.id.number _ other
  same-server cluster (servers.StartsAsReplica server) other =
      state-elsewhere cluster.facts.servers server.id.number _ other
  same-server cluster (servers.Follows server upstream) other =
      state-kept cluster.facts.servers server.id.number _ (λ s. refl)
  same-server cluster (servers.Diverged server upstream at) other =
      state-kept cluster.facts.servers server.id.number _ (λ s. refl)
  same-server cluster (servers.Slowed server stop start) other =
      state-kept cluster.facts.servers server.id.number _ (λ s. refl)
  same-server cluster (servers.Promoted server) other = refl
  same-server cluster (servers.Frozen server) other = refl
  same-server cluster (servers.Thawed server) other = refl

  same-log : (cluster : Cluster) (happening : LogEvent) → IsElsewhere n cluster (kinds.Log happening)
      → StateOf (servers_by_log cluster.facts.servers cluster.facts.remote happening) ≡ StateOf cluster.facts.servers
  same-log cluster (logs.Appended server entry) other = state-kept cluster.facts.servers server.id.number _ (λ s. refl)
  same-log cluster (logs.Received server from count) other =
      received-kept cluster.facts.servers server.id.number count
      (server_at cluster.facts.servers cluster.facts.remote from.id.number)
  same-log cluster (logs.Rewound server from kept at) other =
      state-elsewhere cluster.facts.servers server.id.number _ other
  same-log cluster (logs.Copied server from) other =
      copied-elsewhere cluster.facts.servers server.id.number
      (server_at cluster.facts.servers cluster.facts.remote from.id.number) other
  same-log cluster (logs.Wiped server) other = state-elsewhere cluster.facts.servers server.id.number _ other

  same-replication : (known : List ServerFacts) (happening : ReplicationEvent)
      → StateOf (servers_by_replication known happening) ≡ StateOf known
  same-replication known (replications.RequiredSet server required names) =
      state-kept known server.id.number _ (λ s. refl)
  same-replication known (replications.Confirmed server by end) = state-kept known server.id.number _ (λ s. refl)
  same-replication known (replications.Acknowledged server commit) = state-kept known server.id.number _ (λ s. refl)
  same-replication known (replications.Lacks server) = refl

  same-watchdog : (cluster : Cluster) (happening : WatchdogEvent) → IsElsewhere n cluster (kinds.Watchdog happening)
      → StandsSame n cluster (cluster_after cluster (kinds.Watchdog happening))
  same-watchdog cluster (watchdogs.Armed member until answer) other = record {
    agent = refl;
    process = refl;
    deadline = get-elsewhere cluster.facts.deadlines member.id.number n _ other;
    basis = get-elsewhere cluster.failsafe_deadlines member.id.number n _ other;
    hold = refl;
    state = refl;
  }
  same-watchdog cluster (watchdogs.Fed member until basis) other = record {
    agent = refl;
    process = refl;
    deadline = get-elsewhere cluster.facts.deadlines member.id.number n _ other;
    basis = get-elsewhere cluster.failsafe_deadlines member.id.number n _ other;
    hold = refl;
    state = refl;
  }
  same-watchdog cluster (watchdogs.Disarmed member) other = record {
    agent = refl;
    process = refl;
    deadline = get-elsewhere cluster.facts.deadlines member.id.number n _ other;
    basis = refl;
    hold = refl;
    state = refl;
  }
  same-watchdog cluster (watchdogs.Reset member) other = record {
    agent = get-elsewhere cluster.agents member.id.number n _ other;
    process = get-elsewhere cluster.facts.processes member.id.number n _ other;
    deadline = get-elsewhere cluster.facts.deadlines member.id.number n _ other;
    basis = refl;
    hold = refl;
    state = state-elsewhere cluster.facts.servers member.id.number _ other;
  }
  same-watchdog cluster (watchdogs.Measured member from) other =
      record { agent = refl; process = refl; deadline = refl; basis = refl; hold = refl; state = refl }
  same-watchdog cluster (watchdogs.HoldTaken member until from incarnation sequence) other = record {
    agent = refl;
    process = refl;
    deadline = refl;
    basis = refl;
    hold = get-elsewhere cluster.facts.holds member.id.number n _ other;
    state = refl;
  }

  same-agent : (cluster : Cluster) (happening : AgentEvent) → IsElsewhere n cluster (kinds.Agent happening)
      → StandsSame n cluster (cluster_after cluster (kinds.Agent happening))
  same-agent cluster (agents.Woken agent) other = record {
    agent = get-elsewhere cluster.agents agent.id.number n _ other;
    process = refl;
    deadline = refl;
    basis = refl;
    hold = refl;
    state = refl;
  }
  same-agent cluster (agents.Operated agent action) other = record {
    agent = get-elsewhere cluster.agents agent.id.number n _ other;
    process = refl;
    deadline = refl;
    basis = refl;
    hold = refl;
    state = refl;
  }
  same-agent cluster (agents.Suspended agent) other = record {
    agent = refl;
    process = get-elsewhere cluster.facts.processes agent.id.number n _ other;
    deadline = refl;
    basis = refl;
    hold = refl;
    state = refl;
  }
  same-agent cluster (agents.Resumed agent) other = record {
    agent = refl;
    process = get-elsewhere cluster.facts.processes agent.id.number n _ other;
    deadline = refl;
    basis = refl;
    hold = refl;
    state = refl;
  }
  same-agent cluster (agents.Killed agent) other = record {
    agent = get-elsewhere cluster.agents agent.id.number n _ other;
    process = get-elsewhere cluster.facts.processes agent.id.number n _ other;
    deadline = refl;
    basis = refl;
    hold = refl;
    state = refl;
  }
  same-agent cluster (agents.Started agent incarnation) other = record {
    agent = get-elsewhere cluster.agents agent.id.number n _ other;
    process = get-elsewhere cluster.facts.processes agent.id.number n _ other;
    deadline = refl;
    basis = refl;
    hold = refl;
    state = refl;
  }
  same-agent cluster (agents.Passed agent) other =
      record { agent = refl; process = refl; deadline = refl; basis = refl; hold = refl; state = refl }

  same-message : (cluster : Cluster) (happening : MessageEvent) → IsElsewhere n cluster (kinds.Message happening)
      → StandsSame n cluster (cluster_after cluster (kinds.Message happening))
  same-message cluster (messages.Delivered number) other = record {
    agent = agents-reached cluster (in_flight cluster.facts.flight number) other;
    process = refl;
    deadline = refl;
    basis = refl;
    hold = refl;
    state = refl;
  }
  same-message cluster (messages.Sent number message) other =
      record { agent = refl; process = refl; deadline = refl; basis = refl; hold = refl; state = refl }
  same-message cluster (messages.Lost number) other =
      record { agent = refl; process = refl; deadline = refl; basis = refl; hold = refl; state = refl }

  same-after : (cluster : Cluster) (kind : EventKind) → IsElsewhere n cluster kind
      → StandsSame n cluster (cluster_after cluster kind)
  same-after cluster kinds.Tick other = absurd other
  same-after cluster (kinds.Message happening) other = same-message cluster happening other
  same-after cluster (kinds.Store happening) other =
      record { agent = refl; process = refl; deadline = refl; basis = refl; hold = refl; state = refl }
  same-after cluster (kinds.Watchdog happening) other = same-watchdog cluster happening other
  same-after cluster (kinds.Server happening) other = record {
    agent = refl;
    process = refl;
    deadline = refl;
    basis = refl;
    hold = refl;
    state = same-server cluster happening other;
  }
  same-after cluster (kinds.Log happening) other = record {
    agent = refl;
    process = refl;
    deadline = refl;
    basis = refl;
    hold = refl;
    state = same-log cluster happening other;
  }
  same-after cluster (kinds.Replication happening) other = record {
    agent = refl;
    process = refl;
    deadline = refl;
    basis = refl;
    hold = refl;
    state = same-replication cluster.facts.servers happening;
  }
  same-after cluster (kinds.Agent happening) other = same-agent cluster happening other
  same-after cluster (kinds.Link happening) other =
      record { agent = refl; process = refl; deadline = refl; basis = refl; hold = refl; state = refl }
  same-after cluster (kinds.Note note) other =
      record { agent = refl; process = refl; deadline = refl; basis = refl; hold = refl; state = refl }

  pub same-then : (first second third : Cluster) → StandsSame n first second → StandsSame n second third
      → StandsSame n first third
  same-then first second third a b = record {
    agent = b.agent ∙ a.agent;
    process = b.process ∙ a.process;
    deadline = b.deadline ∙ a.deadline;
    basis = b.basis ∙ a.basis;
    hold = b.hold ∙ a.hold;
    state = b.state ∙ a.state;
  }

  pub same-over : (cluster : Cluster) (events : List Event) → AreElsewhere n cluster events
      → StandsSame n cluster (cluster_over cluster events)
  same-over cluster [] all = same-as cluster cluster refl
  same-over cluster (event ∷ events) all =
      let later : Cluster = cluster_after cluster event.kind in
      same-then cluster later (cluster_over later events) (same-after cluster event.kind all.0)
      (same-over later events all.1)
