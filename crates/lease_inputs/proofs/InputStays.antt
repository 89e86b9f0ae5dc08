-- What an input of an agent leaves as it was, beside its member's machine.
use Rattle.std.proofs.Common.{◌≡◌, ◌≢◌, ℕ, List, [], ◌∷◌, Some, All, slice_get, option_map, refl, sym, ap, ◌∙◌, Option, Some, None}
use Rattle.std.proofs.lemmas.List.Elements.{All-head, All-tail}
use Rattle.pat_base.specs.Changes.{with_changed}
use Rattle.pg_model.specs.Facts.{ServerFacts}
use Rattle.event_book.specs.declared.agent_process.AgentProcess.{AgentProcess}
use Rattle.event_book.specs.declared.event.Event.{Event}
use Rattle.event_book.specs.declared.event.AgentEvent.TheVariants as agents
use Rattle.event_book.specs.declared.event.EventKind.{EventKind}
use Rattle.event_book.specs.declared.event.EventKind.TheVariants as kinds
use Rattle.event_book.specs.declared.event.MessageEvent.TheVariants.{Sent, Delivered, Lost}
use Rattle.event_book.specs.declared.event.LogEvent.{LogEvent}
use Rattle.event_book.specs.declared.event.LogEvent.TheVariants as logs
use Rattle.event_book.specs.declared.event.ReplicationEvent.TheVariants as replications
use Rattle.event_book.specs.declared.event.ServerEvent.TheVariants as servers
use Rattle.event_book.specs.declared.event.ServerEvent.{ServerEvent}
use Rattle.event_book.specs.declared.event.WatchdogEvent.TheVariants as watchdogs
use Rattle.event_book.specs.declared.member.Member.{Member}
use Rattle.event_book.specs.declared.member.ServerOf.{ServerOf}
use Rattle.event_book.specs.Facts.{Facts}
use Rattle.event_book.specs.Processes.{processes_after}
use Rattle.event_book.specs.Clock.{now_after}
use Rattle.event_book.specs.Members.{server_of}
use Rattle.event_book.specs.Remote.{server_at}
use Rattle.event_book.specs.Servers.{servers_after, becomes_copy, copied_by, servers_by, servers_by_log}
use Rattle.agent_model.specs.declared.output.Output.{Output}
use Rattle.agent_outputs.specs.Orders.{IsOfTable}
use Rattle.cluster_model.specs.declared.heard_message.HeardMessage.{HeardMessage}
use Rattle.cluster_model.specs.Cluster.{agent_facts_after, cluster_after, cluster_over}
use Rattle.cluster_model.specs.Messages.{output_events}
use Rattle.cluster_model.specs.Parts.{each}
use Rattle.cluster_model.specs.State.{Cluster}
use Rattle.event_book.specs.Kinds.{AllAre}
use Rattle.cluster_model.proofs.Lists.{all-both}
use Rattle.lease_inputs.specs.InputEvents.{IsOfInput, RunsAmong}
use Rattle.lease_inputs.proofs.InputEvents.{output-mine}
use Rattle.cluster_model.proofs.Places.{get-here, get-elsewhere}

-- what stays as it was beside the machine of the member of this number, but for messages
pub record Stays (m : ℕ) (cluster later : Cluster) : Type 0 where
  pub agents : later.agents ≡ cluster.agents
  pub processes : later.facts.processes ≡ cluster.facts.processes
  pub members : later.facts.members ≡ cluster.facts.members
  pub clock : later.facts.clock ≡ cluster.facts.clock
  pub servers : (n : ℕ) → n ≢ m → slice_get later.facts.servers n ≡ slice_get cluster.facts.servers n

pub stays-same : (m : ℕ) (cluster : Cluster) → Stays m cluster cluster
stays-same m cluster =
    record { agents = refl; processes = refl; members = refl; clock = refl; servers = λ n other. refl }

pub stays-then : (m : ℕ) (a b c : Cluster) → Stays m a b → Stays m b c → Stays m a c
stays-then m a b c first second = record {
  agents = second.agents ∙ first.agents;
  processes = second.processes ∙ first.processes;
  members = second.members ∙ first.members;
  clock = second.clock ∙ first.clock;
  servers = λ n other. second.servers n other ∙ first.servers n other;
}

-- the item of its own
pub item-here : {A : Type 0} (xs : List A) (k : ℕ) (change : A → A) (x : A) → slice_get xs k ≡ Some x
    → slice_get (with_changed xs k change) k ≡ Some (change x)
item-here xs k change x is = get-here xs k change ∙ ap (option_map change) is

-- ---- one event of an input
module _ (member : Member) (incarnation heard : ℕ) (Q : Output → Type 0) where
  abbrev Mine : EventKind → Type 0
  Mine kind = IsOfInput member incarnation heard Q kind

  agents-one : (cluster : Cluster) (kind : EventKind) → Mine kind → agent_facts_after cluster kind ≡ cluster.agents
  agents-one cluster (kinds.Message (Sent number message)) is = refl
  agents-one cluster (kinds.Message (Delivered number)) is = absurd is
  agents-one cluster (kinds.Message (Lost number)) is = refl
  agents-one cluster (kinds.Watchdog (watchdogs.Reset by)) is = absurd is
  agents-one cluster (kinds.Agent (agents.Passed by)) is = refl
  agents-one cluster (kinds.Agent _) is = absurd is
  agents-one cluster _ is = refl

  processes-one : (processes : List AgentProcess) (kind : EventKind) → Mine kind
      → processes_after processes kind ≡ processes
  processes-one processes (kinds.Watchdog (watchdogs.Reset by)) is = absurd is
  processes-one processes (kinds.Agent (agents.Passed by)) is = refl
  processes-one processes (kinds.Agent _) is = absurd is
  processes-one processes _ is = refl

  pub clock-one : (now : ℕ) (kind : EventKind) → Mine kind → now_after now kind ≡ now
  clock-one now kinds.Tick is = absurd is
  clock-one now _ is = refl

  other-one : (known : List ServerFacts) (server : ServerOf) (change : ServerFacts → ServerFacts) (n : ℕ)
      → n ≢ member.id.number → server ≡ server_of member
      → slice_get (with_changed known server.id.number change) n ≡ slice_get known n
  other-one known server change n other is =
      get-elsewhere known server.id.number n change (λ e. other (e ∙ ap (λ (s : ServerOf). s.id.number) is))

  servers-here : (now : ℕ) (known : List ServerFacts) (happening : ServerEvent) → Mine (kinds.Server happening)
      → (n : ℕ) → n ≢ member.id.number → slice_get (servers_by now known happening) n ≡ slice_get known n
  servers-here now known (servers.Began server timeline) is n other = other-one known server _ n other is.0
  servers-here now known (servers.StartsAsPrimary server) is n other = other-one known server _ n other is
  servers-here now known (servers.StartsAsReplica server) is n other = other-one known server _ n other is
  servers-here now known (servers.Follows server upstream) is n other = other-one known server _ n other is
  servers-here now known (servers.Ended server) is n other = other-one known server _ n other is
  servers-here now known (servers.Stops server) is n other = other-one known server _ n other is
  servers-here now known _ is n other = absurd is

  copied-one : (known : List ServerFacts) (server : ServerOf) (source : Option ServerFacts) (n : ℕ)
      → n ≢ member.id.number → server ≡ server_of member
      → slice_get (copied_by known server.id.number source) n ≡ slice_get known n
  copied-one known server None n other is = refl
  copied-one known server (Some source) n other is = other-one known server (becomes_copy source) n other is

  logs-by : (known : List ServerFacts) (remote : Option ServerFacts) (happening : LogEvent)
      → Mine (kinds.Log happening) → (n : ℕ) → n ≢ member.id.number
      → slice_get (servers_by_log known remote happening) n ≡ slice_get known n
  logs-by known remote (logs.Rewound server from kept at) is n other = other-one known server _ n other is
  logs-by known remote (logs.Copied server from) is n other =
      copied-one known server (server_at known remote from.id.number) n other is
  logs-by known remote (logs.Wiped server) is n other = other-one known server _ n other is
  logs-by known remote _ is n other = absurd is

  servers-one : (now : ℕ) (known : List ServerFacts) (remote : Option ServerFacts) (kind : EventKind) → Mine kind
      → (n : ℕ) → n ≢ member.id.number → slice_get (servers_after now known remote kind) n ≡ slice_get known n
  servers-one now known remote (kinds.Server happening) is n other = servers-here now known happening is n other
  servers-one now known remote (kinds.Replication (replications.RequiredSet server required names)) is n other =
      other-one known server _ n other is
  servers-one now known remote (kinds.Replication (replications.Lacks server)) is n other = refl
  servers-one now known remote (kinds.Replication _) is n other = absurd is
  servers-one now known remote (kinds.Log happening) is n other = logs-by known remote happening is n other
  servers-one now known remote (kinds.Watchdog (watchdogs.Reset by)) is n other = absurd is
  servers-one now known remote kinds.Tick is n other = absurd is
  servers-one now known remote _ is n other = refl

  pub stays-one : (cluster : Cluster) (kind : EventKind) → Mine kind
      → Stays member.id.number cluster (cluster_after cluster kind)
  stays-one cluster kind is = record {
    agents = agents-one cluster kind is;
    processes = processes-one cluster.facts.processes kind is;
    members = refl;
    clock = clock-one cluster.facts.clock kind is;
    servers = servers-one (now_after cluster.facts.clock kind) cluster.facts.servers cluster.facts.remote kind is;
  }

  pub stays-over : (cluster : Cluster) (events : List Event) → AllAre Mine events
      → Stays member.id.number cluster (cluster_over cluster events)
  stays-over cluster [] all = stays-same member.id.number cluster
  stays-over cluster (event ∷ events) all =
      stays-then member.id.number cluster (cluster_after cluster event.kind)
      (cluster_over (cluster_after cluster event.kind) events) (stays-one cluster event.kind all.0)
      (stays-over (cluster_after cluster event.kind) events all.1)

  -- ---- all outputs of an input
  abbrev Runs : Facts → Type 0
  Runs facts = RunsAmong member incarnation facts

  pub runs-over : (cluster later : Cluster) → Stays member.id.number cluster later → Runs cluster.facts
      → Runs later.facts
  runs-over cluster later stays runs = record {
    process = λ process is.
        runs.process process (ap (λ (l : List AgentProcess). slice_get l member.id.number) (sym stays.processes) ∙ is);
    numbered = λ n peer is. runs.numbered n peer (ap (λ (l : List Member). slice_get l n) (sym stays.members) ∙ is);
  }

  pub each-mine : (cluster : Cluster) (message : HeardMessage) → message.number ≡ heard → Runs cluster.facts
      → (outs : List Output) → All IsOfTable outs → All Q outs
      → AllAre Mine (each (output_events member message) cluster outs)
  each-mine cluster message at runs [] table all = tt
  each-mine cluster message at runs (output ∷ more) table all =
      let first = output-mine member incarnation heard Q cluster message at runs output
      (All-head IsOfTable output more table) (All-head Q output more all) in
      let events = output_events member message cluster output in
      let later = cluster_over cluster events in
      let stays = stays-over cluster events first in
      all-both Mine events (each (output_events member message) later more) first
      (each-mine later message at (runs-over cluster later stays runs) more
      (All-tail IsOfTable output more table) (All-tail Q output more all))
