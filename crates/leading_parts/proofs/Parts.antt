-- Parts of a step at other members, and beside agents: they happen elsewhere, and leave the key store.
use Rattle.std.proofs.Common.{ℕ, ◌≡◌, ◌≢◌, ◌+◌, ◌==◌, Bool, true, false, cond, List, [], ◌∷◌, Option, Some, None, option_map, slice_get, refl, sym, ap, subst, ◌∙◌}
use Rattle.pat_base.specs.declared.lsn.Lsn.{Lsn}
use Rattle.pat_base.specs.declared.server_state.State.{State}
use Rattle.pat_base.specs.declared.server_state.State.TheVariants as states
use Rattle.pat_base.specs.declared.ticks.Ticks.{Ticks}
use Rattle.pat_base.specs.ServerState.{live}
use Rattle.wal_model.specs.declared.entry.Entry.{Entry}
use Rattle.wal_model.specs.Lacking.{lacks_in}
use Rattle.pg_cluster.specs.Servers.{entry_for, news_at}
use Rattle.pg_model.specs.declared.answers.Streamed.{Streamed}
use Rattle.pg_model.specs.declared.answers.Streamed.TheVariants as streams
use Rattle.pg_model.specs.Facts.{ServerFacts, entries_of, is_replica}
use Rattle.script_model.specs.declared.line.Command.{Command}
use Rattle.event_book.specs.declared.agent_process.AgentProcess.{AgentProcess}
use Rattle.event_book.specs.declared.event.AgentEvent.TheVariants as agents
use Rattle.event_book.specs.declared.event.EventKind.{EventKind}
use Rattle.event_book.specs.declared.event.EventKind.TheVariants as kinds
use Rattle.event_book.specs.declared.event.LogEvent.TheVariants as logs
use Rattle.event_book.specs.declared.event.Note.TheVariants.{AlreadyRunning}
use Rattle.event_book.specs.declared.event.ReplicationEvent.{ReplicationEvent}
use Rattle.event_book.specs.declared.event.ReplicationEvent.TheVariants as replications
use Rattle.event_book.specs.declared.event.ServerEvent.TheVariants as servers
use Rattle.event_book.specs.declared.event.WatchdogEvent.TheVariants.{Disarmed}
use Rattle.event_book.specs.declared.member.Member.{Member}
use Rattle.event_book.specs.declared.member.ServerOf.{ServerOf}
use Rattle.event_book.specs.Kinds.{AllAre}
use Rattle.event_book.specs.Members.{server_of}
use Rattle.agent_model.specs.declared.machine.Machine.{Machine}
use Rattle.cluster_model.specs.Acknowledging.{acknowledge_kinds, acknowledgements, ready_commits}
use Rattle.cluster_model.specs.Cluster.{cluster_after}
use Rattle.cluster_model.specs.Commands.{agent_started, disarm_at_start, disarm_if, disarm_of, kinds_of}
use Rattle.cluster_model.specs.Losing.{beginning_kinds, is_lacking, loss_if, loss_of, losses_of}
use Rattle.cluster_model.specs.Machines.{machine_of}
use Rattle.cluster_model.specs.Next.{acknowledge_events, agent_start_events, agent_start_events_of, command_kind, confirm_events, promote_events, receive_events, receive_events_at_most}
use Rattle.cluster_model.specs.Parts.{events_of, for_some}
use Rattle.cluster_model.specs.ServerCommands.{commit_of, promote_kinds}
use Rattle.cluster_model.specs.State.{Cluster}
use Rattle.cluster_model.specs.Streaming.{confirm_of, source_of, unconfirmed_end}
use Rattle.cluster_model.proofs.Commanding.{HoldsOfCommands, command-holds, each-command-holds}
use Rattle.cluster_model.proofs.Founds.{holds-unless}
use Rattle.cluster_model.proofs.Lists.{AllKinds, HoldsIf, all-kinds, kinds-both, one-kind}
use Rattle.lease_model.proofs.Tools.{eq-from, ne-from, some-is}
use Rattle.lease_owners.proofs.Parts.{HoldsOfStreams, acknowledges-hold, promotes-hold, receives-hold, starts-hold}
use Rattle.leading_parts.specs.Alone.{LeaveAlone, LeavesAlone}
use Rattle.leading_parts.specs.Aside.{IsBeside}
use Rattle.leading_parts.specs.Elsewhere.{AreElsewhere, IsElsewhere}
use Rattle.leading_parts.specs.Ticked.{IsPrimary}
use Rattle.leading_parts.proofs.Others.{Apart, apart-are}

-- ---- elsewhere
module _ (n : ℕ) where
  streams-apart : HoldsOfStreams (Apart n)
  streams-apart = record {
    replicated = λ happening cluster. tt;
    received = λ server from count cluster. tt;
    diverged = λ server from at cluster. tt;
  }

  pub receives-elsewhere : (cluster : Cluster) (most : ℕ) (member : Member)
      → AreElsewhere n cluster (receive_events_at_most cluster most member)
  receives-elsewhere cluster most member = apart-are n cluster (receive_events_at_most cluster most member)
      (receives-hold (Apart n) streams-apart cluster most member)

  pub acknowledges-elsewhere : (cluster : Cluster) (member : Member)
      → AreElsewhere n cluster (acknowledge_events cluster member)
  acknowledges-elsewhere cluster member = apart-are n cluster (acknowledge_events cluster member)
      (acknowledges-hold (Apart n) streams-apart cluster member)

  promotes-other : (cluster : Cluster) (member : Member) → n ≢ member.id.number
      → AreElsewhere n cluster (promote_events cluster member)
  promotes-other cluster member other = apart-are n cluster (promote_events cluster member)
      (promotes-hold (Apart n) streams-apart cluster member (λ c. tt) (λ timeline c. other))

  promotes-none : (cluster : Cluster) (member : Member) (found : Option ServerFacts)
      → option_map (λ (s : ServerFacts). s.state) found ≡ Some states.Primary
      → AreElsewhere n cluster
      (for_some found (λ s. events_of cluster (promote_kinds member cluster.facts.acknowledged s)))
  promotes-none cluster member None primary = tt
  promotes-none cluster member (Some s) primary =
      subst (λ (state : State). AreElsewhere n cluster (events_of cluster
      (cond (is_replica state)
      (kinds.Server (servers.Promoted (server_of member))
      ∷ beginning_kinds member (s.timeline + 1) cluster.facts.acknowledged s.log) [])))
      (sym (some-is s.state states.Primary primary)) tt

  promotes-by : (cluster : Cluster) (member : Member) (here : Bool) → (n == member.id.number) ≡ here
      → IsPrimary n cluster → AreElsewhere n cluster (promote_events cluster member)
  promotes-by cluster member true same primary =
      promotes-none cluster member (slice_get cluster.facts.servers member.id.number)
      (ap (λ (k : ℕ). option_map (λ (s : ServerFacts). s.state) (slice_get cluster.facts.servers k))
      (sym (eq-from n member.id.number same)) ∙ primary)
  promotes-by cluster member false same primary =
      promotes-other cluster member (ne-from n member.id.number same)

  pub promotes-elsewhere : (cluster : Cluster) (member : Member) → IsPrimary n cluster
      → AreElsewhere n cluster (promote_events cluster member)
  promotes-elsewhere cluster member primary = promotes-by cluster member (n == member.id.number) refl primary

  -- the agent of another member starts; that of this one runs already
  starts-other : (cluster : Cluster) (member : Member) → n ≢ member.id.number
      → AreElsewhere n cluster (agent_start_events cluster member)
  starts-other cluster member other = apart-are n cluster (agent_start_events cluster member)
      (starts-hold (Apart n) member (λ c. tt) (λ incarnation c. other) (λ c. other) cluster)

  starts-none : (cluster : Cluster) (member : Member) (process : AgentProcess) (running : Bool)
      → running ≡ true
      → AreElsewhere n cluster
      (events_of cluster
      (cond running (kinds.Note (AlreadyRunning member)) (kinds.Agent (agents.Started member (process.incarnation + 1)))
      ∷ kinds_of (cond running None (disarm_of member (machine_of cluster member)))))
  starts-none cluster member process true runs = (tt, tt)
  starts-none cluster member process false runs = absurd (clash runs)
    where
      clash : false ≡ true → ⊥
      clash e = cc

  starts-by : (cluster : Cluster) (member : Member) (process : AgentProcess) (here : Bool)
      → (n == member.id.number) ≡ here → slice_get cluster.facts.processes n ≡ Some process
      → process.running ≡ true → AreElsewhere n cluster (agent_start_events cluster member)
  starts-by cluster member process true same found runs =
      subst (λ (p : Option AgentProcess). AreElsewhere n cluster (for_some p (agent_start_events_of cluster member)))
      (sym (ap (slice_get cluster.facts.processes) (sym (eq-from n member.id.number same)) ∙ found))
      (starts-none cluster member process process.running runs)
  starts-by cluster member process false same found runs =
      starts-other cluster member (ne-from n member.id.number same)

  pub starts-elsewhere : (cluster : Cluster) (member : Member) (process : AgentProcess)
      → slice_get cluster.facts.processes n ≡ Some process → process.running ≡ true
      → AreElsewhere n cluster (agent_start_events cluster member)
  starts-elsewhere cluster member process found runs =
      starts-by cluster member process (n == member.id.number) refl found runs

  -- a command that leaves the member alone
  abbrev LeftElsewhere : EventKind → Type 0
  LeftElsewhere kind = (cluster : Cluster) → LeavesAlone n cluster kind → IsElsewhere n cluster kind

  commit-left : (member : Member) (entry : Option Entry) → LeftElsewhere (commit_of member entry)
  commit-left member None cluster alone = tt
  commit-left member (Some entry) cluster alone = tt

  commands-left : (cluster : Cluster) → HoldsOfCommands LeftElsewhere cluster
  commands-left cluster = record {
    suspended = λ m c alone. alone;
    resumed = λ m c alone. alone;
    committed = λ m bytes least.
        commit-left m (entry_for cluster.facts.servers m.id.number (cluster.facts.commits + 1) bytes);
    frozen = λ m c alone. tt;
    thawed = λ m c alone. tt;
    slowed = λ m stop start c alone. tt;
    links = λ change c alone. tt;
  }

  command-left : (cluster : Cluster) (found : Option EventKind) → HoldsIf LeftElsewhere found
      → LeaveAlone n cluster (events_of cluster (kinds_of found))
      → AreElsewhere n cluster (events_of cluster (kinds_of found))
  command-left cluster None is alone = tt
  command-left cluster (Some kind) is alone = (is cluster alone.0, tt)

  pub command-elsewhere : (cluster : Cluster) (command : Command)
      → LeaveAlone n cluster (events_of cluster (kinds_of (command_kind cluster command)))
      → AreElsewhere n cluster (events_of cluster (kinds_of (command_kind cluster command)))
  command-elsewhere cluster command alone =
      command-left cluster (command_kind cluster command)
      (each-command-holds LeftElsewhere cluster
      (record { killed = λ m c left. left; crashed = λ m c left. left }) command
      (λ is. command-holds LeftElsewhere cluster (commands-left cluster) command is))
      alone

-- ---- beside
module _ (n last : ℕ) where
  streams-beside : HoldsOfStreams (IsBeside n last)
  streams-beside = record {
    replicated = λ happening. tt;
    received = λ server from count. tt;
    diverged = λ server from at. tt;
  }

  pub receives-beside : (cluster : Cluster) (most : ℕ) (member : Member)
      → AllAre (IsBeside n last) (receive_events_at_most cluster most member)
  receives-beside cluster most member = receives-hold (IsBeside n last) streams-beside cluster most member

  pub acknowledges-beside : (cluster : Cluster) (member : Member)
      → AllAre (IsBeside n last) (acknowledge_events cluster member)
  acknowledges-beside cluster member = acknowledges-hold (IsBeside n last) streams-beside cluster member

  pub promotes-beside : (cluster : Cluster) (member : Member)
      → AllAre (IsBeside n last) (promote_events cluster member)
  promotes-beside cluster member =
      promotes-hold (IsBeside n last) streams-beside cluster member tt (λ timeline. tt)

  pub starts-beside : (cluster : Cluster) (member : Member)
      → AllAre (IsBeside n last) (agent_start_events cluster member)
  starts-beside cluster member = starts-hold (IsBeside n last) member tt (λ incarnation. tt) tt cluster

  commit-beside : (member : Member) (entry : Option Entry) → IsBeside n last (commit_of member entry)
  commit-beside member None = tt
  commit-beside member (Some entry) = tt

  pub command-beside : (cluster : Cluster) (command : Command)
      → AllAre (IsBeside n last) (events_of cluster (kinds_of (command_kind cluster command)))
  command-beside cluster command =
      all-kinds (IsBeside n last) cluster (kinds_of (command_kind cluster command))
      (one-kind (IsBeside n last) (command_kind cluster command)
      (each-command-holds (IsBeside n last) cluster (record { killed = λ m. tt; crashed = λ m. tt }) command
      (λ is. command-holds (IsBeside n last) cluster (record {
        suspended = λ m. tt;
        resumed = λ m. tt;
        committed = λ m bytes least.
            commit-beside m (entry_for cluster.facts.servers m.id.number (cluster.facts.commits + 1) bytes);
        frozen = λ m. tt;
        thawed = λ m. tt;
        slowed = λ m stop start. tt;
        links = λ change. tt;
      }) command is)))
