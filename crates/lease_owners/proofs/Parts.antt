-- What holds of all events of a part of a step: of streams, acknowledgements, promotions and starts of agents.
use Rattle.std.proofs.Common.{ℕ, ◌≡◌, ◌≢◌, ◌+◌, ◌==◌, Bool, true, false, cond, List, [], ◌∷◌, Option, Some, None, option_map, slice_get, refl, sym, ap, subst, ◌∙◌}
use Rattle.pat_base.specs.declared.lsn.Lsn.{Lsn}
use Rattle.pat_base.specs.declared.server_state.State.{State}
use Rattle.pat_base.specs.declared.server_state.State.TheVariants as states
use Rattle.pat_base.specs.declared.ticks.Ticks.{Ticks}
use Rattle.pat_base.specs.ServerState.{live}
use Rattle.wal_model.specs.declared.entry.Entry.{Entry}
use Rattle.wal_model.specs.Lacking.{lacks_in}
use Rattle.pg_cluster.specs.Servers.{entry_for, news_at}
use Rattle.pg_model.specs.declared.answers.Streamed.{Streamed}
use Rattle.pg_model.specs.declared.answers.Streamed.TheVariants as streams
use Rattle.pg_model.specs.Facts.{ServerFacts, entries_of, is_replica}
use Rattle.script_model.specs.declared.line.Command.{Command}
use Rattle.event_book.specs.declared.agent_process.AgentProcess.{AgentProcess}
use Rattle.event_book.specs.declared.event.AgentEvent.TheVariants as agents
use Rattle.event_book.specs.declared.event.EventKind.{EventKind}
use Rattle.event_book.specs.declared.event.EventKind.TheVariants as kinds
use Rattle.event_book.specs.declared.event.LogEvent.TheVariants as logs
use Rattle.event_book.specs.declared.event.Note.TheVariants.{AlreadyRunning}
use Rattle.event_book.specs.declared.event.ReplicationEvent.{ReplicationEvent}
use Rattle.event_book.specs.declared.event.ReplicationEvent.TheVariants as replications
use Rattle.event_book.specs.declared.event.ServerEvent.TheVariants as servers
use Rattle.event_book.specs.declared.event.WatchdogEvent.TheVariants.{Disarmed}
use Rattle.event_book.specs.declared.member.Member.{Member}
use Rattle.event_book.specs.declared.member.ServerOf.{ServerOf}
use Rattle.event_book.specs.Kinds.{AllAre}
use Rattle.event_book.specs.Members.{server_of}
use Rattle.agent_model.specs.declared.machine.Machine.{Machine}
use Rattle.cluster_model.specs.Acknowledging.{acknowledge_kinds, acknowledgements, ready_commits}
use Rattle.cluster_model.specs.Cluster.{cluster_after}
use Rattle.cluster_model.specs.Commands.{agent_started, disarm_at_start, disarm_if, disarm_of, kinds_of}
use Rattle.cluster_model.specs.Losing.{beginning_kinds, is_lacking, loss_if, loss_of, losses_of}
use Rattle.cluster_model.specs.Machines.{machine_of}
use Rattle.cluster_model.specs.Next.{acknowledge_events, agent_start_events, agent_start_events_of, command_kind, confirm_events, promote_events, receive_events, receive_events_at_most}
use Rattle.cluster_model.specs.Parts.{events_of, for_some}
use Rattle.cluster_model.specs.ServerCommands.{commit_of, promote_kinds}
use Rattle.cluster_model.specs.State.{Cluster}
use Rattle.cluster_model.specs.Streaming.{confirm_of, source_of, unconfirmed_end}
use Rattle.cluster_model.proofs.Commanding.{HoldsOfCommands, command-holds, each-command-holds}
use Rattle.cluster_model.proofs.Founds.{holds-unless}
use Rattle.cluster_model.proofs.Lists.{AllKinds, HoldsIf, all-kinds, kinds-both, one-kind}
use Rattle.lease_model.proofs.Tools.{eq-from, ne-from, some-is}

-- ---- what holds of the events of streams
pub record HoldsOfStreams (P : EventKind → Type 0) : Type 0 where
  pub replicated : (happening : ReplicationEvent) → P (kinds.Replication happening)
  pub received : (server from : ServerOf) (count : ℕ) → P (kinds.Log (logs.Received server from count))
  pub diverged : (server from : ServerOf) (at : Lsn) → P (kinds.Server (servers.Diverged server from at))

module _ (P : EventKind → Type 0) (all : HoldsOfStreams P) where
  confirm-holds : (member from : Member) (end : Option Lsn) → HoldsIf P (confirm_of member from end)
  confirm-holds member from None = tt
  confirm-holds member from (Some end) = all.replicated (replications.Confirmed (server_of from) member end)

  confirms-hold : (cluster : Cluster) (member from : Member) → AllAre P (confirm_events cluster member from)
  confirms-hold cluster member from =
      let end = unconfirmed_end member (slice_get cluster.facts.servers member.id.number)
      (slice_get cluster.facts.servers from.id.number) in
      all-kinds P cluster (kinds_of (confirm_of member from end))
      (one-kind P (confirm_of member from end) (confirm-holds member from end))

  receive-holds : (cluster : Cluster) (member from : Member) (news : Option Streamed)
      → AllAre P (receive_events cluster member from news)
  receive-holds cluster member from None = confirms-hold cluster member from
  receive-holds cluster member from (Some streams.NotConnected) = tt
  receive-holds cluster member from (Some (streams.Diverged at)) =
      (all.diverged (server_of member) (server_of from) at, tt)
  receive-holds cluster member from (Some (streams.Received count)) = (
    all.received (server_of member) (server_of from) count,
    confirms-hold (cluster_after cluster (kinds.Log (logs.Received (server_of member) (server_of from) count)))
        member from,
  )

  source-holds : (cluster : Cluster) (most : ℕ) (member : Member) (source : Option Member)
      → AllAre P
      (for_some source
      (λ from. receive_events cluster member from (news_at cluster.facts.servers member.id.number from.id.number most)))
  source-holds cluster most member None = tt
  source-holds cluster most member (Some from) =
      receive-holds cluster member from (news_at cluster.facts.servers member.id.number from.id.number most)

  pub receives-hold : (cluster : Cluster) (most : ℕ) (member : Member)
      → AllAre P (receive_events_at_most cluster most member)
  receives-hold cluster most member = source-holds cluster most member
      (source_of cluster.facts.members cluster.facts.servers cluster.facts.cuts member)

  loss-holds : (member : Member) (test : Bool) → AllKinds P (kinds_of (loss_if member test))
  loss-holds member true = (all.replicated (replications.Lacks (server_of member)), tt)
  loss-holds member false = tt

  loss-now : (commit : ℕ) (member : Member) (s : Option ServerFacts) → AllKinds P (loss_of commit member s)
  loss-now commit member None = tt
  loss-now commit member (Some s) = loss-holds member (is_lacking commit s)

  losses-hold : (commit : ℕ) (known : List ServerFacts) (members : List Member)
      → AllKinds P (losses_of commit known members)
  losses-hold commit known [] = tt
  losses-hold commit known (member ∷ members) =
      kinds-both P (loss_of commit member (slice_get known member.id.number)) (losses_of commit known members)
      (loss-now commit member (slice_get known member.id.number)) (losses-hold commit known members)

  acknowledged-hold : (known : List ServerFacts) (members : List Member) (member : Member) (commits : List ℕ)
      → AllKinds P (acknowledgements known members member commits)
  acknowledged-hold known members member [] = tt
  acknowledged-hold known members member (commit ∷ commits) = (
    all.replicated (replications.Acknowledged (server_of member) commit),
    kinds-both P (losses_of commit known members) (acknowledgements known members member commits)
        (losses-hold commit known members) (acknowledged-hold known members member commits),
  )

  acknowledge-holds : (known : List ServerFacts) (members : List Member) (member : Member) (s : Option ServerFacts)
      → AllKinds P (acknowledge_kinds known members member s)
  acknowledge-holds known members member None = tt
  acknowledge-holds known members member (Some s) = acknowledged-hold known members member (ready_commits s)

  pub acknowledges-hold : (cluster : Cluster) (member : Member) → AllAre P (acknowledge_events cluster member)
  acknowledges-hold cluster member =
      let found = slice_get cluster.facts.servers member.id.number in
      all-kinds P cluster (acknowledge_kinds cluster.facts.servers cluster.facts.members member found)
      (acknowledge-holds cluster.facts.servers cluster.facts.members member found)

  -- ---- a promotion by hand
  promoted-holds : (member : Member) → P (kinds.Server (servers.Promoted (server_of member)))
      → ((timeline : ℕ) → P (kinds.Server (servers.Began (server_of member) timeline)))
      → (acknowledged : List ℕ) (s : ServerFacts) (test : Bool)
      → AllKinds P
      (cond test
      (kinds.Server (servers.Promoted (server_of member))
      ∷ beginning_kinds member (s.timeline + 1) acknowledged s.log) [])
  promoted-holds member promoted began acknowledged s true = (
    promoted,
    (began (s.timeline + 1), loss-holds member (lacks_in (entries_of s.log) acknowledged)),
  )
  promoted-holds member promoted began acknowledged s false = tt

  found-promoted : (cluster : Cluster) (member : Member)
      → P (kinds.Server (servers.Promoted (server_of member)))
      → ((timeline : ℕ) → P (kinds.Server (servers.Began (server_of member) timeline))) → (found : Option ServerFacts)
      → AllAre P
      (for_some found (λ s. events_of cluster (promote_kinds member cluster.facts.acknowledged s)))
  found-promoted cluster member promoted began None = tt
  found-promoted cluster member promoted began (Some s) =
      all-kinds P cluster (promote_kinds member cluster.facts.acknowledged s)
      (promoted-holds member promoted began cluster.facts.acknowledged s (is_replica s.state))

  pub promotes-hold : (cluster : Cluster) (member : Member)
      → P (kinds.Server (servers.Promoted (server_of member)))
      → ((timeline : ℕ) → P (kinds.Server (servers.Began (server_of member) timeline)))
      → AllAre P (promote_events cluster member)
  promotes-hold cluster member promoted began =
      found-promoted cluster member promoted began (slice_get cluster.facts.servers member.id.number)

-- ---- the start of an agent
module _ (P : EventKind → Type 0) (member : Member) (runs : P (kinds.Note (AlreadyRunning member)))
    (starts : (incarnation : ℕ) → P (kinds.Agent (agents.Started member incarnation)))
    (disarmed : P (kinds.Watchdog (Disarmed member))) where
  disarm-holds : (deadline : Option Ticks) → HoldsIf P (disarm_if member deadline)
  disarm-holds None = tt
  disarm-holds (Some deadline) = disarmed

  disarms-hold : (machine : Option Machine) → HoldsIf P (disarm_of member machine)
  disarms-hold None = tt
  disarms-hold (Some machine) =
      holds-unless P (live machine.server.state) _ (disarm-holds machine.watchdog.deadline)

  started-holds : (test : Bool) (incarnation : ℕ)
      → P (cond test (kinds.Note (AlreadyRunning member)) (kinds.Agent (agents.Started member incarnation)))
  started-holds true incarnation = runs
  started-holds false incarnation = starts incarnation

  found-starts : (cluster : Cluster) (found : Option AgentProcess)
      → AllAre P (for_some found (agent_start_events_of cluster member))
  found-starts cluster None = tt
  found-starts cluster (Some process) =
      all-kinds P cluster
      (agent_started member process ∷ kinds_of (disarm_at_start member process (machine_of cluster member))) (
        started-holds process.running (process.incarnation + 1),
        one-kind P (disarm_at_start member process (machine_of cluster member))
            (holds-unless P process.running (disarm_of member (machine_of cluster member))
            (disarms-hold (machine_of cluster member))),
      )

  pub starts-hold : (cluster : Cluster) → AllAre P (agent_start_events cluster member)
  starts-hold cluster = found-starts cluster (slice_get cluster.facts.processes member.id.number)
