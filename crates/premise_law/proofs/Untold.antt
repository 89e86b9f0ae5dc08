-- The parts of a step but inputs of agents and arrivals at the key store
-- arm and feed no watchdog, send nothing, and have no member pass.
use Rattle.std.proofs.Common.{ℕ, Bool, true, false, cond, List, [], ◌∷◌, Option, Some, None, slice_get, ◌+◌}
use Rattle.pat_base.specs.declared.lsn.Lsn.{Lsn}
use Rattle.pat_base.specs.declared.ticks.Ticks.{Ticks}
use Rattle.pat_base.specs.ServerState.{live}
use Rattle.store_keys.specs.declared.key.Key.{Key}
use Rattle.store_keys.specs.declared.key.Key.TheVariants as keys
use Rattle.lease_store.specs.Answers.{expired_holder, expired_keys}
use Rattle.wal_model.specs.Lacking.{lacks_in}
use Rattle.wal_model.specs.declared.entry.Entry.{Entry}
use Rattle.pg_cluster.specs.Servers.{entry_for, news_at}
use Rattle.pg_model.specs.Facts.{ServerFacts, entries_of, is_replica}
use Rattle.pg_model.specs.declared.answers.Streamed.{Streamed}
use Rattle.pg_model.specs.declared.answers.Streamed.TheVariants as streams
use Rattle.script_model.specs.declared.line.Command.{Command}
use Rattle.event_book.specs.declared.event.AgentEvent.TheVariants as agents
use Rattle.event_book.specs.declared.event.Event.{Event}
use Rattle.event_book.specs.declared.event.EventKind.{EventKind}
use Rattle.event_book.specs.declared.event.EventKind.TheVariants as kinds
use Rattle.event_book.specs.declared.event.MessageEvent.TheVariants as messages
use Rattle.event_book.specs.declared.event.ServerEvent.TheVariants as servers
use Rattle.event_book.specs.declared.event.WatchdogEvent.TheVariants as watchdogs
use Rattle.event_book.specs.declared.event.Note.TheVariants.{AlreadyRunning}
use Rattle.event_book.specs.declared.member.Member.{Member}
use Rattle.event_book.specs.Kinds.{AllAre}
use Rattle.event_book.specs.Members.{server_of}
use Rattle.agent_model.specs.declared.machine.Machine.{Machine}
use Rattle.cluster_model.specs.declared.beginning.Completion.{Completion}
use Rattle.cluster_model.specs.declared.beginning.Completion.TheVariants as completions
use Rattle.cluster_model.specs.Acknowledging.{acknowledge_kinds, acknowledgements, ready_commits}
use Rattle.cluster_model.specs.Beginnings.{completed_by, completion_kinds, completion_of}
use Rattle.cluster_model.specs.Cluster.{cluster_after, cluster_over}
use Rattle.cluster_model.specs.Commands.{agent_started, disarm_at_start, disarm_if, disarm_of, kinds_of}
use Rattle.cluster_model.specs.Losing.{beginning_kinds, is_lacking, loss_if, loss_of, losses_of}
use Rattle.cluster_model.specs.Machines.{machine_of}
use Rattle.cluster_model.specs.Next.{acknowledge_events, agent_start_events, command_kind, confirm_events, promote_events, receive_events, receive_events_at_most}
use Rattle.cluster_model.specs.Orders.{declared_member}
use Rattle.cluster_model.specs.Parts.{each, events_of, for_some}
use Rattle.cluster_model.specs.ServerCommands.{commit_of, promote_kinds}
use Rattle.cluster_model.specs.State.{Cluster}
use Rattle.cluster_model.specs.Streaming.{confirm_of, source_of, unconfirmed_end}
use Rattle.cluster_model.specs.Ticking.{completion_events, expiries_of, expiry_of, leader_expiry, next_expiries, reset_events, reset_of, tick_events}
use Rattle.cluster_model.proofs.Commanding.{HoldsOfCommands, command-holds, each-command-holds}
use Rattle.cluster_model.proofs.Founds.{holds-if, holds-then, holds-unless}
use Rattle.cluster_model.proofs.Lists.{AllKinds, HoldsIf, all-both, all-kinds, kinds-both, one-kind}

-- no watchdog is armed or fed in this event, no message is sent, and no member leads outside the sync key
abbrev pub IsUntold : EventKind → Type 0
IsUntold (kinds.Message (messages.Sent number message)) = ⊥
IsUntold (kinds.Watchdog (watchdogs.Armed member until answer)) = ⊥
IsUntold (kinds.Watchdog (watchdogs.Fed member until basis)) = ⊥
IsUntold (kinds.Agent (agents.Passed member)) = ⊥
IsUntold _ = Unit {0}

abbrev pub AreUntold : List Event → Type 0
AreUntold events = AllAre IsUntold events

found-untold : (cluster : Cluster) (found : Option EventKind) → HoldsIf IsUntold found
    → AreUntold (events_of cluster (kinds_of found))
found-untold cluster found is = all-kinds IsUntold cluster (kinds_of found) (one-kind IsUntold found is)

some-untold : {X : Type 0} (found : Option X) (part : X → List Event) → ((x : X) → AreUntold (part x))
    → AreUntold (for_some found part)
some-untold None part all = tt
some-untold (Some x) part all = all x

each-untold : {X : Type 0} (part : Cluster → X → List Event)
    → ((cluster : Cluster) (x : X) → AreUntold (part cluster x))
    → (cluster : Cluster) (xs : List X) → AreUntold (each part cluster xs)
each-untold part all cluster [] = tt
each-untold part all cluster (x ∷ xs) =
    all-both IsUntold (part cluster x) (each part (cluster_over cluster (part cluster x)) xs) (all cluster x)
    (each-untold part all (cluster_over cluster (part cluster x)) xs)

-- ---- servers that begin
loss-untold : (member : Member) (test : Bool) → AllKinds IsUntold (kinds_of (loss_if member test))
loss-untold member true = (tt, tt)
loss-untold member false = tt

begun-untold : (member : Member) (timeline : ℕ) (acknowledged : List ℕ) (log : Option (List Entry))
    → AllKinds IsUntold (beginning_kinds member timeline acknowledged log)
begun-untold member timeline acknowledged log = (tt, loss-untold member (lacks_in (entries_of log) acknowledged))

completed-untold : (member : Member) (acknowledged : List ℕ) (log : Option (List Entry)) (found : Option Completion)
    → AllKinds IsUntold (completed_by member acknowledged log found)
completed-untold member acknowledged log None = tt
completed-untold member acknowledged log (Some (completions.Begins timeline)) =
    begun-untold member timeline acknowledged log
completed-untold member acknowledged log (Some completions.Ends) = (tt, tt)

-- ---- a tick
reset-untold : (cluster : Cluster) (member : Member) → AreUntold (reset_events cluster member)
reset-untold cluster member = found-untold cluster _
    (holds-then IsUntold (reset_of cluster.facts.clock member) (slice_get cluster.facts.deadlines member.id.number)
    (λ deadline. holds-if IsUntold _ (kinds.Watchdog (watchdogs.Reset member)) tt))

leader-untold : (holder : Option Member) → AllKinds IsUntold (leader_expiry holder)
leader-untold None = tt
leader-untold (Some holder) = (tt, tt)

expiry-untold : (holder : Option Member) (key : Key) → AllKinds IsUntold (expiry_of holder key)
expiry-untold holder keys.Leader = leader-untold holder
expiry-untold holder _ = (tt, tt)

expiries-untold : (holder : Option Member) (keys : List Key) → AllKinds IsUntold (expiries_of holder keys)
expiries-untold holder [] = tt
expiries-untold holder (key ∷ more) = kinds-both IsUntold (expiry_of holder key) (expiries_of holder more)
    (expiry-untold holder key) (expiries-untold holder more)

completion-untold : (cluster : Cluster) (member : Member) → AreUntold (completion_events cluster member)
completion-untold cluster member =
    some-untold (slice_get cluster.facts.servers member.id.number) _
    (λ s. all-kinds IsUntold cluster (completion_kinds cluster.facts.clock member cluster.facts.acknowledged s)
    (completed-untold member cluster.facts.acknowledged s.log (completion_of cluster.facts.clock s)))

pub tick-untold : (cluster : Cluster) → AreUntold (tick_events cluster)
tick-untold cluster =
    let ticked : Cluster = cluster_after cluster kinds.Tick in
    let resets : List Event = each reset_events ticked ticked.facts.members in
    let reset : Cluster = cluster_over ticked resets in
    let expiries : List Event = events_of reset (next_expiries cluster) in
    let expired : Cluster = cluster_over reset expiries in (
      tt,
      all-both IsUntold resets _ (each-untold reset_events reset-untold ticked ticked.facts.members)
          (all-both IsUntold expiries _
          (all-kinds IsUntold reset (next_expiries cluster)
          (expiries-untold (declared_member cluster.facts.members
          (expired_holder cluster.facts.keys (cluster.facts.clock + 1)))
          (expired_keys cluster.facts.keys (cluster.facts.clock + 1))))
          (each-untold completion_events completion-untold expired expired.facts.members)),
    )

-- ---- streams
confirm-untold : (member from : Member) (end : Option Lsn) → HoldsIf IsUntold (confirm_of member from end)
confirm-untold member from None = tt
confirm-untold member from (Some end) = tt

confirms-untold : (cluster : Cluster) (member from : Member) → AreUntold (confirm_events cluster member from)
confirms-untold cluster member from =
    let end = unconfirmed_end member (slice_get cluster.facts.servers member.id.number)
    (slice_get cluster.facts.servers from.id.number) in
    found-untold cluster (confirm_of member from end) (confirm-untold member from end)

receive-untold : (cluster : Cluster) (member from : Member) (news : Option Streamed)
    → AreUntold (receive_events cluster member from news)
receive-untold cluster member from None = confirms-untold cluster member from
receive-untold cluster member from (Some streams.NotConnected) = tt
receive-untold cluster member from (Some (streams.Diverged at)) = (tt, tt)
receive-untold cluster member from (Some (streams.Received count)) = (tt, confirms-untold _ member from)

pub received-untold : (cluster : Cluster) (most : ℕ) (member : Member)
    → AreUntold (receive_events_at_most cluster most member)
received-untold cluster most member =
    some-untold (source_of cluster.facts.members cluster.facts.servers cluster.facts.cuts member) _
    (λ from. receive-untold cluster member from
    (news_at cluster.facts.servers member.id.number from.id.number most))

lost-untold : (commit : ℕ) (member : Member) (s : Option ServerFacts) → AllKinds IsUntold (loss_of commit member s)
lost-untold commit member None = tt
lost-untold commit member (Some s) = loss-untold member (is_lacking commit s)

losses-untold : (commit : ℕ) (known : List ServerFacts) (members : List Member)
    → AllKinds IsUntold (losses_of commit known members)
losses-untold commit known [] = tt
losses-untold commit known (member ∷ members) =
    kinds-both IsUntold (loss_of commit member (slice_get known member.id.number)) (losses_of commit known members)
    (lost-untold commit member (slice_get known member.id.number)) (losses-untold commit known members)

acknowledged-untold : (known : List ServerFacts) (members : List Member) (member : Member) (commits : List ℕ)
    → AllKinds IsUntold (acknowledgements known members member commits)
acknowledged-untold known members member [] = tt
acknowledged-untold known members member (commit ∷ commits) = (
  tt,
  kinds-both IsUntold (losses_of commit known members) (acknowledgements known members member commits)
      (losses-untold commit known members) (acknowledged-untold known members member commits),
)

acknowledging-untold : (known : List ServerFacts) (members : List Member) (member : Member) (s : Option ServerFacts)
    → AllKinds IsUntold (acknowledge_kinds known members member s)
acknowledging-untold known members member None = tt
acknowledging-untold known members member (Some s) = acknowledged-untold known members member (ready_commits s)

pub acknowledge-untold : (cluster : Cluster) (member : Member) → AreUntold (acknowledge_events cluster member)
acknowledge-untold cluster member =
    let found = slice_get cluster.facts.servers member.id.number in
    all-kinds IsUntold cluster (acknowledge_kinds cluster.facts.servers cluster.facts.members member found)
    (acknowledging-untold cluster.facts.servers cluster.facts.members member found)

-- ---- commands
commit-untold : (member : Member) (entry : Option Entry) → IsUntold (commit_of member entry)
commit-untold member None = tt
commit-untold member (Some entry) = tt

commands-untold : (cluster : Cluster) → HoldsOfCommands IsUntold cluster
commands-untold cluster = record {
  suspended = λ m. tt;
  resumed = λ m. tt;
  committed = λ m bytes least.
      commit-untold m (entry_for cluster.facts.servers m.id.number (cluster.facts.commits + 1) bytes);
  frozen = λ m. tt;
  thawed = λ m. tt;
  slowed = λ m stop start. tt;
  links = λ change. tt;
}

pub command-untold : (cluster : Cluster) (command : Command)
    → AreUntold (events_of cluster (kinds_of (command_kind cluster command)))
command-untold cluster command = found-untold cluster (command_kind cluster command)
    (each-command-holds IsUntold cluster (record { killed = λ m. tt; crashed = λ m. tt }) command
    (command-holds IsUntold cluster (commands-untold cluster) command))

promoted-untold : (member : Member) (acknowledged : List ℕ) (s : ServerFacts) (replica : Bool)
    → AllKinds IsUntold
    (cond replica
    (kinds.Server (servers.Promoted (server_of member))
    ∷ beginning_kinds member (s.timeline + 1) acknowledged s.log) [])
promoted-untold member acknowledged s true = (tt, begun-untold member (s.timeline + 1) acknowledged s.log)
promoted-untold member acknowledged s false = tt

pub promote-untold : (cluster : Cluster) (member : Member) → AreUntold (promote_events cluster member)
promote-untold cluster member = some-untold (slice_get cluster.facts.servers member.id.number) _
    (λ s. all-kinds IsUntold cluster (promote_kinds member cluster.facts.acknowledged s)
    (promoted-untold member cluster.facts.acknowledged s (is_replica s.state)))

disarm-untold : (member : Member) (deadline : Option Ticks) → HoldsIf IsUntold (disarm_if member deadline)
disarm-untold member None = tt
disarm-untold member (Some deadline) = tt

disarms-untold : (member : Member) (machine : Option Machine) → HoldsIf IsUntold (disarm_of member machine)
disarms-untold member None = tt
disarms-untold member (Some machine) = holds-unless IsUntold (live machine.server.state)
    (disarm_if member machine.watchdog.deadline) (disarm-untold member machine.watchdog.deadline)

started-untold : (member : Member) (incarnation : ℕ) (running : Bool)
    → IsUntold (cond running (kinds.Note (AlreadyRunning member)) (kinds.Agent (agents.Started member incarnation)))
started-untold member incarnation true = tt
started-untold member incarnation false = tt

starts-untold : (cluster : Cluster) (member : Member) → AreUntold (agent_start_events cluster member)
starts-untold cluster member = some-untold (slice_get cluster.facts.processes member.id.number) _
    (λ process. all-kinds IsUntold cluster
    (agent_started member process ∷ kinds_of (disarm_at_start member process (machine_of cluster member))) (
      started-untold member (process.incarnation + 1) process.running,
      one-kind IsUntold (disarm_at_start member process (machine_of cluster member))
          (holds-unless IsUntold process.running (disarm_of member (machine_of cluster member))
          (disarms-untold member (machine_of cluster member))),
    ))

pub restart-untold : (cluster : Cluster) (found : Option Member)
    → AreUntold (for_some found (agent_start_events cluster))
restart-untold cluster found = some-untold found (agent_start_events cluster) (starts-untold cluster)
