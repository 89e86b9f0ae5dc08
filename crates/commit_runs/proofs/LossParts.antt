-- Each part of a step but the inputs of agents tells the first loss.
use Rattle.std.proofs.Common.{ℕ, ◌≡◌, ◌+◌, ◌++◌, Bool, true, false, cond, List, [], ◌∷◌, slice_get, Option, Some, None, option_map}
use Rattle.pat_base.specs.declared.member_id.MemberId.{MemberId}
use Rattle.pat_base.specs.declared.ticks.Ticks.{Ticks}
use Rattle.lease_store.specs.Decision.{Decision, Grant, Refusal, decision_on}
use Rattle.store_keys.specs.declared.txn.Txn.{Txn}
use Rattle.wal_model.specs.declared.entry.Entry.{Entry}
use Rattle.pg_model.specs.declared.answers.Streamed.{Streamed}
use Rattle.pg_model.specs.declared.answers.Streamed.TheVariants as streams
use Rattle.pg_model.specs.Facts.{ServerFacts, is_replica}
use Rattle.pg_cluster.specs.Servers.{entry_for, news_at}
use Rattle.leader_key.specs.Watchdog.{is_due_at}
use Rattle.event_book.specs.declared.agent_process.AgentProcess.{AgentProcess}
use Rattle.event_book.specs.declared.event.AgentEvent.TheVariants as agents
use Rattle.event_book.specs.declared.event.Event.{Event}
use Rattle.event_book.specs.declared.event.EventKind.{EventKind}
use Rattle.event_book.specs.declared.event.EventKind.TheVariants as kinds
use Rattle.event_book.specs.declared.event.MessageEvent.TheVariants as messages
use Rattle.event_book.specs.declared.event.Note.TheVariants.{AlreadyRunning}
use Rattle.event_book.specs.declared.event.ServerEvent.TheVariants as servers
use Rattle.event_book.specs.declared.event.WatchdogEvent.TheVariants as watchdogs
use Rattle.event_book.specs.declared.link.LinkEnd.{LinkEnd}
use Rattle.event_book.specs.declared.link.LinkEnd.TheVariants as ends
use Rattle.event_book.specs.declared.member.Member.{Member}
use Rattle.event_book.specs.declared.message.Body.{Body}
use Rattle.event_book.specs.declared.message.Body.TheVariants as bodies
use Rattle.event_book.specs.declared.message.Message.{Message}
use Rattle.event_book.specs.Flight.{InFlightFacts}
use Rattle.event_book.specs.Members.{server_of}
use Rattle.agent_model.specs.declared.machine.Machine.{Machine}
use Rattle.script_model.specs.declared.line.Command.{Command}
use Rattle.script_model.specs.Script.{HeadText}
use Rattle.cluster_model.specs.declared.beginning.Completion.{Completion}
use Rattle.cluster_model.specs.declared.beginning.Completion.TheVariants as completions
use Rattle.cluster_model.specs.Beginnings.{completed_by, completion_of}
use Rattle.cluster_model.specs.Cluster.{cluster_after, cluster_over}
use Rattle.cluster_model.specs.Commands.{disarm_at_start, disarm_if, disarm_of, kinds_of, agent_started}
use Rattle.cluster_model.specs.Losing.{beginning_kinds}
use Rattle.cluster_model.specs.Machines.{machine_of}
use Rattle.cluster_model.specs.Messages.{answer_events_by, answer_message, arrival_events_at, decision_body, decision_events, lost_at_once, send_events}
use Rattle.cluster_model.specs.Next.{command_kind, confirm_events, declared, promote_events, receive_events, receive_events_at_most, agent_start_events}
use Rattle.cluster_model.specs.Parts.{each, event_of, events_of, for_some}
use Rattle.cluster_model.specs.ServerCommands.{commit_of, promote_kinds}
use Rattle.cluster_model.specs.State.{Cluster}
use Rattle.cluster_model.specs.Streaming.{confirm_of, source_of, unconfirmed_end}
use Rattle.cluster_model.specs.Ticking.{completion_events, next_expiries, reset_events, reset_of, tick_events}
use Rattle.event_book.specs.Kinds.{AllAre}
use Rattle.run_promise.specs.Promise.{Upholds, UpholdsAlways}
use Rattle.cluster_model.proofs.Commanding.{HoldsOfCommands, command-holds, each-command-holds}
use Rattle.cluster_model.proofs.Founds.{holds-if, holds-then}
use Rattle.cluster_model.proofs.Lists.{HoldsIf, all-kinds, all-more, one-kind}
use Rattle.run_promise.proofs.Upholding.{upheld-for_some, upheld-none, upheld-then, upholds-all}
use Rattle.commit_runs.proofs.Losses.{LosesNone, TellsSoFar, composable, losses_told, upheld-loseless}
use Rattle.commit_runs.proofs.LossGroups.{upheld-begun}
use Rattle.commit_parts.proofs.Ticks.{IsExpiry, next-expiries}

-- ---- events that lose nothing
pub none-if : (cluster : Cluster) (found : Option EventKind) → HoldsIf LosesNone found
    → AllAre LosesNone (events_of cluster (kinds_of found))
none-if cluster found is = all-kinds LosesNone cluster (kinds_of found) (one-kind LosesNone found is)

holds-cond : (test : Bool) (first second : Option EventKind) → HoldsIf LosesNone first
    → HoldsIf LosesNone second → HoldsIf LosesNone (cond test first second)
holds-cond true first second a b = a
holds-cond false first second a b = b

kind-cond : (test : Bool) (first second : EventKind) → LosesNone first → LosesNone second
    → LosesNone (cond test first second)
kind-cond true first second a b = a
kind-cond false first second a b = b

holds-mapped : {X : Type 0} (found : Option X) (change : X → EventKind) → ((x : X) → LosesNone (change x))
    → HoldsIf LosesNone (option_map change found)
holds-mapped None change all = tt
holds-mapped (Some x) change all = all x

lost-none : (cluster : Cluster) (test : Bool) (number : ℕ)
    → AllAre LosesNone (events_of cluster (lost_at_once test number))
lost-none cluster true number = (tt, tt)
lost-none cluster false number = tt

sends-none : (cluster : Cluster) (message : Message) → AllAre LosesNone (send_events cluster message)
sends-none cluster message = (tt, lost-none _ _ _)

-- ---- a tick
expiry-none : (kind : EventKind) → IsExpiry kind → LosesNone kind
expiry-none (kinds.Store happening) is = tt
expiry-none _ is = absurd is

module _ (head : HeadText) where
  upholds-reset : (member : Member) → UpholdsAlways (losses_told head) (λ cluster. reset_events cluster member)
  upholds-reset member book cluster good =
      upheld-loseless head book cluster (reset_events cluster member) good
      (none-if cluster _
      (holds-then LosesNone (reset_of cluster.facts.clock member) (slice_get cluster.facts.deadlines member.id.number)
      (λ deadline.
      holds-if LosesNone (is_due_at cluster.facts.clock deadline) (kinds.Watchdog (watchdogs.Reset member)) tt)))

  completed-upheld : (book : List Event) (cluster : Cluster) (member : Member) (s : ServerFacts)
      (found : Option Completion) → TellsSoFar head book cluster
      → slice_get cluster.facts.servers member.id.number ≡ Some s
      → Upholds (losses_told head) book cluster
      (events_of cluster (completed_by member cluster.facts.acknowledged s.log found))
  completed-upheld book cluster member s None good is =
      upheld-none (losses_told head) (composable head) book cluster good
  completed-upheld book cluster member s (Some (completions.Begins timeline)) good is =
      upheld-begun head book cluster good member timeline s is
  completed-upheld book cluster member s (Some completions.Ends) good is =
      upheld-loseless head book cluster _ good (tt, tt)

  upholds-completion : (member : Member)
      → UpholdsAlways (losses_told head) (λ cluster. completion_events cluster member)
  upholds-completion member book cluster good =
      upheld-for_some (losses_told head) (composable head) book cluster
      (slice_get cluster.facts.servers member.id.number) _ good
      (λ s is. completed-upheld book cluster member s (completion_of cluster.facts.clock s) good is)

  pub upholds-tick : UpholdsAlways (losses_told head) tick_events
  upholds-tick book cluster good =
      let promise = losses_told head in
      let ticked : Cluster = cluster_after cluster kinds.Tick in
      let resets : List Event = each reset_events ticked ticked.facts.members in
      let reset : Cluster = cluster_over ticked resets in
      let expiries : List Event = events_of reset (next_expiries cluster) in
      let expired : Cluster = cluster_over reset expiries in
      let completes : List Event = each completion_events expired expired.facts.members in
      let first : List Event = book ++ event_of cluster kinds.Tick in
      upheld-then promise (composable head) book cluster (event_of cluster kinds.Tick)
      (resets ++ (expiries ++ completes)) (upheld-loseless head book cluster _ good (tt, tt)) (λ was.
      upheld-then promise (composable head) first ticked resets (expiries ++ completes)
      (upholds-all promise (composable head) reset_events upholds-reset ticked.facts.members first ticked was)
      (λ later.
      upheld-then promise (composable head) (first ++ resets) reset expiries completes
      (upheld-loseless head (first ++ resets) reset expiries later
      (all-more IsExpiry LosesNone expiries expiry-none
      (all-kinds IsExpiry reset (next_expiries cluster) (next-expiries cluster))))
      (upholds-all promise (composable head) completion_events upholds-completion expired.facts.members
      ((first ++ resets) ++ expiries) expired)))

-- ---- streams
confirm-none : (member from : Member) (end : Option _) → HoldsIf LosesNone (confirm_of member from end)
confirm-none member from None = tt
confirm-none member from (Some end) = tt

confirms-none : (cluster : Cluster) (member from : Member) → AllAre LosesNone (confirm_events cluster member from)
confirms-none cluster member from = none-if cluster _
    (confirm-none member from
    (unconfirmed_end member (slice_get cluster.facts.servers member.id.number)
    (slice_get cluster.facts.servers from.id.number)))

receive-none : (cluster : Cluster) (member from : Member) (news : Option Streamed)
    → AllAre LosesNone (receive_events cluster member from news)
receive-none cluster member from None = confirms-none cluster member from
receive-none cluster member from (Some streams.NotConnected) = tt
receive-none cluster member from (Some (streams.Diverged at)) = (tt, tt)
receive-none cluster member from (Some (streams.Received count)) = (tt, confirms-none _ member from)

receives-none : (cluster : Cluster) (most : ℕ) (member : Member) (source : Option Member)
    → AllAre LosesNone
    (for_some source
    (λ from. receive_events cluster member from (news_at cluster.facts.servers member.id.number from.id.number most)))
receives-none cluster most member None = tt
receives-none cluster most member (Some from) =
    receive-none cluster member from (news_at cluster.facts.servers member.id.number from.id.number most)

pub upholds-receive : (head : HeadText) (most : ℕ) (member : Member)
    → UpholdsAlways (losses_told head) (λ cluster. receive_events_at_most cluster most member)
upholds-receive head most member book cluster good =
    upheld-loseless head book cluster (receive_events_at_most cluster most member) good
    (receives-none cluster most member
    (source_of cluster.facts.members cluster.facts.servers cluster.facts.cuts member))

-- ---- commands
commit-none : (member : Member) (entry : Option Entry) → LosesNone (commit_of member entry)
commit-none member None = tt
commit-none member (Some entry) = tt

commands-none : (cluster : Cluster) → HoldsOfCommands LosesNone cluster
commands-none cluster = record {
  suspended = λ m. tt;
  resumed = λ m. tt;
  committed =
      λ m bytes least. commit-none m (entry_for cluster.facts.servers m.id.number (cluster.facts.commits + 1) bytes);
  frozen = λ m. tt;
  thawed = λ m. tt;
  slowed = λ m stop start. tt;
  links = λ change. tt;
}

kind-none : (cluster : Cluster) (command : Command) → HoldsIf LosesNone (command_kind cluster command)
kind-none cluster command =
    each-command-holds LosesNone cluster (record { killed = λ m. tt; crashed = λ m. tt }) command
    (command-holds LosesNone cluster (commands-none cluster) command)

pub upholds-command : (head : HeadText) (command : Command)
    → UpholdsAlways (losses_told head) (λ cluster. events_of cluster (kinds_of (command_kind cluster command)))
upholds-command head command book cluster good = upheld-loseless head book cluster _ good
    (none-if cluster (command_kind cluster command) (kind-none cluster command))

promoted-upheld : (head : HeadText) (book : List Event) (cluster : Cluster) (member : Member) (s : ServerFacts)
    (test : Bool) → TellsSoFar head book cluster → slice_get cluster.facts.servers member.id.number ≡ Some s
    → Upholds (losses_told head) book cluster
    (events_of cluster
    (cond test
    (kinds.Server (servers.Promoted (server_of member))
    ∷ beginning_kinds member (s.timeline + 1) cluster.facts.acknowledged s.log) []))
promoted-upheld head book cluster member s true good is =
    let kind : EventKind = kinds.Server (servers.Promoted (server_of member)) in
    let later : Cluster = cluster_after cluster kind in
    upheld-then (losses_told head) (composable head) book cluster (event_of cluster kind)
    (events_of later (beginning_kinds member (s.timeline + 1) cluster.facts.acknowledged s.log))
    (upheld-loseless head book cluster _ good (tt, tt))
    (λ was. upheld-begun head (book ++ event_of cluster kind) later was member (s.timeline + 1) s is)
promoted-upheld head book cluster member s false good is =
    upheld-none (losses_told head) (composable head) book cluster good

pub upholds-promote : (head : HeadText) (member : Member)
    → UpholdsAlways (losses_told head) (λ cluster. promote_events cluster member)
upholds-promote head member book cluster good =
    upheld-for_some (losses_told head) (composable head) book cluster (slice_get cluster.facts.servers member.id.number)
    (λ s. events_of cluster (promote_kinds member cluster.facts.acknowledged s)) good
    (λ s is. promoted-upheld head book cluster member s (is_replica s.state) good is)

disarm-none : (member : Member) (deadline : Option Ticks) → HoldsIf LosesNone (disarm_if member deadline)
disarm-none member None = tt
disarm-none member (Some deadline) = tt

disarms-none : (member : Member) (machine : Option Machine) → HoldsIf LosesNone (disarm_of member machine)
disarms-none member None = tt
disarms-none member (Some machine) = holds-cond _ None _ tt (disarm-none member machine.watchdog.deadline)

restart-none : (cluster : Cluster) (member : Member) (process : AgentProcess)
    → AllAre LosesNone
    (events_of cluster
    (agent_started member process ∷ kinds_of (disarm_at_start member process (machine_of cluster member))))
restart-none cluster member process = (
  kind-cond process.running (kinds.Note (AlreadyRunning member))
      (kinds.Agent (agents.Started member (process.incarnation + 1))) tt tt,
  none-if _ (disarm_at_start member process (machine_of cluster member))
      (holds-cond process.running None _ tt (disarms-none member (machine_of cluster member))),
)

pub upholds-restart : (head : HeadText) (id : MemberId)
    → UpholdsAlways (losses_told head) (λ cluster. for_some (declared cluster id) (agent_start_events cluster))
upholds-restart head id book cluster good =
    upheld-for_some (losses_told head) (composable head) book cluster (declared cluster id)
    (agent_start_events cluster) good (λ m is.
    upheld-for_some (losses_told head) (composable head) book cluster (slice_get cluster.facts.processes m.id.number)
    _ good (λ process at. upheld-loseless head book cluster _ good (restart-none cluster m process)))

-- ---- the key store
decision-none : (cluster : Cluster) (number : ℕ) (message : Message) (txn : Txn) (decision : Decision) (from : LinkEnd)
    → AllAre LosesNone (decision_events cluster number message txn decision from)
decision-none cluster number message txn decision ends.Store = tt
decision-none cluster number message txn Grant (ends.Member by) =
    (tt, sends-none _ (answer_message message (decision_body number txn Grant)))
decision-none cluster number message txn (Refusal key found) (ends.Member by) =
    (tt, sends-none _ (answer_message message (decision_body number txn (Refusal key found))))

answer-none : (cluster : Cluster) (number : ℕ) (message : Message) (body : Body)
    → AllAre LosesNone (answer_events_by cluster number message body)
answer-none cluster number message bodies.Read = sends-none cluster (answer_message message bodies.Snapshot)
answer-none cluster number message (bodies.Request txn) =
    decision-none cluster number message txn (decision_on cluster.facts.keys cluster.facts.clock txn) message.from
answer-none cluster number message _ = tt

pub upheld-arrival : (head : HeadText) (book : List Event) (cluster : Cluster) (number : ℕ) (message : InFlightFacts)
    → TellsSoFar head book cluster
    → Upholds (losses_told head) book cluster (arrival_events_at cluster number message ends.Store)
upheld-arrival head book cluster number message good =
    upheld-loseless head book cluster (arrival_events_at cluster number message ends.Store) good (
      tt,
      answer-none (cluster_after cluster (kinds.Message (messages.Delivered number))) number message.message
          message.message.body,
    )
