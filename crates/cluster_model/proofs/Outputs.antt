-- What holds of each event that an output of an agent may come to, by concern, holds of all of those that it comes to.
use Rattle.std.proofs.Common.{ℕ, ◌≡◌, ◌+◌, ◌==◌, ◌&&◌, ◌||◌, nat_le, Bool, true, false, cond, List, [], ◌∷◌, length, slice_get, Option, Some, None, option_and_then, refl}
use Rattle.pat_base.specs.declared.name.Name.{Name}
use Rattle.pat_base.specs.declared.server_state.Required.{Required}
use Rattle.pat_base.specs.declared.server_state.State.{State}
use Rattle.pat_base.specs.declared.server_state.State.TheVariants as states
use Rattle.pat_base.specs.declared.ticks.Ticks.{Ticks}
use Rattle.pat_base.specs.ServerState.{live}
use Rattle.wal_model.specs.declared.entry.Entry.{Entry}
use Rattle.wal_model.specs.Lacking.{lacks_in}
use Rattle.pg_cluster.specs.declared.answers.Rewound.{Rewound}
use Rattle.pg_model.specs.Facts.{ServerFacts, entries_of, is_creating, is_down, is_replica, is_up}
use Rattle.pg_model.specs.Running.{is_primary}
use Rattle.event_book.specs.declared.agent_note.AgentNote.{AgentNote}
use Rattle.event_book.specs.declared.agent_process.AgentProcess.{AgentProcess}
use Rattle.event_book.specs.declared.event.AgentEvent.TheVariants as agents
use Rattle.event_book.specs.declared.event.EventKind.{EventKind}
use Rattle.event_book.specs.declared.event.EventKind.TheVariants as kinds
use Rattle.event_book.specs.declared.event.LogEvent.TheVariants as logs
use Rattle.event_book.specs.declared.event.MessageEvent.TheVariants as messages
use Rattle.event_book.specs.declared.event.Note.{Note}
use Rattle.event_book.specs.declared.event.Note.TheVariants as notes
use Rattle.event_book.specs.declared.event.ReplicationEvent.TheVariants as replications
use Rattle.event_book.specs.declared.event.ServerEvent.TheVariants as servers
use Rattle.event_book.specs.declared.event.WatchdogEvent.TheVariants as watchdogs
use Rattle.event_book.specs.declared.link.LinkEnd.{LinkEnd}
use Rattle.event_book.specs.declared.member.Member.{Member}
use Rattle.event_book.specs.declared.message.Body.{Body}
use Rattle.event_book.specs.declared.message.Body.TheVariants as bodies
use Rattle.event_book.specs.declared.reason.Basis.{Basis}
use Rattle.event_book.specs.declared.reason.Basis.TheVariants as bases
use Rattle.event_book.specs.declared.reason.Reason.{Reason}
use Rattle.event_book.specs.Kinds.{AllAre}
use Rattle.event_book.specs.Members.{server_of}
use Rattle.rest_message.specs.Replies.{ReplyText}
use Rattle.agent_model.specs.declared.output.Feeding.{Feeding}
use Rattle.agent_model.specs.declared.output.Feeding.TheVariants as feedings
use Rattle.agent_model.specs.declared.output.Noting.{Noting}
use Rattle.agent_model.specs.declared.output.Noting.TheVariants as notings
use Rattle.agent_model.specs.declared.output.Outgoing.{Outgoing}
use Rattle.agent_model.specs.declared.output.Outgoing.TheVariants as outgoing
use Rattle.agent_model.specs.declared.output.Output.{Output}
use Rattle.agent_model.specs.declared.output.Output.TheVariants as outputs
use Rattle.agent_model.specs.declared.output.ServerOrder.{ServerOrder}
use Rattle.agent_model.specs.declared.output.ServerOrder.TheVariants as orders
use Rattle.agent_model.specs.declared.output.Target.{Target}
use Rattle.agent_model.specs.declared.output.Target.TheVariants as targets
use Rattle.agent_model.specs.declared.output.Telling.{Telling}
use Rattle.agent_model.specs.declared.output.Telling.TheVariants as tellings
use Rattle.cluster_model.specs.declared.beginning.Beginning.{Beginning}
use Rattle.cluster_model.specs.declared.beginning.Beginning.TheVariants as beginnings
use Rattle.cluster_model.specs.declared.heard_message.HeardMessage.{HeardMessage}
use Rattle.cluster_model.specs.Beginnings.{again_by, begin_kinds, beginning_of, kinds_by, server_restart_in, server_restart_kinds}
use Rattle.cluster_model.specs.Commands.{kinds_of}
use Rattle.cluster_model.specs.Inputs.{agent_at}
use Rattle.cluster_model.specs.Limits.{most_in_flight}
use Rattle.cluster_model.specs.Losing.{loss_if}
use Rattle.cluster_model.specs.Messages.{agent_message, feeding_kinds, lost_at_once, noting_kind, order_events, outgoing_events, output_events, receiver_of, replying_events, send_events, sending_events, server_order_events, telling_kind}
use Rattle.cluster_model.specs.Orders.{copying, declared_member, declared_name, following_of, hold_taken, is_same_required, repair_over, replica_start_kinds, require_of, required_names, rewinding, server_at, spoken_of, stop_kind, stop_kinds, stop_of, upstream_of, wipe_of}
use Rattle.cluster_model.specs.Parts.{events_of, for_some}
use Rattle.cluster_model.specs.Requests.{replying}
use Rattle.cluster_model.specs.State.{Cluster}
use Rattle.cluster_model.proofs.Founds.{holds-if, holds-mapped, holds-then, holds-unless, repaired-holds, told-holds}
use Rattle.cluster_model.proofs.Lists.{AllKinds, HoldsIf, all-kinds, one-kind}

-- it holds of each message that the agent of a member may send now, and of its loss at once
pub record HoldsOfMessages (P : EventKind → Type 0) (cluster : Cluster) (member : Member) : Type 0 where
  pub sent : (target : Target) (to : LinkEnd) → receiver_of cluster.facts.members target ≡ Some to
      → (incarnation sequence : ℕ) (body : Body)
      → P (kinds.Message (messages.Sent (cluster.facts.sent + 1) (agent_message member to incarnation sequence body)))
  pub lost : P (kinds.Message (messages.Lost (cluster.facts.sent + 1)))

-- a server may begin to accept writes by this order
abbrev pub LetsBegin : ServerOrder → Type 0
LetsBegin orders.Begin = Unit {0}
LetsBegin (orders.Restart as_primary) = Unit {0}
LetsBegin _ = ⊥

-- a server that accepts writes, or would, may end by this order
abbrev pub LetsEnd : ServerOrder → Type 0
LetsEnd (orders.Stop reason) = Unit {0}
LetsEnd orders.ShutDown = Unit {0}
LetsEnd (orders.Restart as_primary) = Unit {0}
LetsEnd _ = ⊥

-- the log of a server may be wiped or repaired by this order
abbrev pub LetsRepair : ServerOrder → Type 0
LetsRepair orders.Wipe = Unit {0}
LetsRepair (orders.Repair leader repair) = Unit {0}
LetsRepair _ = ⊥

-- it holds of each event that this order may come to at the server of a member
pub record HoldsOfOrder (P : EventKind → Type 0) (member : Member) (order : ServerOrder) : Type 0 where
  pub begins : LetsBegin order → (timeline : ℕ) → P (kinds.Server (servers.Began (server_of member) timeline))
  pub lacks : LetsBegin order → P (kinds.Replication (replications.Lacks (server_of member)))
  pub starts_as_primary : LetsBegin order → P (kinds.Server (servers.StartsAsPrimary (server_of member)))
  pub starts_as_replica : P (kinds.Server (servers.StartsAsReplica (server_of member)))
  pub follows : (leader : Member) → P (kinds.Server (servers.Follows (server_of member) (server_of leader)))
  pub says : (reason : Reason) → P (kinds.Note (notes.EndsServer member reason))
  pub ends : LetsEnd order → P (kinds.Server (servers.Ended (server_of member)))
  pub stops : LetsEnd order → P (kinds.Server (servers.Stops (server_of member)))
  pub wiped : LetsRepair order → P (kinds.Log (logs.Wiped (server_of member)))
  pub rewound : LetsRepair order → (leader : Member) (r : Rewound) → P (rewinding member leader r)
  pub copied : LetsRepair order → (leader : Member) → P (copying member leader)

-- it holds of each event that an agent tells of its watchdog
pub record HoldsOfFeedings (P : EventKind → Type 0) (member : Member) : Type 0 where
  pub measured : (since : Ticks) → P (kinds.Watchdog (watchdogs.Measured member since))
  pub armed : (until : Ticks) (answer : ℕ) → P (kinds.Watchdog (watchdogs.Armed member until answer))
  pub fed : (until : Ticks) (basis : Basis) → P (kinds.Watchdog (watchdogs.Fed member until basis))
  pub disarmed : P (kinds.Watchdog (watchdogs.Disarmed member))

-- an operator is told something
abbrev pub IsAnswer : Telling → Type 0
IsAnswer (tellings.Told request told) = Unit {0}
IsAnswer _ = ⊥

-- the member takes the leader key though the sync key doesn't name it
abbrev pub IsPassing : Telling → Type 0
IsPassing tellings.ClaimsOutsideSync = Unit {0}
IsPassing _ = ⊥

-- it holds of each event that this may come to, which the agent of a member tells
pub record HoldsOfTelling (P : EventKind → Type 0) (member : Member) (telling : Telling) : Type 0 where
  pub answers : IsAnswer telling → (reply : ReplyText) → P (replying member reply)
  pub holds : (until : Ticks) (incarnation sequence : ℕ) (from : Member)
      → P (hold_taken member until incarnation sequence from)
  pub passes : IsPassing telling → P (kinds.Agent (agents.Passed member))

-- an agent has this printed, and changes nothing by it
abbrev pub IsNoted : Note → Type 0
IsNoted (notes.OfAgent member note about) = Unit {0}
IsNoted (notes.StaysByFailsafe member) = Unit {0}
IsNoted _ = ⊥

-- it holds of each event that any output of the agent of a member may come to
pub record HoldsOfOutputs (P : EventKind → Type 0) (cluster : Cluster) (member : Member) : Type 0 where
  pub messages : HoldsOfMessages P cluster member
  pub orders : (order : ServerOrder) → HoldsOfOrder P member order
  pub feedings : HoldsOfFeedings P member
  pub required : (required : Required) (names : List Name)
      → P (kinds.Replication (replications.RequiredSet (server_of member) required names))
  pub tellings : (telling : Telling) → HoldsOfTelling P member telling
  pub notes : (note : Note) → IsNoted note → P (kinds.Note note)

module _ (P : EventKind → Type 0) (cluster : Cluster) (member : Member) where
  pub kind-holds : (found : Option EventKind) → HoldsIf P found → AllAre P (events_of cluster (kinds_of found))
  kind-holds found is = all-kinds P cluster (kinds_of found) (one-kind P found is)

  pub server-holds : (order : ServerFacts → Option EventKind) → ((s : ServerFacts) → HoldsIf P (order s))
      → AllAre P (server_order_events cluster member order)
  server-holds order all = kind-holds (option_and_then order (server_at cluster member))
      (holds-then P order (server_at cluster member) all)

  pub found-holds : {X : Type 0} (f : X → List EventKind) (found : Option X) → ((x : X) → AllKinds P (f x))
      → AllAre P (for_some found (λ x. events_of cluster (f x)))
  found-holds f None all = tt
  found-holds f (Some x) all = all-kinds P cluster (f x) (all x)

  -- ---- messages
  lost-holds : HoldsOfMessages P cluster member → (test : Bool)
      → AllKinds P (lost_at_once test (cluster.facts.sent + 1))
  lost-holds all true = (all.lost, tt)
  lost-holds all false = tt

  send-holds : HoldsOfMessages P cluster member → (target : Target) (to : LinkEnd)
      → receiver_of cluster.facts.members target ≡ Some to → (incarnation sequence : ℕ) (body : Body)
      → AllAre P (send_events cluster (agent_message member to incarnation sequence body))
  send-holds all target to is incarnation sequence body =
      all-kinds P cluster
      (kinds.Message (messages.Sent (cluster.facts.sent + 1) (agent_message member to incarnation sequence body))
      ∷ lost_at_once (nat_le most_in_flight (length cluster.facts.flight)) (cluster.facts.sent + 1)) (
        all.sent target to is incarnation sequence body,
        lost-holds all (nat_le most_in_flight (length cluster.facts.flight)),
      )

  sending-holds : HoldsOfMessages P cluster member → (found : Option AgentProcess) (target : Target)
      (to : Option LinkEnd) → receiver_of cluster.facts.members target ≡ to → (sequence : ℕ) (body : Body)
      → AllAre P (sending_events cluster member found to sequence body)
  sending-holds all None target to is sequence body = tt
  sending-holds all (Some process) target None is sequence body = tt
  sending-holds all (Some process) target (Some to) is sequence body =
      send-holds all target to is process.incarnation sequence body

  replying-holds : HoldsOfMessages P cluster member → (target : Target) (to : Option LinkEnd)
      → receiver_of cluster.facts.members target ≡ to → (incarnation sequence : ℕ) (body : Body)
      → AllAre P (replying_events cluster member to incarnation sequence body)
  replying-holds all target None is incarnation sequence body = tt
  replying-holds all target (Some to) is incarnation sequence body =
      send-holds all target to is incarnation sequence body

  pub message-holds : HoldsOfMessages P cluster member → (written : Outgoing)
      → AllAre P (outgoing_events cluster member written)
  message-holds all (outgoing.Send to sequence body) =
      sending-holds all (slice_get cluster.facts.processes member.id.number) to
      (receiver_of cluster.facts.members to) refl sequence body
  message-holds all (outgoing.Answer to incarnation sequence answer) =
      replying-holds all (targets.Member to) (receiver_of cluster.facts.members (targets.Member to)) refl
      incarnation sequence (bodies.Answer answer)
  message-holds all (outgoing.FailsafeAnswer to incarnation sequence accepted) =
      replying-holds all (targets.Member to) (receiver_of cluster.facts.members (targets.Member to)) refl
      incarnation sequence (bodies.FailsafeAnswer accepted)

  -- ---- orders to the server
  module _ (order : ServerOrder) (all : HoldsOfOrder P member order) where
    loss-holds : LetsBegin order → (test : Bool) → AllKinds P (kinds_of (loss_if member test))
    loss-holds is true = (all.lacks is, tt)
    loss-holds is false = tt

    begin-holds : LetsBegin order → (acknowledged : List ℕ) (log : Option (List Entry)) (begins : Option Beginning)
        → AllKinds P (kinds_by member acknowledged log begins)
    begin-holds is acknowledged log None = tt
    begin-holds is acknowledged log (Some (beginnings.AtOnce timeline)) =
        (all.begins is timeline, loss-holds is (lacks_in (entries_of log) acknowledged))
    begin-holds is acknowledged log (Some beginnings.WithItsStart) = (all.starts_as_primary is, tt)

    again-holds : LetsBegin order → LetsEnd order → (acknowledged : List ℕ) (state : State) (s : ServerFacts)
        → AllKinds P (server_restart_in member acknowledged state s)
    again-holds is ends acknowledged states.Primary s =
        (all.ends ends, begin-holds is acknowledged s.log (Some (again_by s.timeline s.start_delay)))
    again-holds is ends acknowledged states.Replica s = (all.starts_as_replica, tt)
    again-holds is ends acknowledged _ s = tt

    following-holds : (leader : Option Member) → HoldsIf P (following_of member leader)
    following-holds None = tt
    following-holds (Some leader) = all.follows leader

    upstream-holds : (leader : Option Member) (test : Bool) → HoldsIf P (cond test (following_of member leader) None)
    upstream-holds leader true = following-holds leader
    upstream-holds leader false = tt

    started-holds : (leader : Option Member) (test : Bool)
        → AllKinds P
        (cond test (kinds.Server (servers.StartsAsReplica (server_of member)) ∷ kinds_of (following_of member leader))
        [])
    started-holds leader true =
        (all.starts_as_replica, one-kind P (following_of member leader) (following-holds leader))
    started-holds leader false = tt

    stop-holds : LetsEnd order → (test : Bool)
        → P (cond test (kinds.Server (servers.Ended (server_of member)))
        (kinds.Server (servers.Stops (server_of member))))
    stop-holds ends true = all.ends ends
    stop-holds ends false = all.stops ends

    stopped-holds : LetsEnd order → (s : ServerFacts) → HoldsIf P (stop_of member s)
    stopped-holds ends s = holds-if P (is_up s.state) (stop_kind member s.state s.stop_delay)
        (stop-holds ends (is_primary s.state && s.stop_delay.0 == 0))

  pub order-holds : (order : ServerOrder) → HoldsOfOrder P member order → AllAre P (order_events cluster member order)
  order-holds orders.Begin all =
      found-holds (begin_kinds member cluster.facts.acknowledged) (server_at cluster member)
      (λ s. begin-holds orders.Begin all tt cluster.facts.acknowledged s.log (beginning_of s))
  order-holds (orders.StartReplica leader) all =
      let found = declared_member cluster.facts.members leader in
      found-holds (replica_start_kinds member found) (server_at cluster member)
      (λ s. started-holds (orders.StartReplica leader) all found (is_down s.state))
  order-holds (orders.Stop reason) all =
      found-holds (stop_kinds member reason) (server_at cluster member)
      (λ s. (all.says reason, one-kind P (stop_of member s) (stopped-holds (orders.Stop reason) all tt s)))
  order-holds orders.ShutDown all = server-holds (stop_of member) (stopped-holds orders.ShutDown all tt)
  order-holds (orders.Restart as_primary) all =
      found-holds (server_restart_kinds member cluster.facts.acknowledged) (server_at cluster member)
      (λ s. again-holds (orders.Restart as_primary) all tt tt cluster.facts.acknowledged s.state s)
  order-holds orders.Wipe all =
      server-holds (wipe_of member)
      (λ s. holds-unless P (is_creating s.state || live s.state) (Some (kinds.Log (logs.Wiped (server_of member))))
      (all.wiped tt))
  order-holds (orders.Follow leader) all =
      let found = slice_get cluster.facts.members leader.number in
      server-holds (upstream_of member found)
      (λ s. upstream-holds (orders.Follow leader) all found (is_replica s.state))
  order-holds (orders.Repair leader repair) all =
      let found = slice_get cluster.facts.members leader.number in
      kind-holds (option_and_then (repair_over cluster.facts.cuts cluster.facts.servers member repair) found)
      (repaired-holds P cluster.facts.cuts cluster.facts.servers member repair found (all.rewound tt) (all.copied tt))

  -- commits wait for others
  pub required-holds : (required : Required)
      → P (kinds.Replication (replications.RequiredSet (server_of member) required
      (required_names cluster.facts.members required)))
      → AllAre P (server_order_events cluster member (require_of cluster.facts.members member required))
  required-holds required is =
      server-holds (require_of cluster.facts.members member required)
      (λ s. holds-unless P (is_same_required s.required required)
      (Some (kinds.Replication (replications.RequiredSet (server_of member) required
      (required_names cluster.facts.members required))))
      is)

  -- ---- the watchdog, what is told, and notes
  pub feeding-holds : (heard : HeardMessage) → HoldsOfFeedings P member → (fed : Feeding)
      → AllKinds P (feeding_kinds member heard fed)
  feeding-holds heard all (feedings.Armed until) = (all.measured heard.sent, (all.armed until heard.number, tt))
  feeding-holds heard all (feedings.Fed until) =
      (all.measured heard.sent, (all.fed until (bases.Grant heard.number), tt))
  feeding-holds heard all (feedings.FedByFailsafe until members sequence since) =
      (all.measured since, (all.fed until (bases.Acknowledgements members sequence), tt))
  feeding-holds heard all feedings.Disarmed = (all.disarmed, tt)

  pub telling-holds : (heard : HeardMessage) (telling : Telling) → HoldsOfTelling P member telling
      → HoldsIf P (telling_kind cluster member heard telling)
  telling-holds heard (tellings.Told request told) all =
      told-holds P member (agent_at cluster.agents member.id.number) told (all.answers tt)
  telling-holds heard (tellings.HoldTaken until from sequence) all =
      holds-mapped P (hold_taken member until heard.incarnation sequence)
      (slice_get cluster.facts.members from.number) (all.holds until heard.incarnation sequence)
  telling-holds heard tellings.ClaimsOutsideSync all = all.passes tt

  pub noting-holds : ((note : Note) → IsNoted note → P (kinds.Note note)) → (noting : Noting)
      → P (noting_kind cluster.facts.members member noting)
  noting-holds all (notings.Agent note) =
      all (notes.OfAgent member note (declared_name cluster.facts.members (spoken_of note))) tt
  noting-holds all notings.StaysByFailsafe = all (notes.StaysByFailsafe member) tt

  pub output-holds : (heard : HeardMessage) → HoldsOfOutputs P cluster member → (output : Output)
      → AllAre P (output_events member heard cluster output)
  output-holds heard all (outputs.Message written) = message-holds all.messages written
  output-holds heard all (outputs.Server order) = order-holds order (all.orders order)
  output-holds heard all (outputs.Watchdog fed) =
      all-kinds P cluster (feeding_kinds member heard fed) (feeding-holds heard all.feedings fed)
  output-holds heard all (outputs.Require required) =
      required-holds required (all.required required (required_names cluster.facts.members required))
  output-holds heard all (outputs.Tell telling) =
      kind-holds (telling_kind cluster member heard telling) (telling-holds heard telling (all.tellings telling))
  output-holds heard all (outputs.Note noting) = (noting-holds all.notes noting, tt)
