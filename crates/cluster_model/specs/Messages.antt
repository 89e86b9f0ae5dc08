-- What messages bring: how they are sent, come, and are decided on.
use Rattle.std.specs.Prelude.{ℕ, ◌+◌, nat_le, Bool, true, false, if◌then◌else◌, List, [], ◌∷◌, Option, Some, None, option_and_then, option_map, length, slice_get}
use Rattle.store_keys.specs.declared.action.OperatorAction.{OperatorAction}
use Rattle.store_keys.specs.declared.txn.Txn.{Txn}
use Rattle.store_keys.specs.declared.txn.Txn.TheVariants as txns
use Rattle.store_keys.specs.declared.txn.SyncTxn.TheVariants as sync_txns
use Rattle.lease_store.specs.Decision.{Decision, Grant, Refusal, decision_on}
use Rattle.store_keys.specs.TxnKinds.{txn_kind_of}
use Rattle.pat_base.specs.declared.name.Name.{Name}
use Rattle.event_book.specs.NameLists.{names_of}
use Rattle.lease_store.specs.Writes.{is_lease}
use Rattle.pg_model.specs.Facts.{ServerFacts}
use Rattle.event_book.specs.declared.agent_process.AgentProcess.{AgentProcess}
use Rattle.event_book.specs.declared.event.AgentEvent.{AgentEvent}
use Rattle.event_book.specs.declared.event.AgentEvent.TheVariants.{Operated, Passed, Woken}
use Rattle.event_book.specs.declared.event.Event.{Event}
use Rattle.event_book.specs.declared.event.EventKind.{EventKind}
use Rattle.event_book.specs.declared.event.EventKind.TheVariants as kinds
use Rattle.event_book.specs.declared.event.MessageEvent.TheVariants.{Sent, Delivered, Lost}
use Rattle.event_book.specs.declared.event.Note.TheVariants.{ConnectionFailed, NoMessage, StaysByFailsafe, Undeliverable}
use Rattle.event_book.specs.declared.event.StoreEvent.TheVariants as stores
use Rattle.event_book.specs.declared.event.WatchdogEvent.TheVariants.{Disarmed}
use Rattle.event_book.specs.declared.link.LinkEnd.{LinkEnd}
use Rattle.event_book.specs.declared.link.LinkEnd.TheVariants as link_ends
use Rattle.event_book.specs.declared.member.Member.{Member}
use Rattle.event_book.specs.declared.message.Body.{Body}
use Rattle.event_book.specs.declared.message.Body.TheVariants as bodies
use Rattle.event_book.specs.declared.message.Message.{Message}
use Rattle.event_book.specs.Flight.{InFlightFacts, in_flight}
use Rattle.event_book.specs.declared.reason.Reason.{Reason}
use Rattle.rest_message.specs.Requests.{RequestText, request_text}
use Rattle.rest_answer.specs.Refusals.{refusal_reply}
use Rattle.rest_answer.specs.Answers.{Answered, Acts, Replies}
use Rattle.agent_model.specs.declared.heard.Heard.{Heard}
use Rattle.agent_model.specs.declared.heard.Heard.TheVariants.{Wake, Operated as HearsOperator}
use Rattle.agent_model.specs.declared.output.Output.{Output}
use Rattle.agent_model.specs.declared.output.Output.TheVariants as outputs
use Rattle.agent_model.specs.declared.output.Feeding.{Feeding}
use Rattle.agent_model.specs.declared.output.Noting.{Noting}
use Rattle.agent_model.specs.declared.output.Outgoing.{Outgoing}
use Rattle.agent_model.specs.declared.output.ServerOrder.{ServerOrder}
use Rattle.agent_model.specs.declared.output.Telling.{Telling}
use Rattle.agent_model.specs.declared.output.Feeding.TheVariants as feedings
use Rattle.agent_model.specs.declared.output.Noting.TheVariants as notings
use Rattle.agent_model.specs.declared.output.Outgoing.TheVariants as outgoing
use Rattle.agent_model.specs.declared.output.ServerOrder.TheVariants as orders
use Rattle.agent_model.specs.declared.output.Telling.TheVariants as tellings
use Rattle.agent_model.specs.declared.output.Repair.{Repair}
use Rattle.agent_model.specs.declared.output.Target.{Target}
use Rattle.agent_model.specs.declared.output.Target.TheVariants as targets
use Rattle.agent_model.specs.Agents.{Outcome}
use Rattle.cluster_model.specs.declared.asker.Asker.{Asker}
use Rattle.cluster_model.specs.declared.asker.Asker.TheVariants as askers
use Rattle.cluster_model.specs.declared.step.Visit.{Visit}
use Rattle.cluster_model.specs.declared.step.Visit.TheVariants as visits
use Rattle.cluster_model.specs.declared.delivery.Delivery.{Delivery}
use Rattle.cluster_model.specs.declared.delivery.Delivery.TheVariants as deliveries
use Rattle.cluster_model.specs.declared.heard_message.HeardMessage.{HeardMessage}
use Rattle.cluster_model.specs.Deliveries.{delivery_of}
use Rattle.cluster_model.specs.Hearing.{heard_from}
use Rattle.cluster_model.specs.Beginnings.{begin_kinds, server_restart_kinds}
use Rattle.cluster_model.specs.Commands.{kinds_of}
use Rattle.cluster_model.specs.Inputs.{agent_at, moment_of, outcome_of, outcome_of_heard, may_act, outputs_of, standing_of, is_to_wake}
use Rattle.cluster_model.specs.Limits.{most_in_flight}
use Rattle.cluster_model.specs.Orders.{agent_noting, arming, declared_member, failsafe_feeding, feed_kinds, feeding, hold_taken, repair_over, replica_start_kinds, require_of, server_at, stop_kinds, stop_of, upstream_of, wipe_of}
use Rattle.cluster_model.specs.Parts.{event_of, events_of, events_then, for_some, each}
use Rattle.cluster_model.specs.Requests.{action_of, answer_at, replying, silence, told_kind}
use Rattle.cluster_model.specs.State.{Cluster}

-- the loss of the message of this number, where as many are in flight as may be
abbrev pub lost_at_once : Bool → ℕ → List EventKind
lost_at_once true number = kinds.Message (Lost number) ∷ []
lost_at_once false number = []

-- a message is sent under the next number; one that is sent beyond the most in flight is lost at once
abbrev pub send_events : Cluster → Message → List Event
send_events cluster message =
    events_of cluster
    (kinds.Message (Sent (cluster.facts.sent + 1) message)
    ∷ lost_at_once (nat_le most_in_flight (length cluster.facts.flight)) (cluster.facts.sent + 1))

-- the message of a member's agent to this end of a link, in its incarnation of this number
abbrev pub agent_message : Member → LinkEnd → ℕ → ℕ → Body → Message
agent_message member to incarnation sequence body =
    record { from = link_ends.Member member; to = to; incarnation = incarnation; sequence = sequence; body = body }

-- whom an agent writes to, if that is declared
abbrev pub receiver_of : List Member → Target → Option LinkEnd
receiver_of members targets.Store = Some link_ends.Store
receiver_of members (targets.Member id) =
    option_map (λ (member : Member). link_ends.Member member) (slice_get members id.number)

-- what an agent sends, in the run in which it is
abbrev pub sending_events : Cluster → Member → Option AgentProcess → Option LinkEnd → ℕ → Body → List Event
sending_events cluster member (Some process) (Some to) sequence body =
    send_events cluster (agent_message member to process.incarnation sequence body)
sending_events cluster member _ _ sequence body = []

-- what an agent answers another member, in the run in which that one asked
abbrev pub replying_events : Cluster → Member → Option LinkEnd → ℕ → ℕ → Body → List Event
replying_events cluster member None incarnation sequence body = []
replying_events cluster member (Some to) incarnation sequence body =
    send_events cluster (agent_message member to incarnation sequence body)

-- the server of a member starts as a replica, where it is down
abbrev pub replica_start_events : Cluster → Member → Option Member → List Event
replica_start_events cluster member leader =
    for_some (server_at cluster member) (λ s. events_of cluster (replica_start_kinds member leader s))

-- the agent of a member ends its server
abbrev pub stop_events : Cluster → Member → Reason → List Event
stop_events cluster member reason =
    for_some (server_at cluster member) (λ s. events_of cluster (stop_kinds member reason s))

-- the server of a member begins by the order of its agent, where it can
abbrev pub begin_events : Cluster → Member → List Event
begin_events cluster member =
    for_some (server_at cluster member) (λ s. events_of cluster (begin_kinds member cluster.facts.acknowledged s))

-- the server of a member starts again by the order of its agent
abbrev pub server_restart_events : Cluster → Member → List Event
server_restart_events cluster member = for_some (server_at cluster member)
    (λ s. events_of cluster (server_restart_kinds member cluster.facts.acknowledged s))

-- the log of a member's server is repaired by this leader's, if there is such a member, where it can be
abbrev pub repair_events : Cluster → Member → Repair → Option Member → List Event
repair_events cluster member repair leader = events_of cluster
    (kinds_of (option_and_then (repair_over cluster.facts.cuts cluster.facts.servers member repair) leader))

-- what the agent of a member orders its server to do, where that can be done there
abbrev pub server_order_events : Cluster → Member → (ServerFacts → Option EventKind) → List Event
server_order_events cluster member order =
    events_of cluster (kinds_of (option_and_then order (server_at cluster member)))

-- what the agent of a member writes to another end of a link
abbrev pub outgoing_events : Cluster → Member → Outgoing → List Event
outgoing_events cluster member (outgoing.Send to sequence body) = sending_events cluster member
    (slice_get cluster.facts.processes member.id.number) (receiver_of cluster.facts.members to) sequence body
outgoing_events cluster member (outgoing.Answer to incarnation sequence answer) = replying_events cluster member
    (receiver_of cluster.facts.members (targets.Member to)) incarnation sequence (bodies.Answer answer)
outgoing_events cluster member (outgoing.FailsafeAnswer to incarnation sequence accepted) =
    replying_events cluster member (receiver_of cluster.facts.members (targets.Member to)) incarnation sequence
    (bodies.FailsafeAnswer accepted)

-- what it orders its server to do
abbrev pub order_events : Cluster → Member → ServerOrder → List Event
order_events cluster member orders.Begin = begin_events cluster member
order_events cluster member (orders.StartReplica leader) =
    replica_start_events cluster member (declared_member cluster.facts.members leader)
order_events cluster member (orders.Stop reason) = stop_events cluster member reason
order_events cluster member orders.ShutDown = server_order_events cluster member (stop_of member)
order_events cluster member (orders.Restart as_primary) = server_restart_events cluster member
order_events cluster member orders.Wipe = server_order_events cluster member (wipe_of member)
order_events cluster member (orders.Follow leader) =
    server_order_events cluster member (upstream_of member (slice_get cluster.facts.members leader.number))
order_events cluster member (orders.Repair leader repair) =
    repair_events cluster member repair (slice_get cluster.facts.members leader.number)

-- what it did to its watchdog, on the message that it heard
abbrev pub feeding_kinds : Member → HeardMessage → Feeding → List EventKind
feeding_kinds member heard (feedings.Armed until) = feed_kinds member heard.sent (arming member until heard)
feeding_kinds member heard (feedings.Fed until) = feed_kinds member heard.sent (feeding member until heard)
feeding_kinds member heard (feedings.FedByFailsafe until members sequence since) =
    feed_kinds member since (failsafe_feeding member until members sequence)
feeding_kinds member heard feedings.Disarmed = kinds.Watchdog (Disarmed member) ∷ []

-- what it tells, on the message that it heard
abbrev pub telling_kind : Cluster → Member → HeardMessage → Telling → Option EventKind
telling_kind cluster member heard (tellings.Told request told) =
    told_kind member (agent_at cluster.agents member.id.number) told
telling_kind cluster member heard (tellings.HoldTaken until from sequence) = option_map
    (hold_taken member until heard.incarnation sequence) (slice_get cluster.facts.members from.number)
telling_kind cluster member heard tellings.ClaimsOutsideSync = Some (kinds.Agent (Passed member))

-- what it notes, among these members
abbrev pub noting_kind : List Member → Member → Noting → EventKind
noting_kind members member (notings.Agent note) = agent_noting members member note
noting_kind members member notings.StaysByFailsafe = kinds.Note (StaysByFailsafe member)

-- what an output of the agent of a member comes to, on the message that it heard
abbrev pub output_events : Member → HeardMessage → Cluster → Output → List Event
output_events member heard cluster (outputs.Message written) = outgoing_events cluster member written
output_events member heard cluster (outputs.Server order) = order_events cluster member order
output_events member heard cluster (outputs.Watchdog fed) = events_of cluster (feeding_kinds member heard fed)
output_events member heard cluster (outputs.Require required) =
    server_order_events cluster member (require_of cluster.facts.members member required)
output_events member heard cluster (outputs.Tell telling) =
    events_of cluster (kinds_of (telling_kind cluster member heard telling))
output_events member heard cluster (outputs.Note noting) =
    event_of cluster (noting_kind cluster.facts.members member noting)

-- what the outputs of an input come to, one after another
abbrev pub input_events : Cluster → Member → HeardMessage → Option Outcome → List Event
input_events cluster member heard outcome = each (output_events member heard) cluster (outputs_of outcome)

-- no message is heard by an agent that is woken
abbrev pub no_message : HeardMessage
no_message = record { number = 0; incarnation = 0; sent = record { 0 = 0 } }

-- an input that no message brings to the agent of a member, as this event: it acts on what it hears by it
abbrev pub own_input_events : Cluster → Member → AgentEvent → Heard → List Event
own_input_events cluster member input heard = events_then cluster (event_of cluster (kinds.Agent input))
    (λ later. input_events later member no_message (outcome_of cluster member heard))

-- the agent of a member is woken, and acts
abbrev pub wake_events_of : Cluster → Member → List Event
wake_events_of cluster member = own_input_events cluster member (Woken member) Wake

-- a script wakes the agent of a member, where it runs and isn't
-- suspended: one with nothing else to do takes note of its server
abbrev pub turn_events_if : Cluster → Member → AgentProcess → List Event
turn_events_if cluster member process = if may_act process then wake_events_of cluster member else []

-- a script wakes the agent of a member, where there is one that may act
abbrev pub turn_events : Cluster → Member → List Event
turn_events cluster member =
    for_some (slice_get cluster.facts.processes member.id.number) (turn_events_if cluster member)

-- the agent of a member is woken, where it has something to do
abbrev pub wake_events_if : Cluster → Member → AgentProcess → List Event
wake_events_if cluster member process =
    if is_to_wake (moment_of cluster) process (standing_of cluster member) then wake_events_of cluster member else []

-- the agent of a member is woken, where there is one with something to do
abbrev pub wake_events : Cluster → Member → List Event
wake_events cluster member =
    for_some (slice_get cluster.facts.processes member.id.number) (wake_events_if cluster member)

-- an answer of the key store
abbrev pub answer_message : Message → Body → Message
answer_message message body = record {
  from = link_ends.Store;
  to = message.from;
  incarnation = message.incarnation;
  sequence = message.sequence;
  body = body;
}

-- the agent of a member does what an operator asks
abbrev pub operate_events : Cluster → Member → OperatorAction → List Event
operate_events cluster member action = own_input_events cluster member (Operated member action) (HearsOperator action)

-- it does so, or replies at once
abbrev pub answered_events : Cluster → Member → Outcome → Answered → List Event
answered_events cluster member o (Acts asked) = operate_events cluster member (action_of o asked)
answered_events cluster member o (Replies reply) = event_of cluster (replying member reply)

-- the agent of a member that stands so hears a request
abbrev pub request_events_of : Cluster → RequestText → Member → Outcome → List Event
request_events_of cluster asked member o = answered_events cluster member o (answer_at (moment_of cluster) o asked)

-- what a request to the agent of a member comes to, which may act or not
abbrev pub request_events_if : Cluster → Asker → RequestText → Member → AgentProcess → List Event
request_events_if cluster asker asked member process =
    if may_act process then for_some (standing_of cluster member) (request_events_of cluster asked member)
    else event_of cluster (kinds.Note (silence asker member))

-- what a request to the agent of a member comes to
abbrev pub request_events : Cluster → Asker → RequestText → Member → List Event
request_events cluster asker asked member =
    for_some (slice_get cluster.facts.processes member.id.number) (request_events_if cluster asker asked member)

-- what a connection brings to the agent of a member
abbrev pub visit_events : Cluster → Visit → Member → List Event
visit_events cluster (visits.Request request) member =
    request_events cluster askers.Connection (request_text request) member
visit_events cluster (visits.Refusal refusal) member = event_of cluster (replying member (refusal_reply refusal))
visit_events cluster visits.Failure member = event_of cluster (kinds.Note ConnectionFailed)

-- the names of the standbys that a request publishes
abbrev pub published_names : List Member → Txn → List Name
published_names members (txns.Sync (sync_txns.SetSync revision sync standbys may_lack)) = names_of standbys members
published_names members _ = []

-- the key store's decision on the request that a message carries, as an event, among these members
abbrev pub decision_kind : List Member → ℕ → Member → Txn → Decision → EventKind
decision_kind members number by txn Grant = kinds.Store (stores.Granted number by txn (published_names members txn))
decision_kind members number by txn (Refusal key found) =
    kinds.Store (stores.Refused number by (txn_kind_of txn) key found)

-- and what the key store answers
abbrev pub decision_body : ℕ → Txn → Decision → Body
decision_body number txn Grant = bodies.Granted number (is_lease txn)
decision_body number txn (Refusal key found) = bodies.Refused number key found

-- the key store decides on a member's request, and answers it
abbrev pub decision_events : Cluster → ℕ → Message → Txn → Decision → LinkEnd → List Event
decision_events cluster number message txn decision link_ends.Store = []
decision_events cluster number message txn decision (link_ends.Member by) =
    events_then cluster (event_of cluster (decision_kind cluster.facts.members number by txn decision))
    (λ later. send_events later (answer_message message (decision_body number txn decision)))

-- what the key store answers to a message that says this
abbrev pub answer_events_by : Cluster → ℕ → Message → Body → List Event
answer_events_by cluster number message bodies.Read = send_events cluster (answer_message message bodies.Snapshot)
answer_events_by cluster number message (bodies.Request txn) =
    decision_events cluster number message txn (decision_on cluster.facts.keys cluster.facts.clock txn) message.from
answer_events_by cluster number message _ = []

-- the key store answers a read with a snapshot, and a request with its decision
abbrev pub answer_events : Cluster → ℕ → Message → List Event
answer_events cluster number message = answer_events_by cluster number message message.body

-- the message of this number, as its receiver hears it
abbrev pub heard_message : ℕ → InFlightFacts → HeardMessage
heard_message number message =
    record { number = number; incarnation = message.message.incarnation; sent = message.sent }

-- the agent of a member acts on a message that comes
abbrev pub hear_events : Cluster → ℕ → InFlightFacts → Member → List Event
hear_events cluster number message member =
    events_then cluster (event_of cluster (kinds.Message (Delivered number)))
    (λ later. input_events later member (heard_message number message)
    (outcome_of_heard cluster member (heard_from cluster message)))

-- a message comes to this receiver: the key store answers it, or the agent of a member acts on it
abbrev pub arrival_events_at : Cluster → ℕ → InFlightFacts → LinkEnd → List Event
arrival_events_at cluster number message link_ends.Store = events_then cluster
    (event_of cluster (kinds.Message (Delivered number))) (λ later. answer_events later number message.message)
arrival_events_at cluster number message (link_ends.Member member) = hear_events cluster number message member

-- a message comes to its receiver, which acts on it
abbrev pub arrival_events : Cluster → ℕ → InFlightFacts → List Event
arrival_events cluster number message = arrival_events_at cluster number message message.message.to

-- what becomes of a message in flight, by what stands between it and its receiver
abbrev pub message_events_by : Cluster → ℕ → InFlightFacts → Delivery → List Event
message_events_by cluster number message deliveries.Open = arrival_events cluster number message
message_events_by cluster number message deliveries.Cut = event_of cluster (kinds.Message (Lost number))
message_events_by cluster number message deliveries.Suspended = []
message_events_by cluster number message deliveries.Gone = event_of cluster (kinds.Message (Lost number))

-- a message in flight comes to its receiver, is lost, or is kept for a receiver that is suspended
abbrev pub message_events : Cluster → ℕ → List Event
message_events cluster number = for_some (in_flight cluster.facts.flight number)
    (λ message.
    message_events_by cluster number message (delivery_of cluster.facts.cuts cluster.facts.processes message.message))

-- a script delivers a message where nothing stands in its way
abbrev pub deliver_events_by : Cluster → ℕ → InFlightFacts → Delivery → List Event
deliver_events_by cluster number message deliveries.Open = arrival_events cluster number message
deliver_events_by cluster number message deliveries.Cut = event_of cluster (kinds.Note (Undeliverable number))
deliver_events_by cluster number message deliveries.Suspended = event_of cluster (kinds.Note (Undeliverable number))
deliver_events_by cluster number message deliveries.Gone = event_of cluster (kinds.Message (Lost number))

-- a script delivers a message; a note says so where none of this number is in flight
abbrev pub deliver_events : Cluster → ℕ → Option InFlightFacts → List Event
deliver_events cluster number None = event_of cluster (kinds.Note (NoMessage number))
deliver_events cluster number (Some message) =
    deliver_events_by cluster number message (delivery_of cluster.facts.cuts cluster.facts.processes message.message)

-- a script loses a message that is in flight, wherever it goes
abbrev pub lose_events : Cluster → ℕ → Option InFlightFacts → List Event
lose_events cluster number None = event_of cluster (kinds.Note (NoMessage number))
lose_events cluster number (Some message) = event_of cluster (kinds.Message (Lost number))
