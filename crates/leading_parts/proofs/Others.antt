-- What the agents of other members do happens elsewhere.
use Rattle.std.proofs.Common.{ℕ, ◌≡◌, ◌≢◌, ◌+◌, nat_le, Bool, true, false, List, [], ◌∷◌, length, Option, Some, None, option_map, slice_get, refl, sym, ap, subst, ◌∙◌}
use Rattle.store_keys.specs.declared.txn.Txn.{Txn}
use Rattle.lease_store.specs.Decision.{Decision, Grant, Refusal, decision_on}
use Rattle.event_book.specs.declared.agent_process.AgentProcess.{AgentProcess}
use Rattle.event_book.specs.declared.event.AgentEvent.TheVariants as agents
use Rattle.event_book.specs.declared.event.Event.{Event}
use Rattle.event_book.specs.declared.event.EventKind.{EventKind}
use Rattle.event_book.specs.declared.event.EventKind.TheVariants as kinds
use Rattle.event_book.specs.declared.event.LogEvent.TheVariants as logs
use Rattle.event_book.specs.declared.event.MessageEvent.TheVariants as messages
use Rattle.event_book.specs.declared.event.ServerEvent.TheVariants as servers
use Rattle.event_book.specs.declared.event.WatchdogEvent.TheVariants as watchdogs
use Rattle.event_book.specs.declared.link.LinkEnd.{LinkEnd}
use Rattle.event_book.specs.declared.link.LinkEnd.TheVariants as ends
use Rattle.event_book.specs.declared.member.Member.{Member}
use Rattle.event_book.specs.declared.member.ServerOf.{ServerOf}
use Rattle.event_book.specs.declared.message.Body.{Body}
use Rattle.event_book.specs.declared.message.Body.TheVariants as bodies
use Rattle.event_book.specs.declared.message.Message.{Message}
use Rattle.event_book.specs.Flight.{InFlightFacts, in_flight}
use Rattle.event_book.specs.Kinds.{AllAre}
use Rattle.event_book.specs.Members.{server_of}
use Rattle.agent_model.specs.declared.heard.Heard.TheVariants.{Wake}
use Rattle.agent_model.specs.declared.output.Output.{Output}
use Rattle.agent_model.specs.declared.output.Output.TheVariants as outputs
use Rattle.agent_model.specs.declared.output.Outgoing.TheVariants as outgoing
use Rattle.agent_model.specs.declared.output.Telling.TheVariants as tellings
use Rattle.agent_model.specs.declared.output.Target.TheVariants as targets
use Rattle.agent_model.specs.Agents.{Outcome}
use Rattle.cluster_model.specs.declared.heard_message.HeardMessage.{HeardMessage}
use Rattle.cluster_model.specs.Cluster.{cluster_after, cluster_over}
use Rattle.cluster_model.specs.Commands.{kinds_of}
use Rattle.cluster_model.specs.Hearing.{heard_from}
use Rattle.cluster_model.specs.Inputs.{outcome_of, outcome_of_heard, outputs_of}
use Rattle.cluster_model.specs.Limits.{most_in_flight}
use Rattle.cluster_model.specs.Messages.{answer_events, answer_events_by, answer_message, arrival_events_at, decision_body, decision_events, decision_kind, agent_message, hear_events, heard_message, input_events, lost_at_once, no_message, output_events, receiver_of, replying_events, send_events, sending_events, wake_events_of}
use Rattle.cluster_model.specs.Orders.{hold_taken}
use Rattle.cluster_model.specs.Parts.{each, events_of}
use Rattle.cluster_model.specs.State.{Cluster}
use Rattle.cluster_model.proofs.Founds.{holds-mapped}
use Rattle.cluster_model.proofs.Lists.{all-both, all-kinds, all-more, one-kind}
use Rattle.lease_model.proofs.Tools.{some-is}
use Rattle.lease_parts.specs.Machines.{run_in, run_now}
use Rattle.lease_inputs.specs.InputEvents.{IsOfInput}
use Rattle.lease_inputs.proofs.InputEvents.{output-mine}
use Rattle.lease_inputs.proofs.InputNumbers.{no_message as sends_none}
use Rattle.run_promise.proofs.Members.{members-over}
use Rattle.leading_parts.specs.Elsewhere.{AreElsewhere, GoesElsewhere, IsElsewhere}
use Rattle.leading_parts.specs.Others.{AreNumbered}

-- it happens elsewhere in each cluster
abbrev pub Apart : ℕ → EventKind → Type 0
Apart n kind = (cluster : Cluster) → IsElsewhere n cluster kind

pub apart-are : (n : ℕ) (cluster : Cluster) (events : List Event) → AllAre (Apart n) events
    → AreElsewhere n cluster events
apart-are n cluster [] all = tt
apart-are n cluster (event ∷ events) all = (all.0 cluster, apart-are n (cluster_after cluster event.kind) events all.1)

module _ (n : ℕ) (member : Member) (other : n ≢ member.id.number) where
  at-server : (server : ServerOf) → server ≡ server_of member → n ≢ server.id.number
  at-server server is e = other (e ∙ ap (λ (s : ServerOf). s.id.number) is)

  at-member : (by : Member) → by ≡ member → n ≢ by.id.number
  at-member by is e = other (e ∙ ap (λ (m : Member). m.id.number) is)

  mine-apart : (incarnation heard : ℕ) (kind : EventKind) → IsOfInput member incarnation heard sends_none kind
      → Apart n kind
  mine-apart incarnation heard (kinds.Message (messages.Sent number message)) is cluster = tt
  mine-apart incarnation heard (kinds.Message (messages.Lost number)) is cluster = tt
  mine-apart incarnation heard (kinds.Server (servers.Began server timeline)) is cluster = at-server server is.0
  mine-apart incarnation heard (kinds.Server (servers.StartsAsReplica server)) is cluster = at-server server is
  mine-apart incarnation heard (kinds.Server (servers.StartsAsPrimary server)) is cluster = at-server server is
  mine-apart incarnation heard (kinds.Server (servers.Follows server upstream)) is cluster = tt
  mine-apart incarnation heard (kinds.Server (servers.Ended server)) is cluster = at-server server is
  mine-apart incarnation heard (kinds.Server (servers.Stops server)) is cluster = at-server server is
  mine-apart incarnation heard (kinds.Log (logs.Rewound server from kept at)) is cluster = at-server server is
  mine-apart incarnation heard (kinds.Log (logs.Copied server from)) is cluster = at-server server is
  mine-apart incarnation heard (kinds.Log (logs.Wiped server)) is cluster = at-server server is
  mine-apart incarnation heard (kinds.Watchdog (watchdogs.Armed by until answer)) is cluster = at-member by is.0
  mine-apart incarnation heard (kinds.Watchdog (watchdogs.Fed by until basis)) is cluster = at-member by is.0
  mine-apart incarnation heard (kinds.Watchdog (watchdogs.HoldTaken by until from run sequence)) is cluster =
      at-member by is.0
  mine-apart incarnation heard (kinds.Watchdog (watchdogs.Disarmed by)) is cluster = at-member by is
  mine-apart incarnation heard (kinds.Watchdog (watchdogs.Measured by from)) is cluster = tt
  mine-apart incarnation heard (kinds.Replication happening) is cluster = tt
  mine-apart incarnation heard (kinds.Agent (agents.Passed by)) is cluster = tt
  mine-apart incarnation heard (kinds.Note note) is cluster = tt
  mine-apart incarnation heard _ is cluster = absurd is

  -- a message that is sent
  lost-apart : (cluster : Cluster) (test : Bool) (number : ℕ)
      → AllAre (Apart n) (events_of cluster (lost_at_once test number))
  lost-apart cluster true number = (λ c. tt, tt)
  lost-apart cluster false number = tt

  send-apart : (cluster : Cluster) (message : Message) → AllAre (Apart n) (send_events cluster message)
  send-apart cluster message = (
    λ c. tt,
    lost-apart (cluster_after cluster (kinds.Message (messages.Sent (cluster.facts.sent + 1) message)))
        (nat_le most_in_flight (length cluster.facts.flight)) (cluster.facts.sent + 1),
  )

  sending-apart : (cluster : Cluster) (found : Option AgentProcess) (to : Option LinkEnd) (sequence : ℕ) (body : Body)
      → AllAre (Apart n) (sending_events cluster member found to sequence body)
  sending-apart cluster None to sequence body = tt
  sending-apart cluster (Some process) None sequence body = tt
  sending-apart cluster (Some process) (Some to) sequence body =
      send-apart cluster (agent_message member to process.incarnation sequence body)

  replying-apart : (cluster : Cluster) (to : Option LinkEnd) (incarnation sequence : ℕ) (body : Body)
      → AllAre (Apart n) (replying_events cluster member to incarnation sequence body)
  replying-apart cluster None incarnation sequence body = tt
  replying-apart cluster (Some to) incarnation sequence body =
      send-apart cluster (agent_message member to incarnation sequence body)

  output-apart : (heard : HeardMessage) (output : Output) (cluster : Cluster) → AreNumbered cluster
      → AllAre (Apart n) (output_events member heard cluster output)
  output-apart heard (outputs.Message (outgoing.Send to sequence body)) cluster numbered = sending-apart cluster
      (slice_get cluster.facts.processes member.id.number) (receiver_of cluster.facts.members to) sequence body
  output-apart heard (outputs.Message (outgoing.Answer to incarnation sequence answer)) cluster numbered =
      replying-apart cluster
      (receiver_of cluster.facts.members (targets.Member to)) incarnation sequence (bodies.Answer answer)
  output-apart heard (outputs.Message (outgoing.FailsafeAnswer to incarnation sequence accepted)) cluster numbered =
      replying-apart cluster
      (receiver_of cluster.facts.members (targets.Member to)) incarnation sequence (bodies.FailsafeAnswer accepted)
  output-apart heard (outputs.Tell (tellings.HoldTaken until from sequence)) cluster numbered =
      let found = slice_get cluster.facts.members from.number in
      let hold = hold_taken member until heard.incarnation sequence in
      all-kinds (Apart n) cluster (kinds_of (option_map hold found))
      (one-kind (Apart n) (option_map hold found) (holds-mapped (Apart n) hold found (λ m c. other)))
  output-apart heard output cluster numbered =
      let incarnation = run_in cluster.facts.processes member.id.number in
      all-more (IsOfInput member incarnation heard.number sends_none) (Apart n)
      (output_events member heard cluster output) (mine-apart incarnation heard.number)
      (output-mine member incarnation heard.number sends_none cluster heard refl (record {
        process = λ process found. sym (ap run_now found);
        numbered = numbered;
      }) output tt tt)

  outputs-apart : (heard : HeardMessage) (outputs : List Output) (cluster : Cluster) → AreNumbered cluster
      → AllAre (Apart n) (each (output_events member heard) cluster outputs)
  outputs-apart heard [] cluster numbered = tt
  outputs-apart heard (output ∷ more) cluster numbered =
      let first : List Event = output_events member heard cluster output in
      let later : Cluster = cluster_over cluster first in
      all-both (Apart n) first (each (output_events member heard) later more)
      (output-apart heard output cluster numbered)
      (outputs-apart heard more later
      (λ k m found.
      numbered k m (ap (λ (ms : List Member). slice_get ms k) (sym (members-over cluster first)) ∙ found)))

  -- another member's agent is woken, or hears a message
  pub wake-elsewhere : (cluster : Cluster) → AreNumbered cluster
      → AreElsewhere n cluster (wake_events_of cluster member)
  wake-elsewhere cluster numbered =
      let later : Cluster = cluster_after cluster (kinds.Agent (agents.Woken member)) in (
        other,
        apart-are n later (input_events later member no_message (outcome_of cluster member Wake))
            (outputs-apart no_message (outputs_of (outcome_of cluster member Wake)) later numbered),
      )

  pub hear-elsewhere : (cluster : Cluster) (number : ℕ) (carried : InFlightFacts) → AreNumbered cluster
      → in_flight cluster.facts.flight number ≡ Some carried → carried.message.to ≡ ends.Member member
      → AreElsewhere n cluster (hear_events cluster number carried member)
  hear-elsewhere cluster number carried numbered found to =
      let later : Cluster = cluster_after cluster (kinds.Message (messages.Delivered number)) in
      let outcome : Option Outcome = outcome_of_heard cluster member (heard_from cluster carried) in (
        λ one is. subst (λ (end : LinkEnd). GoesElsewhere n end)
            (sym (ap (λ (c : InFlightFacts). c.message.to) (some-is one carried (sym is ∙ found)) ∙ to)) other,
        apart-are n later (input_events later member (heard_message number carried) outcome)
            (outputs-apart (heard_message number carried) (outputs_of outcome) later numbered),
      )

-- ---- what comes to the key store
module _ (n : ℕ) where
  lost-aside : (cluster : Cluster) (test : Bool) (number : ℕ)
      → AllAre (Apart n) (events_of cluster (lost_at_once test number))
  lost-aside cluster true number = (λ c. tt, tt)
  lost-aside cluster false number = tt

  send-aside : (cluster : Cluster) (message : Message) → AllAre (Apart n) (send_events cluster message)
  send-aside cluster message = (
    λ c. tt,
    lost-aside (cluster_after cluster (kinds.Message (messages.Sent (cluster.facts.sent + 1) message)))
        (nat_le most_in_flight (length cluster.facts.flight)) (cluster.facts.sent + 1),
  )

  decided-apart : (members : List Member) (number : ℕ) (by : Member) (txn : Txn) (decision : Decision)
      → Apart n (decision_kind members number by txn decision)
  decided-apart members number by txn Grant cluster = tt
  decided-apart members number by txn (Refusal key found) cluster = tt

  decision-apart : (cluster : Cluster) (number : ℕ) (message : Message) (txn : Txn) (decision : Decision)
      (from : LinkEnd) → AllAre (Apart n) (decision_events cluster number message txn decision from)
  decision-apart cluster number message txn decision ends.Store = tt
  decision-apart cluster number message txn decision (ends.Member by) = (
    decided-apart cluster.facts.members number by txn decision,
    send-aside (cluster_after cluster (decision_kind cluster.facts.members number by txn decision))
        (answer_message message (decision_body number txn decision)),
  )

  answer-apart : (cluster : Cluster) (number : ℕ) (message : Message) (body : Body)
      → AllAre (Apart n) (answer_events_by cluster number message body)
  answer-apart cluster number message bodies.Read = send-aside cluster (answer_message message bodies.Snapshot)
  answer-apart cluster number message (bodies.Request txn) =
      decision-apart cluster number message txn (decision_on cluster.facts.keys cluster.facts.clock txn) message.from
  answer-apart cluster number message _ = tt

  pub arrival-elsewhere : (cluster : Cluster) (number : ℕ) (carried : InFlightFacts)
      → in_flight cluster.facts.flight number ≡ Some carried → carried.message.to ≡ ends.Store
      → AreElsewhere n cluster (arrival_events_at cluster number carried ends.Store)
  arrival-elsewhere cluster number carried found to =
      let later : Cluster = cluster_after cluster (kinds.Message (messages.Delivered number)) in (
        λ one is. subst (λ (end : LinkEnd). GoesElsewhere n end)
            (sym (ap (λ (c : InFlightFacts). c.message.to) (some-is one carried (sym is ∙ found)) ∙ to)) tt,
        apart-are n later (answer_events later number carried.message)
            (answer-apart later number carried.message carried.message.body),
      )
