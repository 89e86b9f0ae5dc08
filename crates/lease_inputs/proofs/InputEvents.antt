-- What an input of an agent brings, event by event.
use Rattle.std.proofs.Common.{◌≡◌, ◌+◌, nat_le, ℕ, Bool, true, false, List, ◌∷◌, Option, Some, None, length, slice_get, option_map, refl, ap, inl, inr}
use Rattle.pat_base.specs.declared.server_state.State.{State}
use Rattle.pat_base.specs.declared.server_state.State.TheVariants as states
use Rattle.pg_model.specs.Facts.{ServerFacts, entries_of}
use Rattle.event_book.specs.declared.agent_process.AgentProcess.{AgentProcess}
use Rattle.event_book.specs.declared.event.EventKind.{EventKind}
use Rattle.event_book.specs.declared.event.EventKind.TheVariants as kinds
use Rattle.event_book.specs.declared.event.MessageEvent.TheVariants.{Sent}
use Rattle.event_book.specs.declared.link.LinkEnd.TheVariants as ends
use Rattle.event_book.specs.declared.member.Member.{Member}
use Rattle.event_book.specs.declared.message.Body.{Body}
use Rattle.event_book.specs.declared.message.Body.TheVariants as bodies
use Rattle.pat_base.specs.declared.member_id.MemberId.{MemberId}
use Rattle.pat_base.specs.declared.peer_answer.PeerAnswer.{PeerAnswer}
use Rattle.pat_base.specs.declared.ticks.Ticks.{Ticks}
use Rattle.event_book.specs.declared.reason.Basis.TheVariants as bases
use Rattle.agent_model.specs.declared.output.Output.{Output}
use Rattle.agent_model.specs.declared.output.Output.TheVariants as outputs
use Rattle.agent_model.specs.declared.output.Feeding.TheVariants as feedings
use Rattle.agent_model.specs.declared.output.Outgoing.TheVariants as outgoing
use Rattle.agent_model.specs.declared.output.ServerOrder.TheVariants as orders
use Rattle.agent_model.specs.declared.output.Telling.TheVariants as tellings
use Rattle.agent_model.specs.declared.output.Target.TheVariants as targets
use Rattle.agent_model.specs.declared.output.ServerOrder.{ServerOrder}
use Rattle.agent_outputs.specs.Orders.{IsOfTable}
use Rattle.agent_roles.specs.Asks.{IsAsk}
use Rattle.cluster_model.specs.declared.beginning.Beginning.{Beginning}
use Rattle.cluster_model.specs.declared.beginning.Beginning.TheVariants as beginnings
use Rattle.cluster_model.specs.declared.heard_message.HeardMessage.{HeardMessage}
use Rattle.cluster_model.specs.Beginnings.{again_by, kinds_by, server_restart_in}
use Rattle.cluster_model.specs.Commands.{kinds_of}
use Rattle.cluster_model.specs.Inputs.{agent_at}
use Rattle.cluster_model.specs.Limits.{most_in_flight}
use Rattle.wal_model.specs.Lacking.{lacks_in}
use Rattle.cluster_model.specs.Losing.{loss_if}
use Rattle.wal_model.specs.declared.entry.Entry.{Entry}
use Rattle.cluster_model.specs.Messages.{agent_message, lost_at_once, sending_events, output_events, replying_events}
use Rattle.cluster_model.specs.Orders.{arming, failsafe_feeding, feeding, feed_kinds, hold_taken}
use Rattle.cluster_model.specs.Requests.{told_kind}
use Rattle.cluster_model.specs.State.{Cluster}
use Rattle.event_book.specs.Kinds.{AllAre}
use Rattle.cluster_model.proofs.Founds.{told-holds}
use Rattle.cluster_model.proofs.Lists.{AllKinds, HoldsIf, all-kinds}
use Rattle.cluster_model.proofs.Outputs.{HoldsOfOrder, LetsBegin, kind-holds, noting-holds, order-holds, required-holds}
use Rattle.lease_inputs.specs.InputEvents.{RunsAmong, Asks, AsksPeer, AnswersPeer, AnswersRequest, ByGrant, ByFailsafe, IsOfInput, IsToBegin}

-- ---- the events of one output
module _ (member : Member) (incarnation heard : ℕ) (Q : Output → Type 0) where
  abbrev Mine : EventKind → Type 0
  Mine kind = IsOfInput member incarnation heard Q kind

  loss-mine : (test : Bool) → AllKinds Mine (kinds_of (loss_if member test))
  loss-mine true = (refl, tt)
  loss-mine false = tt

  begin-mine : (acknowledged : List ℕ) (log : Option (List Entry)) (begins : Option Beginning) → IsToBegin Q
      → AllKinds Mine (kinds_by member acknowledged log begins)
  begin-mine acknowledged log None is = tt
  begin-mine acknowledged log (Some (beginnings.AtOnce timeline)) is =
      ((refl, is), loss-mine (lacks_in (entries_of log) acknowledged))
  begin-mine acknowledged log (Some beginnings.WithItsStart) is = (refl, tt)

  -- it starts again
  pub again-mine : (acknowledged : List ℕ) (state : State) (s : ServerFacts) → IsToBegin Q
      → AllKinds Mine (server_restart_in member acknowledged state s)
  again-mine acknowledged states.Primary s is =
      (refl, begin-mine acknowledged s.log (Some (again_by s.timeline s.start_delay)) is)
  again-mine acknowledged states.Replica s is = (refl, tt)
  again-mine acknowledged _ s is = tt

  lost-mine : (test : Bool) (number : ℕ) → AllKinds Mine (lost_at_once test number)
  lost-mine true number = (tt, tt)
  lost-mine false number = tt

  sends-mine : (cluster : Cluster) (sequence : ℕ) (body : Body) (found : Option AgentProcess)
      → ((process : AgentProcess) → found ≡ Some process → process.incarnation ≡ incarnation)
      → Q (outputs.Message (outgoing.Send targets.Store sequence body))
      → AllAre Mine (sending_events cluster member found (Some ends.Store) sequence body)
  sends-mine cluster sequence body None runs is = tt
  sends-mine cluster sequence body (Some process) runs is =
      all-kinds Mine cluster
      (kinds.Message (Sent (cluster.facts.sent + 1) (agent_message member ends.Store process.incarnation sequence body))
      ∷ lost_at_once (nat_le most_in_flight (length cluster.facts.flight)) (cluster.facts.sent + 1)) (
        Asks (record {
          sequence = sequence;
          body = body;
          is = ap (λ (r : ℕ). agent_message member ends.Store r sequence body) (runs process refl);
          from = is;
        }),
        lost-mine (nat_le most_in_flight (length cluster.facts.flight)) (cluster.facts.sent + 1),
      )

  asks-mine : (cluster : Cluster) (id : MemberId) (sequence : ℕ) (body : Body) (found : Option AgentProcess)
      (peer : Option Member) → IsAsk body
      → ((process : AgentProcess) → found ≡ Some process → process.incarnation ≡ incarnation)
      → Q (outputs.Message (outgoing.Send (targets.Member id) sequence body))
      → AllAre Mine
      (sending_events cluster member found (option_map (λ (m : Member). ends.Member m) peer) sequence body)
  asks-mine cluster id sequence body None peer ask runs is = tt
  asks-mine cluster id sequence body (Some process) None ask runs is = tt
  asks-mine cluster id sequence body (Some process) (Some peer) ask runs is =
      all-kinds Mine cluster
      (kinds.Message (Sent (cluster.facts.sent + 1)
      (agent_message member (ends.Member peer) process.incarnation sequence body))
      ∷ lost_at_once (nat_le most_in_flight (length cluster.facts.flight)) (cluster.facts.sent + 1)) (
        AsksPeer peer id sequence body ask
            (ap (λ (r : ℕ). agent_message member (ends.Member peer) r sequence body) (runs process refl)) is,
        lost-mine (nat_le most_in_flight (length cluster.facts.flight)) (cluster.facts.sent + 1),
      )

  replies-mine : (cluster : Cluster) (id : MemberId) (asked sequence : ℕ) (answer : PeerAnswer) (peer : Option Member)
      → Q (outputs.Message (outgoing.Answer id asked sequence answer))
      → AllAre Mine
      (replying_events cluster member (option_map (λ (m : Member). ends.Member m) peer) asked sequence
      (bodies.Answer answer))
  replies-mine cluster id asked sequence answer None is = tt
  replies-mine cluster id asked sequence answer (Some peer) is =
      all-kinds Mine cluster
      (kinds.Message (Sent (cluster.facts.sent + 1)
      (agent_message member (ends.Member peer) asked sequence (bodies.Answer answer)))
      ∷ lost_at_once (nat_le most_in_flight (length cluster.facts.flight)) (cluster.facts.sent + 1)) (
        AnswersPeer peer id asked sequence answer refl is,
        lost-mine (nat_le most_in_flight (length cluster.facts.flight)) (cluster.facts.sent + 1),
      )

  says-mine : (cluster : Cluster) (id : MemberId) (asked sequence : ℕ) (accepted : Bool) (peer : Option Member)
      → ((found : Member) → peer ≡ Some found → found.id.number ≡ id.number)
      → Q (outputs.Message (outgoing.FailsafeAnswer id asked sequence accepted))
      → AllAre Mine
      (replying_events cluster member (option_map (λ (m : Member). ends.Member m) peer) asked sequence
      (bodies.FailsafeAnswer accepted))
  says-mine cluster id asked sequence accepted None at is = tt
  says-mine cluster id asked sequence accepted (Some peer) at is =
      all-kinds Mine cluster
      (kinds.Message (Sent (cluster.facts.sent + 1)
      (agent_message member (ends.Member peer) asked sequence (bodies.FailsafeAnswer accepted)))
      ∷ lost_at_once (nat_le most_in_flight (length cluster.facts.flight)) (cluster.facts.sent + 1)) (
        AnswersRequest peer id asked sequence accepted (at peer refl) refl is,
        lost-mine (nat_le most_in_flight (length cluster.facts.flight)) (cluster.facts.sent + 1),
      )

  holds-mine : (until : Ticks) (run sequence : ℕ) (id : MemberId) (peer : Option Member)
      → ((found : Member) → peer ≡ Some found → found.id.number ≡ id.number)
      → Q (outputs.Tell (tellings.HoldTaken until id sequence))
      → HoldsIf Mine (option_map (hold_taken member until run sequence) peer)
  holds-mine until run sequence id None at is = tt
  holds-mine until run sequence id (Some peer) at is = (refl, record { id = id; at = at peer refl; by = is })

  -- by an order a server may begin that is one to begin
  begun-mine : (order : ServerOrder) → LetsBegin order → Q (outputs.Server order) → IsToBegin Q
  begun-mine orders.Begin lets is = inl is
  begun-mine (orders.Restart as_primary) lets is = inr (as_primary, is)
  begun-mine _ lets is = absurd lets

  order-mine : (order : ServerOrder) → Q (outputs.Server order) → HoldsOfOrder Mine member order
  order-mine order is = record {
    begins = λ lets timeline. (refl, begun-mine order lets is);
    lacks = λ lets. refl;
    starts_as_primary = λ lets. refl;
    starts_as_replica = refl;
    follows = λ leader. refl;
    says = λ reason. tt;
    ends = λ lets. refl;
    stops = λ lets. refl;
    wiped = λ lets. refl;
    rewound = λ lets leader r. refl;
    copied = λ lets leader. refl;
  }

  pub output-mine : (cluster : Cluster) (message : HeardMessage) → message.number ≡ heard
      → RunsAmong member incarnation cluster.facts
      → (output : Output) → IsOfTable output → Q output → AllAre Mine (output_events member message cluster output)
  output-mine cluster message at runs (outputs.Message (outgoing.Send targets.Store sequence body)) table is =
      sends-mine cluster sequence body (slice_get cluster.facts.processes member.id.number) runs.process is
  output-mine cluster message at runs (outputs.Message (outgoing.Send (targets.Member id) sequence body)) table is =
      asks-mine cluster id sequence body (slice_get cluster.facts.processes member.id.number)
      (slice_get cluster.facts.members id.number) table runs.process is
  output-mine cluster message at runs (outputs.Message (outgoing.Answer to asked sequence answer)) table is =
      replies-mine cluster to asked sequence answer (slice_get cluster.facts.members to.number) is
  output-mine cluster message at runs (outputs.Message (outgoing.FailsafeAnswer to asked sequence accepted)) table is =
      says-mine cluster to asked sequence accepted (slice_get cluster.facts.members to.number)
      (runs.numbered to.number) is
  output-mine cluster message at runs (outputs.Server order) table is =
      order-holds Mine cluster member order (order-mine order is)
  output-mine cluster message at runs (outputs.Require required) table is =
      required-holds Mine cluster member required refl
  output-mine cluster message at runs (outputs.Watchdog (feedings.Armed until)) table is =
      all-kinds Mine cluster (feed_kinds member message.sent (arming member until message)) (refl, ((refl, at, is), tt))
  output-mine cluster message at runs (outputs.Watchdog (feedings.Fed until)) table is =
      all-kinds Mine cluster (feed_kinds member message.sent (feeding member until message))
      (refl, ((refl, ByGrant (ap (λ (n : ℕ). bases.Grant n) at) is), tt))
  output-mine cluster message at runs (outputs.Watchdog (feedings.FedByFailsafe until members sequence since)) table
      is =
      all-kinds Mine cluster (feed_kinds member since (failsafe_feeding member until members sequence))
      (refl, ((refl, ByFailsafe members sequence since refl is), tt))
  output-mine cluster message at runs (outputs.Watchdog feedings.Disarmed) table is = (refl, tt)
  output-mine cluster message at runs (outputs.Tell (tellings.Told request told)) table is =
      let agent = agent_at cluster.agents member.id.number in
      kind-holds Mine cluster member (told_kind member agent told) (told-holds Mine member agent told (λ reply. tt))
  output-mine cluster message at runs (outputs.Tell (tellings.HoldTaken until from sequence)) table is =
      kind-holds Mine cluster member
      (option_map (hold_taken member until message.incarnation sequence) (slice_get cluster.facts.members from.number))
      (holds-mine until message.incarnation sequence from (slice_get cluster.facts.members from.number)
      (runs.numbered from.number) is)
  output-mine cluster message at runs (outputs.Tell tellings.ClaimsOutsideSync) table is = ((refl, is), tt)
  output-mine cluster message at runs (outputs.Note noting) table is =
      (noting-holds Mine cluster member (λ note noted. tt) noting, tt)
