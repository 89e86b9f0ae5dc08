-- Events beside a leader leave the key store and what it waits for.
use Rattle.std.proofs.Common.{ℕ, ◌≡◌, ◌≢◌, ◌⊎◌, ◌+◌, ◌≤◌, ◌<◌, Bool, true, false, List, [], ◌∷◌, Option, Some, None, option_map, slice_get, refl, sym, ap, subst, ◌∙◌, inl, inr, arith}
use Rattle.event_book.specs.declared.agent_process.AgentProcess.{AgentProcess}
use Rattle.event_book.specs.declared.event.Event.{Event}
use Rattle.event_book.specs.declared.event.EventKind.{EventKind}
use Rattle.event_book.specs.declared.event.EventKind.TheVariants as kinds
use Rattle.event_book.specs.declared.event.MessageEvent.TheVariants as messages
use Rattle.event_book.specs.declared.event.ServerEvent.TheVariants as servers
use Rattle.event_book.specs.declared.event.StoreEvent.TheVariants as stores
use Rattle.event_book.specs.declared.event.WatchdogEvent.TheVariants as watchdogs
use Rattle.event_book.specs.declared.link.LinkEnd.{LinkEnd}
use Rattle.event_book.specs.declared.member.Member.{Member}
use Rattle.event_book.specs.declared.message.Body.{Body}
use Rattle.event_book.specs.declared.message.Body.TheVariants as bodies
use Rattle.event_book.specs.declared.message.Message.{Message}
use Rattle.event_book.specs.Flight.{Flight, InFlightFacts, in_flight, launched}
use Rattle.event_book.specs.Kinds.{AllAre}
use Rattle.agent_model.specs.declared.output.Output.{Output}
use Rattle.agent_model.specs.declared.output.Output.TheVariants as outputs
use Rattle.agent_model.specs.declared.output.Outgoing.TheVariants as outgoing
use Rattle.agent_model.specs.declared.output.Telling.TheVariants as tellings
use Rattle.agent_model.specs.declared.output.Target.TheVariants as targets
use Rattle.agent_model.specs.Agents.{Outcome}
use Rattle.cluster_model.specs.declared.heard_message.HeardMessage.{HeardMessage}
use Rattle.cluster_model.specs.Cluster.{cluster_after, cluster_over}
use Rattle.cluster_model.specs.Commands.{kinds_of}
use Rattle.cluster_model.specs.Inputs.{outputs_of}
use Rattle.cluster_model.specs.Messages.{agent_message, input_events, lost_at_once, output_events, receiver_of, replying_events, send_events, sending_events}
use Rattle.cluster_model.specs.Orders.{hold_taken}
use Rattle.cluster_model.specs.Parts.{each, events_of}
use Rattle.cluster_model.specs.State.{Cluster}
use Rattle.cluster_model.proofs.Founds.{holds-mapped}
use Rattle.cluster_model.proofs.Lists.{all-both, all-kinds, all-more, one-kind}
use Rattle.lease_model.proofs.Tools.{dropped, put-all, put-there, some-is}
use Rattle.lease_book.specs.Flights.{Rises}
use Rattle.lease_book.proofs.Entries.{in-with, in-without, rises-with, rises-without}
use Rattle.lease_parts.specs.Asides.{IsAsideIn}
use Rattle.lease_parts.specs.Machines.{run_in, run_now}
use Rattle.lease_inputs.specs.InputEvents.{IsOfInput}
use Rattle.lease_inputs.proofs.InputEvents.{output-mine}
use Rattle.lease_inputs.proofs.InputNumbers.{no-sent, no_message as sends_none}
use Rattle.run_promise.proofs.Members.{members-over}
use Rattle.leading_parts.specs.Alone.{LeaveAlone, LeavesAlone}
use Rattle.leading_parts.specs.Aside.{IsBeside, IsOther, LeavesMail, ServesOn}
use Rattle.leading_parts.specs.Elsewhere.{AreElsewhere, IsElsewhere}
use Rattle.leading_parts.specs.Others.{AreNumbered}

-- ---- what happens elsewhere leaves a server that accepts writes
serves-one : (n : ℕ) (cluster : Cluster) (kind : EventKind) → IsElsewhere n cluster kind → ServesOn n kind
serves-one n cluster kinds.Tick other = absurd other
serves-one n cluster (kinds.Server (servers.Ended server)) other = other
serves-one n cluster (kinds.Server (servers.Crashed server)) other = other
serves-one n cluster (kinds.Watchdog (watchdogs.Reset member)) other = other
serves-one n cluster _ other = tt

pub serves-elsewhere : (n : ℕ) (cluster : Cluster) (events : List Event) → AreElsewhere n cluster events
    → AllAre (ServesOn n) events
serves-elsewhere n cluster [] all = tt
serves-elsewhere n cluster (event ∷ events) all = (
  serves-one n cluster event.kind all.0,
  serves-elsewhere n (cluster_after cluster event.kind) events all.1,
)

-- ---- events that are beside
apart-from : (last number : ℕ) → last < number → last ≡ number → ⊥
apart-from last number less same = omega (arith, less, same)

above : (last number : ℕ) → last < number → last ≤ number
above last number less = omega (arith, less)

module _ (n last : ℕ) where
  pub aside-beside : (May : ℕ → Type 0) (kind : EventKind) → IsAsideIn May kind → (kind ≡ kinds.Tick → ⊥)
      → IsBeside n last kind
  aside-beside May kinds.Tick is other = absurd (other refl)
  aside-beside May (kinds.Message (messages.Sent number message)) is other = absurd is
  aside-beside May (kinds.Message (messages.Delivered number)) is other = absurd is
  aside-beside May (kinds.Store (stores.Granted number by txn standbys)) is other = absurd is
  aside-beside May _ is other = tt

  -- ---- what they leave
  leaves-self : (cluster : Cluster) → Rises 0 cluster.facts.flight → last ≤ cluster.facts.sent
      → LeavesMail n last cluster cluster
  leaves-self cluster order low = record {
    keys = refl;
    clock = refl;
    order = order;
    last = low;
    mail = λ carried found with. found;
    fresh = λ i carried found. inl found;
  }

  sent-leaves : (cluster : Cluster) (number : ℕ) (message : Message) → last < number → IsOther n message.from
      → Rises 0 cluster.facts.flight
      → LeavesMail n last cluster (cluster_after cluster (kinds.Message (messages.Sent number message)))
  sent-leaves cluster number message less other order =
      let flight : Flight = cluster.facts.flight in
      let one : InFlightFacts = launched cluster.facts.clock cluster.facts.keys message in
      record {
        keys = refl;
        clock = refl;
        order = rises-with 0 flight number one (omega arith) order;
        last = above last number less;
        mail = λ carried found with.
            in-with flight number one last
            ∙ put-there (in_flight flight) number (Some one) last (apart-from last number less) ∙ found;
        fresh = λ i carried found.
            put-all (in_flight flight) number (Some one)
            (λ k o. (x : InFlightFacts) → o ≡ Some x →
            (in_flight flight k ≡ Some x) ⊎ IsOther n x.message.from)
            (λ x same. inr (subst (λ (c : InFlightFacts). IsOther n c.message.from) (some-is one x same) other))
            (λ k apart x was. inl was) i carried (sym (in-with flight number one i) ∙ found);
      }

  lost-leaves : (cluster : Cluster) (number : ℕ) → LeavesAlone n cluster (kinds.Message (messages.Lost number))
      → Rises 0 cluster.facts.flight → last ≤ cluster.facts.sent
      → LeavesMail n last cluster (cluster_after cluster (kinds.Message (messages.Lost number)))
  lost-leaves cluster number alone order low =
      let flight : Flight = cluster.facts.flight in
      record {
        keys = refl;
        clock = refl;
        order = rises-without 0 flight number order;
        last = low;
        mail = λ carried found with.
            in-without 0 flight number last order
            ∙ put-there (in_flight flight) number None last
            (λ same. alone carried (ap (in_flight flight) (sym same) ∙ found) with) ∙ found;
        fresh = λ i carried found.
            inl (dropped (in_flight flight) number i carried (sym (in-without 0 flight number i order) ∙ found));
      }

  one-leaves : (cluster : Cluster) (kind : EventKind) → IsBeside n last kind → LeavesAlone n cluster kind
      → Rises 0 cluster.facts.flight → last ≤ cluster.facts.sent
      → LeavesMail n last cluster (cluster_after cluster kind)
  one-leaves cluster kinds.Tick is alone order low = absurd is
  one-leaves cluster (kinds.Message (messages.Sent number message)) is alone order low =
      sent-leaves cluster number message is.0 is.1 order
  one-leaves cluster (kinds.Message (messages.Delivered number)) is alone order low = absurd is
  one-leaves cluster (kinds.Message (messages.Lost number)) is alone order low =
      lost-leaves cluster number alone order low
  one-leaves cluster (kinds.Store (stores.Granted number by txn standbys)) is alone order low = absurd is
  one-leaves cluster _ is alone order low = record {
    keys = refl;
    clock = refl;
    order = order;
    last = low;
    mail = λ carried found with. found;
    fresh = λ i carried found. inl found;
  }

  fresh-then : (first second : Cluster) (i : ℕ) (carried : InFlightFacts)
      → ((in_flight first.facts.flight i ≡ Some carried) →
      (in_flight second.facts.flight i ≡ Some carried) ⊎ IsOther n carried.message.from)
      → (in_flight first.facts.flight i ≡ Some carried) ⊎ IsOther n carried.message.from
      → (in_flight second.facts.flight i ≡ Some carried) ⊎ IsOther n carried.message.from
  fresh-then first second i carried more (inl was) = more was
  fresh-then first second i carried more (inr other) = inr other

  pub leaves-then : (first second third : Cluster) → LeavesMail n last first second → LeavesMail n last second third
      → LeavesMail n last first third
  leaves-then first second third a b = record {
    keys = b.keys ∙ a.keys;
    clock = b.clock ∙ a.clock;
    order = b.order;
    last = b.last;
    mail = λ carried found with. b.mail carried (a.mail carried found with) with;
    fresh = λ i carried found. fresh-then second first i carried (a.fresh i carried) (b.fresh i carried found);
  }

  pub leaves-over : (cluster : Cluster) (events : List Event) → AllAre (IsBeside n last) events
      → LeaveAlone n cluster events → Rises 0 cluster.facts.flight → last ≤ cluster.facts.sent
      → LeavesMail n last cluster (cluster_over cluster events)
  leaves-over cluster [] all alone order low = leaves-self cluster order low
  leaves-over cluster (event ∷ events) all alone order low =
      let later : Cluster = cluster_after cluster event.kind in
      let first = one-leaves cluster event.kind all.0 alone.0 order low in
      leaves-then cluster later (cluster_over later events) first
      (leaves-over later events all.1 alone.1 first.order first.last)

  -- the last number doesn't fall
  low-one : (sent : Cluster) (kind : EventKind) → IsBeside n last kind → last ≤ sent.facts.sent
      → last ≤ (cluster_after sent kind).facts.sent
  low-one sent (kinds.Message (messages.Sent number message)) is low = above last number is.0
  low-one sent (kinds.Message (messages.Delivered number)) is low = absurd is
  low-one sent (kinds.Message (messages.Lost number)) is low = low
  low-one sent _ is low = low

  low-over : (cluster : Cluster) (events : List Event) → AllAre (IsBeside n last) events → last ≤ cluster.facts.sent
      → last ≤ (cluster_over cluster events).facts.sent
  low-over cluster [] all low = low
  low-over cluster (event ∷ events) all low =
      low-over (cluster_after cluster event.kind) events all.1 (low-one cluster event.kind all.0 low)

  -- ---- what another member's agent does
  module _ (member : Member) (other : n ≢ member.id.number) where
    mine-beside : (incarnation heard : ℕ) (kind : EventKind) → IsOfInput member incarnation heard sends_none kind
        → IsBeside n last kind
    mine-beside incarnation heard kinds.Tick is = absurd is
    mine-beside incarnation heard (kinds.Message (messages.Sent number message)) is =
        absurd (no-sent member incarnation message is)
    mine-beside incarnation heard (kinds.Message (messages.Delivered number)) is = absurd is
    mine-beside incarnation heard (kinds.Store (stores.Granted number by txn standbys)) is = absurd is
    mine-beside incarnation heard _ is = tt

    next-past : (sent : ℕ) → last ≤ sent → last < sent + 1
    next-past sent low = omega (arith, low)

    lost-beside : (cluster : Cluster) (test : Bool) (number : ℕ)
        → AllAre (IsBeside n last) (events_of cluster (lost_at_once test number))
    lost-beside cluster true number = (tt, tt)
    lost-beside cluster false number = tt

    send-beside : (cluster : Cluster) (to : LinkEnd) (incarnation sequence : ℕ) (body : Body)
        → last ≤ cluster.facts.sent
        → AllAre (IsBeside n last) (send_events cluster (agent_message member to incarnation sequence body))
    send-beside cluster to incarnation sequence body low =
        ((next-past cluster.facts.sent low, other), lost-beside _ _ (cluster.facts.sent + 1))

    sending-beside : (cluster : Cluster) (found : Option AgentProcess) (to : Option LinkEnd) (sequence : ℕ)
        (body : Body) → last ≤ cluster.facts.sent
        → AllAre (IsBeside n last) (sending_events cluster member found to sequence body)
    sending-beside cluster None to sequence body low = tt
    sending-beside cluster (Some process) None sequence body low = tt
    sending-beside cluster (Some process) (Some to) sequence body low =
        send-beside cluster to process.incarnation sequence body low

    replying-beside : (cluster : Cluster) (to : Option LinkEnd) (incarnation sequence : ℕ) (body : Body)
        → last ≤ cluster.facts.sent
        → AllAre (IsBeside n last) (replying_events cluster member to incarnation sequence body)
    replying-beside cluster None incarnation sequence body low = tt
    replying-beside cluster (Some to) incarnation sequence body low =
        send-beside cluster to incarnation sequence body low

    output-beside : (heard : HeardMessage) (output : Output) (cluster : Cluster) → AreNumbered cluster
        → last ≤ cluster.facts.sent → AllAre (IsBeside n last) (output_events member heard cluster output)
    output-beside heard (outputs.Message (outgoing.Send to sequence body)) cluster numbered low = sending-beside cluster
        (slice_get cluster.facts.processes member.id.number) (receiver_of cluster.facts.members to) sequence body low
    output-beside heard (outputs.Message (outgoing.Answer to incarnation sequence answer)) cluster numbered low =
        replying-beside cluster (receiver_of cluster.facts.members (targets.Member to)) incarnation sequence
        (bodies.Answer answer) low
    output-beside heard (outputs.Message (outgoing.FailsafeAnswer to incarnation sequence accepted)) cluster numbered
        low =
        replying-beside cluster (receiver_of cluster.facts.members (targets.Member to)) incarnation sequence
        (bodies.FailsafeAnswer accepted) low
    output-beside heard (outputs.Tell (tellings.HoldTaken until from sequence)) cluster numbered low =
        let found = slice_get cluster.facts.members from.number in
        let hold = hold_taken member until heard.incarnation sequence in
        all-kinds (IsBeside n last) cluster (kinds_of (option_map hold found))
        (one-kind (IsBeside n last) (option_map hold found) (holds-mapped (IsBeside n last) hold found (λ m. tt)))
    output-beside heard output cluster numbered low =
        let incarnation = run_in cluster.facts.processes member.id.number in
        all-more (IsOfInput member incarnation heard.number sends_none) (IsBeside n last)
        (output_events member heard cluster output) (mine-beside incarnation heard.number)
        (output-mine member incarnation heard.number sends_none cluster heard refl (record {
          process = λ process found. sym (ap run_now found);
          numbered = numbered;
        }) output tt tt)

    outputs-beside : (heard : HeardMessage) (list : List Output) (cluster : Cluster) → AreNumbered cluster
        → last ≤ cluster.facts.sent → AllAre (IsBeside n last) (each (output_events member heard) cluster list)
    outputs-beside heard [] cluster numbered low = tt
    outputs-beside heard (output ∷ more) cluster numbered low =
        let first : List Event = output_events member heard cluster output in
        let later : Cluster = cluster_over cluster first in
        let here = output-beside heard output cluster numbered low in
        all-both (IsBeside n last) first (each (output_events member heard) later more) here
        (outputs-beside heard more later
        (λ k m found.
        numbered k m (ap (λ (ms : List Member). slice_get ms k) (sym (members-over cluster first)) ∙ found))
        (low-over cluster first here low))

    pub input-beside : (heard : HeardMessage) (outcome : Option Outcome) (cluster : Cluster) → AreNumbered cluster
        → last ≤ cluster.facts.sent → AllAre (IsBeside n last) (input_events cluster member heard outcome)
    input-beside heard outcome cluster numbered low = outputs-beside heard (outputs_of outcome) cluster numbered low
