-- What an agent hears of failsafe requests and of the answers to them is what was sent to it.
use Rattle.std.proofs.Common.{ℕ, ◌≡◌, Bool, true, false, ◌++◌, [], Option, Some, None, slice_get, option_map, refl, ◌∙◌, ap, sym, subst}
use Rattle.pat_base.specs.declared.ticks.Ticks.{Ticks}
use Rattle.store_keys.specs.declared.action.OperatorAction.{OperatorAction}
use Rattle.lease_store.specs.declared.granted.Granted.{Granted}
use Rattle.event_book.specs.declared.event.AgentEvent.{AgentEvent}
use Rattle.event_book.specs.declared.event.AgentEvent.TheVariants as agents
use Rattle.event_book.specs.declared.event.EventKind.{EventKind}
use Rattle.event_book.specs.declared.event.EventKind.TheVariants as kinds
use Rattle.event_book.specs.declared.event.MessageEvent.TheVariants as messages
use Rattle.event_book.specs.declared.link.LinkEnd.{LinkEnd}
use Rattle.event_book.specs.declared.link.LinkEnd.TheVariants as ends
use Rattle.event_book.specs.declared.member.Member.{Member}
use Rattle.event_book.specs.declared.message.Body.{Body}
use Rattle.event_book.specs.declared.message.Body.TheVariants as bodies
use Rattle.event_book.specs.declared.message.Message.{Message}
use Rattle.event_book.specs.Flight.{InFlightFacts, in_flight}
use Rattle.event_book.specs.Premises.{IsTaken, Moments, moments_after}
use Rattle.agent_model.specs.declared.heard.Heard.{Heard}
use Rattle.agent_model.specs.declared.heard.Heard.TheVariants as heards
use Rattle.agent_model.specs.declared.machine.Machine.{Machine}
use Rattle.agent_model.specs.Agents.{AgentFacts, Outcome, outcome_from}
use Rattle.agent_model.specs.Table.{step}
use Rattle.cluster_model.specs.declared.delivery.Delivery.TheVariants as deliveries
use Rattle.cluster_model.specs.Cluster.{agent_facts_after, agent_facts_reached, agent_facts_reached_at, agent_facts_with, cluster_after}
use Rattle.cluster_model.specs.Deliveries.{delivery_of, is_answer}
use Rattle.cluster_model.specs.Hearing.{heard_from, heard_in, member_at_end, snapshot_in}
use Rattle.cluster_model.specs.Inputs.{agent_at, moment_of, outcome_at, outcome_of, outcome_of_heard}
use Rattle.cluster_model.specs.Machines.{machine_of, points_of}
use Rattle.cluster_model.specs.Messages.{hear_events, heard_message, input_events, no_message, operate_events, output_events, wake_events_of}
use Rattle.cluster_model.specs.Parts.{each, event_of}
use Rattle.cluster_model.specs.State.{Cluster}
use Rattle.lease_model.proofs.Tools.{both, none-some, put-here, some-is}
use Rattle.lease_book.proofs.Entries.{in-without}
use Rattle.lease_inputs.proofs.EveryInput.{agent-here, answer-run, opened-for, the-outcome, unchanged}
use Rattle.lease_hearing.proofs.InputHears.{message-is}
use Rattle.lease_inputs.proofs.InputKinds.{IsOpening}
use Rattle.lease_runs.proofs.AskedMore.{unheard-one}
use Rattle.event_book.specs.Functions.{put_at}
use Rattle.lease_runs.proofs.AskedOnce.{Request, request_of, taking, yes_by, yes_in, yes_of}
use Rattle.lease_runs.proofs.Measuring.{Knows, Measures}
use Rattle.lease_runs.proofs.MeasuredAgents.{Plainly, told-answered, told-asked, told-granted, told-peer, told-position, told-read, told-refused, told-requested, told-woken}
use Rattle.lease_runs.proofs.MeasuredInputs.{IsHeardAt}

-- the failsafe request to this member that is heard, if one is
abbrev asked_of : ℕ → Heard → Option Request
asked_of m (heards.FailsafeAsked from run sequence ttl) =
    Some (record { by = m; from = from.number; incarnation = run; sequence = sequence })
asked_of m _ = None

-- the failsafe request of this member in this incarnation of which an acknowledgement is heard, if one is
abbrev said_of : ℕ → ℕ → Heard → Option Request
said_of m run (heards.FailsafeAnswered from sequence true sent) =
    Some (record { by = from.number; from = m; incarnation = run; sequence = sequence })
said_of m run _ = None

-- when what is heard was sent, of an answer to such a request
abbrev sent_of : Ticks → Heard → Ticks
sent_of at (heards.FailsafeAnswered from sequence accepted sent) = sent
sent_of at _ = at

module _ (cluster : Cluster) (carried : InFlightFacts) (member : Member)
    (to : carried.message.to ≡ ends.Member member) where
  abbrev M : ℕ
  M = member.id.number

  -- what is heard is as the message says
  record SaysSo (heard : Heard) : Type 0 where
    asks : (r : Request) → asked_of M heard ≡ Some r
        → (request_of carried.message ≡ Some r) × (r.incarnation ≡ carried.message.incarnation)
    says : (r : Request) → said_of M carried.message.incarnation heard ≡ Some r → yes_of carried.message ≡ Some r
    sent : sent_of carried.sent heard ≡ carried.sent

  nothing : (heard : Heard) → asked_of M heard ≡ None → said_of M carried.message.incarnation heard ≡ None
      → sent_of carried.sent heard ≡ carried.sent → SaysSo heard
  nothing heard none also at = record {
    asks = λ r is. absurd (none-some r (sym none ∙ is));
    says = λ r is. absurd (none-some r (sym also ∙ is));
    sent = at;
  }

  says-granted : (grant : Option Granted) (heard : Heard)
      → option_map (λ given. heards.Granted carried.message.sequence given (snapshot_in cluster carried)) grant
      ≡ Some heard
      → SaysSo heard
  says-granted None heard e = absurd (none-some heard e)
  says-granted (Some grant) heard e =
      let it : Heard = heards.Granted carried.message.sequence grant (snapshot_in cluster carried) in
      subst SaysSo (some-is it heard e) (nothing it refl refl refl)

  says-asked : (end : LinkEnd) (heard : Heard)
      → option_map (λ by. heards.Asked by carried.message.incarnation carried.message.sequence) (member_at_end end)
      ≡ Some heard
      → SaysSo heard
  says-asked ends.Store heard e = absurd (none-some heard e)
  says-asked (ends.Member by) heard e =
      let it : Heard = heards.Asked by.id carried.message.incarnation carried.message.sequence in
      subst SaysSo (some-is it heard e) (nothing it refl refl refl)

  says-request : (ttl : Ticks) → carried.message.body ≡ bodies.FailsafeRequest ttl → (end : LinkEnd)
      → carried.message.from ≡ end → (heard : Heard)
      → option_map (λ by. heards.FailsafeAsked by carried.message.incarnation carried.message.sequence ttl)
      (member_at_end end) ≡ Some heard
      → SaysSo heard
  says-request ttl body ends.Store from heard e = absurd (none-some heard e)
  says-request ttl body (ends.Member by) from heard e =
      let it : Heard = heards.FailsafeAsked by.id carried.message.incarnation carried.message.sequence ttl in
      let message : carried.message ≡ record {
        from = ends.Member by;
        to = ends.Member member;
        incarnation = carried.message.incarnation;
        sequence = carried.message.sequence;
        body = bodies.FailsafeRequest ttl;
      } = message-is carried.message (ends.Member by) (ends.Member member) (bodies.FailsafeRequest ttl) from to body in
      subst SaysSo (some-is it heard e) (record {
        asks = λ r is. (ap request_of message ∙ is, ap (λ (x : Request). x.incarnation) (sym (some-is _ r is)));
        says = λ r is. absurd (none-some r is);
        sent = refl;
      })

  says-answer : (accepted : Bool) → carried.message.body ≡ bodies.FailsafeAnswer accepted → (end : LinkEnd)
      → carried.message.from ≡ end → (heard : Heard)
      → option_map (λ by. heards.FailsafeAnswered by carried.message.sequence accepted carried.sent) (member_at_end end)
      ≡ Some heard
      → SaysSo heard
  says-answer accepted body ends.Store from heard e = absurd (none-some heard e)
  says-answer true body (ends.Member by) from heard e =
      let it : Heard = heards.FailsafeAnswered by.id carried.message.sequence true carried.sent in
      let message : carried.message ≡ record {
        from = ends.Member by;
        to = ends.Member member;
        incarnation = carried.message.incarnation;
        sequence = carried.message.sequence;
        body = bodies.FailsafeAnswer true;
      } = message-is carried.message (ends.Member by) (ends.Member member) (bodies.FailsafeAnswer true) from to body in
      subst SaysSo (some-is it heard e)
      (record { asks = λ r is. absurd (none-some r is); says = λ r is. ap yes_of message ∙ is; sent = refl })
  says-answer false body (ends.Member by) from heard e =
      let it : Heard = heards.FailsafeAnswered by.id carried.message.sequence false carried.sent in
      subst SaysSo (some-is it heard e) (nothing it refl refl refl)

  says-in : (body : Body) → carried.message.body ≡ body → (heard : Heard)
      → heard_in cluster carried body ≡ Some heard → SaysSo heard
  says-in bodies.Snapshot is heard e =
      let it : Heard = heards.ReadAnswered carried.message.sequence (snapshot_in cluster carried) in
      subst SaysSo (some-is it heard e) (nothing it refl refl refl)
  says-in (bodies.Granted request leased) is heard e = says-granted carried.grant heard e
  says-in (bodies.Refused request key found) is heard e =
      let it : Heard = heards.Mismatch carried.message.sequence key found in
      subst SaysSo (some-is it heard e) (nothing it refl refl refl)
  says-in bodies.Ask is heard e = says-asked carried.message.from heard e
  says-in (bodies.Answer answer) is heard e = let it : Heard = heards.Answered carried.message.sequence answer in
      subst SaysSo (some-is it heard e) (nothing it refl refl refl)
  says-in (bodies.FailsafeRequest ttl) is heard e = says-request ttl is carried.message.from refl heard e
  says-in (bodies.FailsafeAnswer accepted) is heard e = says-answer accepted is carried.message.from refl heard e
  says-in _ is heard e = absurd (none-some heard e)

  says-so : (heard : Heard) → heard_from cluster carried ≡ Some heard → SaysSo heard
  says-so heard e = says-in carried.message.body refl heard e

-- whoever acknowledges, answers
yes-answers : (message : Message) (r : Request) → yes_of message ≡ Some r → is_answer message.body ≡ true
yes-answers message r is = by message.from message.to message.body is
  where
    in-body : (from to : Member) (body : Body)
        → yes_in from to message.incarnation message.sequence body ≡ Some r → is_answer body ≡ true
    in-body from to (bodies.FailsafeAnswer true) e = refl
    in-body from to (bodies.FailsafeAnswer false) e = absurd (none-some r e)
    in-body from to _ e = absurd (none-some r e)

    by : (from to : LinkEnd) (body : Body) → yes_by from to message.incarnation message.sequence body ≡ Some r
        → is_answer body ≡ true
    by (ends.Member from) (ends.Member to) body e = in-body from to body e
    by (ends.Member from) ends.Store body e = absurd (none-some r e)
    by ends.Store to body e = absurd (none-some r e)

-- ---- an agent that hears no message
module _ (moments : Moments) (cluster : Cluster) (member : Member) (knows : Knows moments cluster) where
  -- no agent hears it
  pub idle-told : (heard : Heard) (happening : AgentEvent) → IsOpening None (kinds.Agent happening)
      → agent_facts_after cluster (kinds.Agent happening)
      ≡ agent_facts_with cluster.agents member (outcome_of cluster member heard)
      → outcome_of cluster member heard ≡ None
      → Measures moments cluster (event_of cluster (kinds.Agent happening))
  idle-told heard happening opens acts none = record {
    measured = λ since. (tt, tt);
    numbered = (tt, tt);
    decided = (tt, tt);
    asks = unheard-one moments cluster None (kinds.Agent happening) opens
        (acts ∙ ap (λ (o : Option Outcome). agent_facts_with cluster.agents member o) none
        ∙ unchanged cluster.agents member.id.number)
        knows.sending.order knows.asks;
  }

  called-told : (heard : Heard) (happening : AgentEvent) → IsOpening None (kinds.Agent happening)
      → agent_facts_after cluster (kinds.Agent happening)
      ≡ agent_facts_with cluster.agents member (outcome_of cluster member heard)
      → ((agent : AgentFacts) (machine : Machine) → slice_get cluster.agents member.id.number ≡ Some (Some agent)
      → agent_facts_after cluster (kinds.Agent happening)
      ≡ agent_facts_with cluster.agents member
      (Some (step (moment_of cluster) (points_of cluster member) heard
      (outcome_from agent.role agent.knows machine [])))
      → Measures moments cluster
      (event_of cluster (kinds.Agent happening)
      ++ each (output_events member no_message) (cluster_after cluster (kinds.Agent happening))
      (step (moment_of cluster) (points_of cluster member) heard
      (outcome_from agent.role agent.knows machine [])).outputs))
      → (agent : Option AgentFacts) (machine : Option Machine)
      → agent_at cluster.agents member.id.number ≡ agent → machine_of cluster member ≡ machine
      → Measures moments cluster
      (event_of cluster (kinds.Agent happening) ++ input_events (cluster_after cluster (kinds.Agent happening))
      member no_message (outcome_at (moment_of cluster) (points_of cluster member) heard agent machine))
  called-told heard happening opens acts tells None machine a m =
      idle-told heard happening opens acts (the-outcome cluster member heard None machine a m)
  called-told heard happening opens acts tells (Some agent) None a m =
      idle-told heard happening opens acts (the-outcome cluster member heard (Some agent) None a m)
  called-told heard happening opens acts tells (Some agent) (Some machine) a m =
      tells agent machine (agent-here cluster member agent a)
      (acts ∙ ap (λ (o : Option Outcome). agent_facts_with cluster.agents member o)
      (the-outcome cluster member heard (Some agent) (Some machine) a m))

  pub told-wake : Measures moments cluster (wake_events_of cluster member)
  told-wake = called-told heards.Wake (agents.Woken member) refl refl
      (λ agent machine here acts. told-woken
      ⊥ moments cluster member knows None no_message (kinds.Agent (agents.Woken member)) refl (record {
        measured = λ since. (tt, tt);
        numbered = (tt, tt);
        decided = (tt, tt);
      }) agent machine here (λ h. absurd h) acts)
      (agent_at cluster.agents member.id.number) (machine_of cluster member) refl refl

  pub told-operated : (action : OperatorAction) → Measures moments cluster (operate_events cluster member action)
  told-operated action = called-told (heards.Operated action) (agents.Operated member action) refl refl
      (λ agent machine here acts. told-asked
      ⊥ moments cluster member knows None no_message (kinds.Agent (agents.Operated member action)) refl (record {
        measured = λ since. (tt, tt);
        numbered = (tt, tt);
        decided = (tt, tt);
      }) agent machine here (λ h. absurd h) action acts)
      (agent_at cluster.agents member.id.number) (machine_of cluster member) refl refl

-- ---- a message that comes
module _ (moments : Moments) (cluster : Cluster) (number : ℕ) (message : InFlightFacts) (member : Member)
    (knows : Knows moments cluster)
    (found : in_flight cluster.facts.flight number ≡ Some message) (to : message.message.to ≡ ends.Member member)
    (through : delivery_of cluster.facts.cuts cluster.facts.processes message.message ≡ deliveries.Open) where
  abbrev Arrived : EventKind
  Arrived = kinds.Message (messages.Delivered number)

  plainly : Plainly moments cluster (kinds.Message (messages.Delivered number))
  plainly = record { measured = λ since. (tt, tt); numbered = (tt, tt); decided = (tt, tt) }

  acted : (heard : Option Heard) → heard_from cluster message ≡ heard
      → agent_facts_after cluster Arrived
      ≡ agent_facts_with cluster.agents member (outcome_of_heard cluster member heard)
  acted heard h =
      ap (agent_facts_reached cluster) found ∙ ap (λ (end : LinkEnd). agent_facts_reached_at cluster message end) to
      ∙ ap (λ (x : Option Heard). agent_facts_with cluster.agents member (outcome_of_heard cluster member x)) h

  idle : (heard : Option Heard) → heard_from cluster message ≡ heard → outcome_of_heard cluster member heard ≡ None
      → Measures moments cluster (event_of cluster (kinds.Message (messages.Delivered number)))
  idle heard h none = record {
    measured = λ since. (tt, tt);
    numbered = (tt, tt);
    decided = (tt, tt);
    asks = unheard-one moments cluster (Some number) Arrived refl
        (acted heard h ∙ ap (λ (o : Option Outcome). agent_facts_with cluster.agents member o) none
        ∙ unchanged cluster.agents member.id.number)
        knows.sending.order knows.asks;
  }

  module _ (agent : AgentFacts) (machine : Machine)
      (here : slice_get cluster.agents member.id.number ≡ Some (Some agent)) where
    hears-it : Unit {0}
        → IsHeardAt (moments_after moments Arrived) (cluster_after cluster Arrived) (heard_message number message)
    hears-it h =
        record { known = knows.sending.known number message found; old = knows.sending.flown number message found }

    -- an answer comes in the run that asked
    same-run : is_answer message.message.body ≡ true → message.message.incarnation ≡ agent.knows.incarnation
    same-run answers =
        let opened = opened-for cluster message.message member to through in
        answer-run message.message (slice_get cluster.facts.processes member.id.number) opened answers
        ∙ knows.asks.runs member.id.number opened.process opened.is
        ∙ sym (knows.asks.agents member.id.number agent here).run_is

    gone : (n : ℕ) (c : InFlightFacts) → Some number ≡ Some n
        → in_flight (cluster_after cluster Arrived).facts.flight n ≡ Some c → ⊥
    gone n c same is = none-some c
        (sym (put-here (in_flight cluster.facts.flight) number None)
        ∙ ap (put_at (in_flight cluster.facts.flight) number None) (some-is number n same)
        ∙ sym (in-without 0 cluster.facts.flight number n knows.sending.order) ∙ is)

    hears-told : (heard : Heard) → heard_from cluster message ≡ Some heard
        → agent_facts_after cluster Arrived
        ≡ agent_facts_with cluster.agents member
        (Some (step (moment_of cluster) (points_of cluster member) heard
        (outcome_from agent.role agent.knows machine [])))
        → Measures moments cluster
        (event_of cluster Arrived
        ++ each (output_events member (heard_message number message)) (cluster_after cluster Arrived)
        (step (moment_of cluster) (points_of cluster member) heard
        (outcome_from agent.role agent.knows machine [])).outputs)
    hears-told heards.Wake h acts = told-woken (Unit {0}) moments cluster member knows (Some number)
        (heard_message number message) Arrived refl plainly agent machine here hears-it acts
    hears-told (heards.Operated action) h acts = told-asked (Unit {0}) moments cluster member knows (Some number)
        (heard_message number message) Arrived refl plainly agent machine here hears-it action acts
    hears-told (heards.ReadAnswered sequence snapshot) h acts =
        told-read (Unit {0}) moments cluster member knows (Some number)
        (heard_message number message) Arrived refl plainly agent machine here hears-it sequence snapshot tt acts
    hears-told (heards.Granted sequence grant snapshot) h acts =
        told-granted (Unit {0}) moments cluster member knows (Some number)
        (heard_message number message) Arrived refl plainly agent machine here hears-it sequence grant snapshot tt acts
    hears-told (heards.Mismatch sequence key known) h acts =
        told-refused (Unit {0}) moments cluster member knows (Some number)
        (heard_message number message) Arrived refl plainly agent machine here hears-it sequence key known tt acts
    hears-told (heards.Asked from run sequence) h acts = told-peer (Unit {0}) moments cluster member knows (Some number)
        (heard_message number message) Arrived refl plainly agent machine here hears-it from run sequence tt acts
    hears-told (heards.Answered sequence answer) h acts =
        told-position (Unit {0}) moments cluster member knows (Some number)
        (heard_message number message) Arrived refl plainly agent machine here hears-it sequence answer tt acts
    hears-told (heards.FailsafeAsked from run sequence ttl) h acts =
        let says = (says-so cluster message member to (heards.FailsafeAsked from run sequence ttl) h).asks
        (record { by = member.id.number; from = from.number; incarnation = run; sequence = sequence }) refl in
        told-requested (Unit {0}) moments cluster member knows (Some number)
        (heard_message number message) Arrived refl plainly agent machine here hears-it tt from run sequence ttl acts
        (record {
          number = number;
          is = refl;
          carried = message;
          there = found;
          asks = says.0;
          incarnation = sym says.1;
        }) gone
    hears-told (heards.FailsafeAnswered from sequence accepted sent) h acts =
        told-answered (Unit {0}) moments cluster member knows (Some number) (heard_message number message) Arrived
        refl plainly agent machine here hears-it from sequence accepted sent tt acts (λ so. holds accepted so h)
      where
        holds : (test : Bool) → test ≡ true
            → heard_from cluster message ≡ Some (heards.FailsafeAnswered from sequence test sent)
            → IsTaken moments.taken (record {
              by = from.number;
              from = member.id.number;
              incarnation = agent.knows.incarnation;
              sequence = sequence;
              moment = sent.0;
            })
        holds false so h = absurd (both so)
        holds true so h =
            let says = says-so cluster message member to (heards.FailsafeAnswered from sequence true sent) h in
            let r : Request = record {
              by = from.number;
              from = member.id.number;
              incarnation = message.message.incarnation;
              sequence = sequence;
            } in
            let yes : yes_of message.message ≡ Some r = says.says r refl in
            subst (λ (n : ℕ). IsTaken moments.taken (record {
              by = from.number;
              from = member.id.number;
              incarnation = n;
              sequence = sequence;
              moment = sent.0;
            })) (same-run (yes-answers message.message r yes))
            (subst (λ (t : Ticks). IsTaken moments.taken (taking r t.0)) (sym says.sent)
            (knows.asks.asks.yes number message r found yes))

  hears-by : (heard : Heard) (agent : Option AgentFacts) (machine : Option Machine)
      → heard_from cluster message ≡ Some heard → agent_at cluster.agents member.id.number ≡ agent
      → machine_of cluster member ≡ machine
      → Measures moments cluster
      (event_of cluster Arrived ++ input_events (cluster_after cluster Arrived) member (heard_message number message)
      (outcome_at (moment_of cluster) (points_of cluster member) heard agent machine))
  hears-by heard None machine h a m = idle (Some heard) h (the-outcome cluster member heard None machine a m)
  hears-by heard (Some agent) None h a m = idle (Some heard) h (the-outcome cluster member heard (Some agent) None a m)
  hears-by heard (Some agent) (Some machine) h a m =
      hears-told agent machine (agent-here cluster member agent a) heard h
      (acted (Some heard) h ∙ ap (λ (o : Option Outcome). agent_facts_with cluster.agents member o)
      (the-outcome cluster member heard (Some agent) (Some machine) a m))

  heard-told : (heard : Option Heard) → heard_from cluster message ≡ heard
      → Measures moments cluster
      (event_of cluster Arrived ++ input_events (cluster_after cluster Arrived) member
      (heard_message number message) (outcome_of_heard cluster member heard))
  heard-told None h = idle None h refl
  heard-told (Some heard) h =
      hears-by heard (agent_at cluster.agents member.id.number) (machine_of cluster member) h refl refl

  pub told-hearing : Measures moments cluster (hear_events cluster number message member)
  told-hearing = heard-told (heard_from cluster message) refl
