-- A reply that is waited for, over ticks of the default schedule.
use Rattle.std.proofs.Common.{ℕ, ◌≡◌, ◌⊎◌, ◌==◌, Bool, true, false, cond, List, [], ◌∷◌, ◌++◌, slice_get, Option, Some, None, zero, suc, refl, ◌∙◌, ap, sym, subst, inl, inr, append-nil, option_map, replicate}
use Rattle.std.proofs.lemmas.Option.{none-some, same_Some}
use Rattle.std.specs.Map.{keys_of}
use Rattle.std.specs.Option.{option_or}
use Rattle.pat_base.specs.declared.member_id.MemberId.{MemberId}
use Rattle.pat_base.specs.declared.ticks.Ticks.{Ticks}
use Rattle.event_book.specs.declared.event.AgentEvent.TheVariants as agents
use Rattle.event_book.specs.declared.event.Event.{Event}
use Rattle.event_book.specs.declared.event.EventKind.{EventKind}
use Rattle.event_book.specs.declared.event.EventKind.TheVariants as kinds
use Rattle.event_book.specs.declared.event.MessageEvent.TheVariants as messages
use Rattle.event_book.specs.declared.link.LinkEnd.{LinkEnd}
use Rattle.event_book.specs.declared.link.LinkEnd.TheVariants as ends
use Rattle.event_book.specs.declared.member.Member.{Member}
use Rattle.event_book.specs.declared.message.Body.{Body}
use Rattle.event_book.specs.declared.message.Body.TheVariants as bodies
use Rattle.event_book.specs.Flight.{InFlightFacts, in_flight}
use Rattle.rest_answer.specs.declared.refusal.Refusal.TheVariants as refusals
use Rattle.rest_answer.specs.Refusals.{refusal_reply}
use Rattle.rest_message.specs.Replies.{ReplyText}
use Rattle.agent_model.specs.declared.heard.Heard.{Heard}
use Rattle.agent_model.specs.declared.heard.Heard.TheVariants as heards
use Rattle.agent_model.specs.declared.operating.Operating.{Operating}
use Rattle.agent_model.specs.declared.operating.Told.{Told}
use Rattle.agent_model.specs.Agents.{AgentFacts, Outcome}
use Rattle.agent_model.specs.Table.{step}
use Rattle.agent_answers.specs.OperatorAnswers.{AnswersAtOnce, WaitsForHeard}
use Rattle.cluster_model.specs.declared.delivery.Delivery.{Delivery}
use Rattle.cluster_model.specs.declared.delivery.Delivery.TheVariants as deliveries
use Rattle.cluster_model.specs.declared.step.Step.{Step}
use Rattle.cluster_model.specs.declared.step.Step.TheVariants as steps
use Rattle.cluster_model.specs.declared.step.Visit.TheVariants as visits
use Rattle.cluster_model.specs.Cluster.{agent_after, agent_facts_reached, agent_facts_reached_at, agent_facts_with, cluster_after, cluster_over}
use Rattle.cluster_model.specs.Deliveries.{delivery_of}
use Rattle.cluster_model.specs.Hearing.{heard_from, heard_in, member_at_end, snapshot_in}
use Rattle.cluster_model.specs.Inputs.{agent_at, is_to_wake, moment_of, outcome_of_heard, standing_of}
use Rattle.cluster_model.specs.Limits.{most_rounds}
use Rattle.cluster_model.specs.Messages.{arrival_events_at, answer_events_by, heard_message, input_events, message_events, message_events_by, no_message, visit_events, wake_events, wake_events_if, wake_events_of}
use Rattle.cluster_model.specs.Next.{acknowledge_events, declared, next_events, receive_events_of, round_events, rounds_events, run_events, scheduled_events, step_events}
use Rattle.cluster_model.specs.Parts.{each, event_of, events_then, for_some, is_empty}
use Rattle.cluster_model.specs.State.{Cluster}
use Rattle.cluster_model.specs.Ticking.{tick_events}
use Rattle.serve_model.specs.Connections.{reply_in, unless_replied, waiting_steps}
use Rattle.serve_model.proofs.Replies.{reply_in-append}
use Rattle.serve_law.specs.Owing.{IsTold, SaysTo}
use Rattle.serve_law.proofs.Apart.{acknowledge-apart, answer-apart, apart-each, apart-silent, receive-apart, tick-apart}
use Rattle.serve_law.proofs.Owing.{Owes, OwesOf, SettlesWhereOwed, after-owes, owes-with, settles-apart, settles-each, settles-for_some, settles-if, settles-input, settles-none, settles-then, told-before, told-behind}

-- what a message says is no request of an operator
abbrev IsFromMessage : Heard → Type 0
IsFromMessage (heards.Operated action) = ⊥
IsFromMessage _ = Unit {0}

granted-from : {X : Type 0} (f : X → Heard) → ((x : X) → IsFromMessage (f x))
    → (found : Option X) (heard : Heard) → option_map f found ≡ Some heard → IsFromMessage heard
granted-from f all None heard e = absurd (none-some _ e)
granted-from f all (Some x) heard e = subst IsFromMessage (same_Some _ _ e) (all x)

says-so : {y z : Heard} → IsFromMessage y → Some y ≡ Some z → IsFromMessage z
says-so is e = subst IsFromMessage (same_Some _ _ e) is

from-message : (cluster : Cluster) (message : InFlightFacts) (body : Body) (heard : Heard)
    → heard_in cluster message body ≡ Some heard → IsFromMessage heard
from-message cluster message bodies.Snapshot heard e = says-so tt e
from-message cluster message (bodies.Granted request leased) heard e =
    granted-from (λ grant. heards.Granted message.message.sequence grant (snapshot_in cluster message))
    (λ grant. tt) message.grant heard e
from-message cluster message (bodies.Refused request key found) heard e = says-so tt e
from-message cluster message bodies.Ask heard e =
    granted-from (λ from. heards.Asked from message.message.incarnation message.message.sequence) (λ from. tt)
    (member_at_end message.message.from) heard e
from-message cluster message (bodies.Answer answer) heard e = says-so tt e
from-message cluster message (bodies.FailsafeRequest ttl) heard e =
    granted-from (λ from. heards.FailsafeAsked from message.message.incarnation message.message.sequence ttl)
    (λ from. tt) (member_at_end message.message.from) heard e
from-message cluster message (bodies.FailsafeAnswer accepted) heard e =
    granted-from (λ from. heards.FailsafeAnswered from message.message.sequence accepted message.sent)
    (λ from. tt) (member_at_end message.message.from) heard e
from-message cluster message _ heard e = absurd (none-some _ e)

waits-not : (now : Ticks) (heard : Heard) (o after : Outcome) (waiting : Operating) → IsFromMessage heard
    → WaitsForHeard now heard o after waiting → ⊥
waits-not now (heards.Operated action) o after waiting is w = is
waits-not now _ o after waiting is w = w

once-not : (heard : Heard) (after : Outcome) (answer : ℕ × Told) → IsFromMessage heard
    → AnswersAtOnce heard after answer → ⊥
once-not (heards.Operated action) after answer is at = is
once-not _ after answer is at = at

module _ (number : ℕ) (id : MemberId) where
  abbrev Settled : Cluster → List Event → Type 0
  Settled cluster events = SettlesWhereOwed number id cluster events

  -- ---- agents that are woken
  settles-woken : (cluster : Cluster) (member : Member) → Settled cluster (wake_events_of cluster member)
  settles-woken cluster member =
      settles-input number id cluster member heards.Wake no_message (kinds.Agent (agents.Woken member))
      (refl, refl) refl (λ o after waiting is. is) (λ after answer at. at)

  settles-wake : (cluster : Cluster) (member : Member) → Settled cluster (wake_events cluster member)
  settles-wake cluster member =
      settles-for_some number id cluster (slice_get cluster.facts.processes member.id.number)
      (wake_events_if cluster member) (λ process is.
      settles-if number id cluster (is_to_wake (moment_of cluster) process (standing_of cluster member))
      (wake_events_of cluster member) [] (settles-woken cluster member) (settles-none number id cluster))

  -- ---- messages that come
  module _ (cluster : Cluster) (n : ℕ) (message : InFlightFacts)
      (found : in_flight cluster.facts.flight n ≡ Some message) where
    abbrev Arrived : EventKind
    Arrived = kinds.Message (messages.Delivered n)

    reached : (to : LinkEnd) → message.message.to ≡ to
        → (cluster_after cluster Arrived).agents ≡ agent_facts_reached_at cluster message to
    reached to is = ap (agent_facts_reached cluster) found ∙ ap (agent_facts_reached_at cluster message) is

    settles-heard : (member : Member) → message.message.to ≡ ends.Member member → (heard : Option Heard)
        → heard_from cluster message ≡ heard
        → Settled cluster
        (event_of cluster Arrived ++ input_events (cluster_after cluster Arrived) member
        (heard_message n message) (outcome_of_heard cluster member heard))
    settles-heard member to (Some heard) is =
        settles-input number id cluster member heard (heard_message n message) Arrived
        (subst (SaysTo cluster member heard) (sym found) (to, is))
        (reached (ends.Member member) to
        ∙ ap (λ (h : Option Heard). agent_facts_with cluster.agents member (outcome_of_heard cluster member h)) is)
        (λ o after waiting w. waits-not (moment_of cluster) heard o after waiting
        (from-message cluster message message.message.body heard is) w)
        (λ after answer at. once-not heard after answer (from-message cluster message message.message.body heard is) at)
    settles-heard member to None is = λ owes. record {
      owes = subst (λ (xs : List (Option AgentFacts)). OwesOf number (agent_at xs id.number))
          (sym (reached (ends.Member member) to
          ∙ ap (λ (h : Option Heard). agent_facts_with cluster.agents member (outcome_of_heard cluster member h)) is))
          (owes-with number cluster.agents member.id.number id.number (agent_after None)
          (λ same. after-owes number (slice_get cluster.agents id.number) None (λ o. o) owes) owes);
      told = λ reply e. absurd (none-some _ e);
    }

    settles-stored : message.message.to ≡ ends.Store → Settled cluster (arrival_events_at cluster n message ends.Store)
    settles-stored to =
        let later = cluster_after cluster Arrived in
        settles-then number id cluster (event_of cluster Arrived)
        (answer_events_by later n message.message message.message.body)
        (λ owes. record {
          owes = subst (λ (xs : List (Option AgentFacts)). OwesOf number (agent_at xs id.number))
              (sym (reached ends.Store to)) owes;
          told = λ reply e. absurd (none-some _ e);
        })
        (settles-apart number id later (answer_events_by later n message.message message.message.body)
        (answer-apart later n message.message message.message.body))

    settles-arrival : (to : LinkEnd) → message.message.to ≡ to
        → Settled cluster (arrival_events_at cluster n message to)
    settles-arrival ends.Store is = settles-stored is
    settles-arrival (ends.Member member) is = settles-heard member is (heard_from cluster message) refl

    settles-message : (delivery : Delivery) → Settled cluster (message_events_by cluster n message delivery)
    settles-message deliveries.Open = settles-arrival message.message.to refl
    settles-message deliveries.Cut =
        settles-apart number id cluster (event_of cluster (kinds.Message (messages.Lost n))) (tt, tt)
    settles-message deliveries.Suspended = settles-none number id cluster
    settles-message deliveries.Gone =
        settles-apart number id cluster (event_of cluster (kinds.Message (messages.Lost n))) (tt, tt)

  settles-moved : (cluster : Cluster) (n : ℕ) → Settled cluster (message_events cluster n)
  settles-moved cluster n =
      settles-for_some number id cluster (in_flight cluster.facts.flight n) _ (λ message found.
      settles-message cluster n message found (delivery_of cluster.facts.cuts cluster.facts.processes message.message))

  -- ---- a tick of the default schedule
  settles-round : (cluster : Cluster) → Settled cluster (round_events cluster)
  settles-round cluster =
      let wakes = each wake_events cluster cluster.facts.members in
      let later = cluster_over cluster wakes in
      settles-then number id cluster wakes (each message_events later (keys_of later.facts.flight))
      (settles-each number id wake_events settles-wake cluster cluster.facts.members)
      (settles-each number id message_events settles-moved later (keys_of later.facts.flight))

  settles-rounds : (count : ℕ) (cluster : Cluster) → Settled cluster (rounds_events cluster count)
  unfolding rounds_events
  settles-rounds zero cluster = settles-none number id cluster
  settles-rounds (suc count) cluster =
      settles-if number id cluster (is_empty (round_events cluster)) [] _ (settles-none number id cluster)
      (settles-then number id cluster (round_events cluster)
      (rounds_events (cluster_over cluster (round_events cluster)) count) (settles-round cluster)
      (settles-rounds count (cluster_over cluster (round_events cluster))))

  settles-scheduled : (cluster : Cluster) → Settled cluster (scheduled_events cluster)
  settles-scheduled cluster =
      let receives = each receive_events_of cluster cluster.facts.members in
      settles-then number id cluster receives (rounds_events (cluster_over cluster receives) most_rounds)
      (settles-apart number id cluster receives
      (apart-each receive_events_of receive-apart cluster cluster.facts.members))
      (settles-rounds most_rounds (cluster_over cluster receives))

  abbrev pub Acknowledged : Cluster → List Event
  Acknowledged later = each acknowledge_events later later.facts.members

  pub settles-acknowledged : (cluster : Cluster) → Settled cluster (Acknowledged cluster)
  settles-acknowledged cluster = settles-apart number id cluster (Acknowledged cluster)
      (apart-each acknowledge_events acknowledge-apart cluster cluster.facts.members)

  settles-tick : (cluster : Cluster) → Settled cluster (next_events cluster steps.Scheduled)
  settles-tick cluster =
      let ticks = step_events cluster steps.Scheduled in
      let ticked = cluster_over cluster (tick_events cluster) in
      settles-then number id cluster ticks (Acknowledged (cluster_over cluster ticks))
      (settles-then number id cluster (tick_events cluster) (scheduled_events ticked)
      (settles-apart number id cluster (tick_events cluster) (tick-apart cluster)) (settles-scheduled ticked))
      (settles-acknowledged (cluster_over cluster ticks))

  -- ---- steps, one after another
  -- a reply is what the agent told this request, or says that no result came in time, and this holds
  abbrev pub IsOwedIf : Type 0 → Cluster → List Event → ReplyText → Type 0
  IsOwedIf late cluster events reply =
      IsTold number id cluster events reply ⊎ (late × (reply ≡ refusal_reply refusals.NoResult))

  pub late-if : {late other : Type 0} (cluster : Cluster) (events : List Event) (reply : ReplyText) → (late → other)
      → IsOwedIf late cluster events reply → IsOwedIf other cluster events reply
  late-if cluster events reply f (inl told) = inl told
  late-if cluster events reply f (inr late) = inr (f late.0, late.1)

  owed-behind : (late : Type 0) (cluster : Cluster) (xs ys : List Event) (reply : ReplyText)
      → IsOwedIf late (cluster_over cluster xs) ys reply → IsOwedIf late cluster (xs ++ ys) reply
  owed-behind late cluster xs ys reply (inl told) = inl (told-behind number id cluster xs ys reply told)
  owed-behind late cluster xs ys reply (inr is) = inr is

  -- a step, and more steps unless it brought a reply
  pub owed-steps : (late : Type 0) (cluster : Cluster) (step : Step) (more : List Step) (found : Option ReplyText)
      → reply_in id (next_events cluster step) ≡ found
      → ((reply : ReplyText) → reply_in id (next_events cluster step) ≡ Some reply →
      IsTold number id cluster (next_events cluster step) reply)
      → (found ≡ None → (reply : ReplyText) →
      reply_in id (run_events (cluster_over cluster (next_events cluster step)) more) ≡ Some reply
      → IsOwedIf late (cluster_over cluster (next_events cluster step))
      (run_events (cluster_over cluster (next_events cluster step)) more) reply)
      → (reply : ReplyText) → reply_in id (run_events cluster (step ∷ unless_replied found more)) ≡ Some reply
      → IsOwedIf late cluster (run_events cluster (step ∷ unless_replied found more)) reply
  owed-steps late cluster step more (Some first) is told others reply e =
      inl (told-before number id cluster (next_events cluster step) [] reply
      (told reply (ap (reply_in id) (sym (append-nil (next_events cluster step))) ∙ e)))
  owed-steps late cluster step more None is told others reply e =
      let events = next_events cluster step in
      let later = cluster_over cluster events in
      owed-behind late cluster events (run_events later more) reply
      (others refl reply
      (ap (λ (r : Option ReplyText). option_or r (reply_in id (run_events later more))) (sym is)
      ∙ (sym (reply_in-append id events (run_events later more)) ∙ e)))

  -- where nothing is replied by some events and by others, nothing is by both
  pub silent-then : (xs ys : List Event) → reply_in id xs ≡ None → reply_in id ys ≡ None
      → reply_in id (xs ++ ys) ≡ None
  silent-then xs ys first then = reply_in-append id xs ys
      ∙ (ap (λ (r : Option ReplyText). option_or r (reply_in id ys)) first ∙ then)

  -- where nothing is replied by a step and what is to come behind it,
  -- nothing is by that step and others of which that is so
  pub silent-steps : (cluster : Cluster) (step : Step) (more others : List Step) (found : Option ReplyText)
      → reply_in id (next_events cluster step) ≡ found
      → (reply_in id (run_events (cluster_over cluster (next_events cluster step)) more) ≡ None
      → reply_in id (run_events (cluster_over cluster (next_events cluster step)) others) ≡ None)
      → reply_in id (run_events cluster (step ∷ unless_replied found more)) ≡ None
      → reply_in id (run_events cluster (step ∷ others)) ≡ None
  silent-steps cluster step more others (Some reply) is so e =
      absurd (none-some _ (sym e ∙ (ap (reply_in id) (append-nil (next_events cluster step)) ∙ is)))
  silent-steps cluster step more others None is so e =
      let events = next_events cluster step in
      let later = cluster_over cluster events in
      silent-then events (run_events later others) is
      (so (ap (λ (r : Option ReplyText). option_or r (reply_in id (run_events later more))) (sym is)
      ∙ (sym (reply_in-append id events (run_events later more)) ∙ e)))

  pub silent-waiting : (n : ℕ) (cluster : Cluster)
      → reply_in id (run_events cluster (waiting_steps cluster id n)) ≡ None
      → reply_in id (run_events cluster (replicate n steps.Scheduled)) ≡ None
  silent-waiting zero cluster e = refl
  silent-waiting (suc n) cluster e =
      let events = next_events cluster steps.Scheduled in
      let later = cluster_over cluster events in
      silent-steps cluster steps.Scheduled (waiting_steps later id n) (replicate n steps.Scheduled)
      (reply_in id events) refl (silent-waiting n later) e

  -- the step that says that no result came says that alone
  late-by : (cluster : Cluster) (member : Member) (same : Bool) (reply : ReplyText)
      → (member.id.number == id.number) ≡ same
      → option_or (cond same (Some (refusal_reply refusals.NoResult)) None)
      (reply_in id
      (Acknowledged (cluster_over cluster (visit_events cluster (visits.Refusal refusals.NoResult) member))))
      ≡ Some reply
      → reply ≡ refusal_reply refusals.NoResult
  late-by cluster member true reply is e = sym (same_Some _ _ e)
  late-by cluster member false reply is e =
      let later = cluster_over cluster (visit_events cluster (visits.Refusal refusals.NoResult) member) in
      absurd (none-some _
      (sym (apart-silent id (Acknowledged later)
      (apart-each acknowledge_events acknowledge-apart later later.facts.members))
      ∙ e))

  late-reply : (cluster : Cluster) (found : Option Member) (reply : ReplyText)
      → reply_in id
      (events_then cluster (for_some found (visit_events cluster (visits.Refusal refusals.NoResult))) Acknowledged)
      ≡ Some reply
      → reply ≡ refusal_reply refusals.NoResult
  late-reply cluster None reply e =
      absurd (none-some _
      (sym (apart-silent id (Acknowledged cluster)
      (apart-each acknowledge_events acknowledge-apart cluster cluster.facts.members))
      ∙ e))
  late-reply cluster (Some member) reply e = late-by cluster member (member.id.number == id.number) reply refl e

  -- while a reply is waited for
  pub waited : (n : ℕ) (cluster : Cluster) → Owes number id.number cluster → (reply : ReplyText)
      → reply_in id (run_events cluster (waiting_steps cluster id n)) ≡ Some reply
      → IsOwedIf (reply_in id (run_events cluster (replicate n steps.Scheduled)) ≡ None) cluster
      (run_events cluster (waiting_steps cluster id n)) reply
  waited zero cluster owes reply e =
      let events = next_events cluster (steps.Connection id (visits.Refusal refusals.NoResult)) in
      inr (refl, late-reply cluster (declared cluster id) reply (ap (reply_in id) (sym (append-nil events)) ∙ e))
  waited (suc n) cluster owes reply e =
      let events = next_events cluster steps.Scheduled in
      let later = cluster_over cluster events in
      let settled = settles-tick cluster owes in
      let ticks = run_events later (replicate n steps.Scheduled) in
      owed-steps (reply_in id (events ++ ticks) ≡ None) cluster steps.Scheduled (waiting_steps later id n)
      (reply_in id events) refl settled.told
      (λ none given is. late-if later (run_events later (waiting_steps later id n)) given
      (λ silent. silent-then events ticks none silent)
      (waited n later settled.owes given is)) reply e
