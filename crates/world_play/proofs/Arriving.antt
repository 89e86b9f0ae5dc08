-- What comes of a message that came to its receiver.
use Rattle.std.proofs.Common.{◌≡◌, ◌≢◌, ◌<◌, ℕ, ◌+◌, List, [], Option, Some, None, arith, refl, ap, sym, subst, ◌∙◌}
use Rattle.event_book.specs.declared.event.EventKind.TheVariants as kinds
use Rattle.event_book.specs.declared.event.MessageEvent.TheVariants.{Delivered}
use Rattle.event_book.specs.declared.link.LinkEnd.{LinkEnd}
use Rattle.event_book.specs.declared.link.LinkEnd.TheVariants as link_ends
use Rattle.event_book.specs.declared.member.Member.{Member}
use Rattle.event_book.specs.declared.message.Message.{Message}
use Rattle.event_book.specs.Flight.{InFlightFacts, in_flight}
use Rattle.event_list.specs.Listed.{Listed}
use Rattle.agent_model.specs.declared.output.Output.{Output}
use Rattle.agent_model.specs.Agents.{AgentFacts}
use Rattle.cluster_model.specs.Cluster.{agent_after, agent_facts_reached, agent_facts_reached_at, cluster_after}
use Rattle.cluster_model.specs.declared.heard_message.HeardMessage.{HeardMessage}
use Rattle.cluster_model.specs.Hearing.{heard_from}
use Rattle.cluster_model.specs.Inputs.{agent_at, outcome_of_heard}
use Rattle.cluster_model.specs.Messages.{answer_events, arrival_events, arrival_events_at, heard_message, input_events, output_events}
use Rattle.cluster_model.specs.Parts.{each, event_of, for_some}
use Rattle.cluster_model.specs.State.{Cluster}
use Rattle.world_model.specs.Emits.{Emits}
use Rattle.world_model.specs.Room.{HasRoom, decision_cost, hearing_cost, message_cost, outputs_cost}
use Rattle.world_model.specs.Short.{IsShort}
use Rattle.world_model.proofs.Rooms.{HasRoom-fewer}
use Rattle.world_model.proofs.Taking.{Emits-then, found-took}
use Rattle.world_stage.specs.Arrivals.{ArrivesAt, Comes, Landed}
use Rattle.world_stage.specs.declared.arrival.Arrival.{Arrival}
use Rattle.world_stage.specs.declared.arrival.Arrival.TheVariants as arrivals
use Rattle.world_acts.specs.Asleep.{AreAsleep, until_of}
use Rattle.world_acts.specs.declared.sleepers.Sleepers.{Sleepers}
use Rattle.world_acts.proofs.Sleeping.{agent-elsewhere, agents-asleep}
use Rattle.world_acts.proofs.Waking.{AreFew, input-few}

-- the events of what came are those of its receiver
arrival-is : (before after : Cluster) (had has : Listed) (number : ℕ) (message : InFlightFacts) (to : LinkEnd)
    → in_flight before.facts.flight number ≡ Some message → message.message.to ≡ to
    → Emits before after had has (arrival_events_at before number message to) message_cost
    → Emits before after had has
    (for_some (in_flight before.facts.flight number) (arrival_events before number)) message_cost
arrival-is before after had has number message to is receiver took =
    found-took InFlightFacts before after had has (arrival_events before number)
    (in_flight before.facts.flight number) message message_cost is
    (subst (λ (e : LinkEnd). Emits before after had has (arrival_events_at before number message e) message_cost)
    (sym receiver) took)

-- those agents sleep as before that stay the same, whom it reached
reached-asleep : (was asleep : Sleepers) (before : Cluster) (number : ℕ) (message : InFlightFacts) (to : LinkEnd)
    → in_flight before.facts.flight number ≡ Some message → message.message.to ≡ to → AreAsleep was before
    → ((n now : ℕ) → now < until_of asleep n →
    (now < until_of was n) × (agent_at (agent_facts_reached_at before message to) n ≡ agent_at before.agents n))
    → AreAsleep asleep (cluster_after before (kinds.Message (Delivered number)))
reached-asleep was asleep before number message to is receiver sleep same =
    let reached : agent_facts_reached before (in_flight before.facts.flight number)
    ≡ agent_facts_reached_at before message to =
    ap (agent_facts_reached before) is ∙ ap (agent_facts_reached_at before message) receiver in
    let agents =
    agents-asleep was asleep before (agent_facts_reached before (in_flight before.facts.flight number)) sleep
    (λ n now there. (
      (same n now there).0,
      ap (λ (known : List (Option AgentFacts)). agent_at known n) reached ∙ (same n now there).1,
    )) in
    record { each = agents.each }

-- a message came to the key store
pub record StoreCame (before after : Cluster) (had has : Listed) (outputs : List Output) (number : ℕ)
    (stored : Message) : Type 0 where
  pub short : IsShort stored.body
  pub none : outputs ≡ []
  pub asleep : (asleep : Sleepers) → AreAsleep asleep before → AreAsleep asleep after
  pub room : HasRoom before message_cost → HasRoom after decision_cost
  pub answered : (last : Cluster) (all : Listed)
      → Emits after last has all (answer_events after number stored) decision_cost
      → Emits before last had all
      (for_some (in_flight before.facts.flight number) (arrival_events before number)) message_cost

store-came-at : (before after : Cluster) (had has : Listed) (outputs : List Output) (number : ℕ)
    (stored : Message) (message : InFlightFacts) (to : LinkEnd)
    → in_flight before.facts.flight number ≡ Some message → message.message.to ≡ to
    → Comes before after had has outputs number message (arrivals.AtStore stored)
    → ArrivesAt before number message to outputs (arrivals.AtStore stored)
    → StoreCame before after had has outputs number stored
store-came-at before after had has outputs number stored message link_ends.Store is receiver came arrives = record {
  short = subst (λ (m : Message). IsShort m.body) (sym arrives.0) came.sent.short;
  none = arrives.1;
  asleep = λ asleep sleep. subst (AreAsleep asleep) (sym came.emits.state)
      (reached-asleep asleep asleep before number message link_ends.Store is receiver sleep
      (λ n now there. (there, refl)));
  room = λ room. came.emits.room decision_cost
      (HasRoom-fewer before message_cost (hearing_cost + decision_cost) (omega arith) room);
  answered = λ last all took. arrival-is before last had all number message link_ends.Store is receiver
      (Emits-then before after last had has all (event_of before (kinds.Message (Delivered number)))
      (λ later. answer_events later number message.message) hearing_cost decision_cost message_cost came.emits
      (subst (λ (m : Message). Emits after last has all (answer_events after number m) decision_cost) arrives.0 took)
      (omega arith));
}
store-came-at before after had has outputs number stored message (link_ends.Member member) is receiver came arrives =
    absurd arrives

store-came-if : (before after : Cluster) (had has : Listed) (outputs : List Output) (number : ℕ)
    (stored : Message) (found : Option InFlightFacts) → in_flight before.facts.flight number ≡ found
    → Landed before after had has outputs number found (Some (arrivals.AtStore stored))
    → StoreCame before after had has outputs number stored
store-came-if before after had has outputs number stored None is landed = absurd landed
store-came-if before after had has outputs number stored (Some message) is landed =
    store-came-at before after had has outputs number stored message message.message.to is refl landed landed.arrives

pub store-came : {before after : Cluster} {had has : Listed} {outputs : List Output} {number : ℕ}
    {arrival : Option Arrival} (stored : Message)
    → Landed before after had has outputs number (in_flight before.facts.flight number) arrival
    → arrival ≡ Some (arrivals.AtStore stored) → StoreCame before after had has outputs number stored
store-came {before} {after} {had} {has} {outputs} {number} stored landed is =
    store-came-if before after had has outputs number stored (in_flight before.facts.flight number) refl
    (subst (λ (a : Option Arrival). Landed before after had has outputs number (in_flight before.facts.flight number) a)
    is landed)

-- a message came to the agent of a member, which acted on it
pub record AgentCame (before after : Cluster) (had has : Listed) (outputs : List Output) (number : ℕ)
    (member : Member) (heard : HeardMessage) : Type 0 where
  pub few : AreFew outputs
  pub asleep : (was asleep : Sleepers) → AreAsleep was before → until_of asleep member.id.number ≡ 0
      → ((k : ℕ) → k ≢ member.id.number → until_of asleep k ≡ until_of was k) → AreAsleep asleep after
  pub room : HasRoom before message_cost → HasRoom after outputs_cost
  pub acted : (last : Cluster) (all : Listed)
      → Emits after last has all (each (output_events member heard) after outputs) outputs_cost
      → Emits before last had all
      (for_some (in_flight before.facts.flight number) (arrival_events before number)) message_cost

agent-came-at : (before after : Cluster) (had has : Listed) (outputs : List Output) (number : ℕ)
    (member : Member) (heard : HeardMessage) (message : InFlightFacts) (to : LinkEnd)
    → in_flight before.facts.flight number ≡ Some message
    → message.message.to ≡ to → Comes before after had has outputs number message (arrivals.AtAgent member heard)
    → ArrivesAt before number message to outputs (arrivals.AtAgent member heard)
    → AgentCame before after had has outputs number member heard
agent-came-at before after had has outputs number member heard message link_ends.Store is receiver came arrives =
    absurd arrives
agent-came-at before after had has outputs number member heard message (link_ends.Member at) is receiver came arrives =
    record {
      few = subst AreFew (sym arrives.2) (input-few before at (heard_from before message));
      asleep = λ was asleep sleep out others.
          let here : member.id.number ≡ at.id.number = ap (λ (m : Member). m.id.number) arrives.0 in
          subst (AreAsleep asleep) (sym came.emits.state)
          (reached-asleep was asleep before number message (link_ends.Member at) is receiver sleep
          (λ n now there.
          let apart : n ≢ member.id.number = λ e. omega (arith, there, out, ap (until_of asleep) e) in (
            omega (arith, there, others n apart),
            agent-elsewhere before.agents at.id.number
                (agent_after (outcome_of_heard before at (heard_from before message))) n (λ e. apart (e ∙ sym here)),
          )));
      room = λ room. came.emits.room outputs_cost
          (HasRoom-fewer before message_cost (hearing_cost + outputs_cost) (omega arith) room);
      acted = λ last all took.
          let by_receiver =
          subst (λ (m : Member). Emits after last has all (each (output_events m heard) after outputs) outputs_cost)
          arrives.0 took in
          let by_message =
          subst (λ (h : HeardMessage). Emits after last has all (each (output_events at h) after outputs) outputs_cost)
          arrives.1 by_receiver in
          let done =
          subst (λ (os : List Output).
          Emits after last has all (each (output_events at (heard_message number message)) after os) outputs_cost)
          arrives.2 by_message in
          arrival-is before last had all number message (link_ends.Member at) is receiver
          (Emits-then before after last had has all (event_of before (kinds.Message (Delivered number)))
          (λ later.
          input_events later at (heard_message number message) (outcome_of_heard before at (heard_from before message)))
          hearing_cost outputs_cost message_cost came.emits done (omega arith));
    }

agent-came-if : (before after : Cluster) (had has : Listed) (outputs : List Output) (number : ℕ) (member : Member)
    (heard : HeardMessage) (found : Option InFlightFacts) → in_flight before.facts.flight number ≡ found
    → Landed before after had has outputs number found (Some (arrivals.AtAgent member heard))
    → AgentCame before after had has outputs number member heard
agent-came-if before after had has outputs number member heard None is landed = absurd landed
agent-came-if before after had has outputs number member heard (Some message) is landed = agent-came-at before
    after had has outputs number member heard message message.message.to is refl landed landed.arrives

pub agent-came : {before after : Cluster} {had has : Listed} {outputs : List Output} {number : ℕ}
    {arrival : Option Arrival} (member : Member) (heard : HeardMessage)
    → Landed before after had has outputs number (in_flight before.facts.flight number) arrival
    → arrival ≡ Some (arrivals.AtAgent member heard) → AgentCame before after had has outputs number member heard
agent-came {before} {after} {had} {has} {outputs} {number} member heard landed is =
    agent-came-if before after had has outputs number member heard (in_flight before.facts.flight number) refl
    (subst (λ (a : Option Arrival). Landed before after had has outputs number (in_flight before.facts.flight number) a)
    is landed)
