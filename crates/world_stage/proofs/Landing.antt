-- Messages that come to their receivers: what they leave, and what is written down.
use Rattle.std.proofs.Common.{◌≡◌, ℕ, List, [], ◌∷◌, Some, refl, ◌∙◌, ap, sym, subst, Option}
use Rattle.pat_base.specs.declared.ticks.Ticks.{Ticks}
use Rattle.event_book.specs.declared.event.EventKind.TheVariants as kinds
use Rattle.event_book.specs.declared.event.MessageEvent.TheVariants.{Delivered}
use Rattle.event_book.specs.declared.link.LinkEnd.{LinkEnd}
use Rattle.event_book.specs.declared.link.LinkEnd.TheVariants as link_ends
use Rattle.event_book.specs.Flight.{Flight, InFlightFacts, in_flight, without_message}
use Rattle.event_list.specs.Listed.{Listed, ◌+++◌}
use Rattle.agent_model.specs.declared.output.Output.{Output}
use Rattle.cluster_model.specs.Cluster.{agent_facts_reached_at, cluster_after}
use Rattle.cluster_model.specs.State.{Cluster}
use Rattle.world_model.specs.Short.{IsSent}
use Rattle.world_model.proofs.Deciding.{hearing-is, landing}
use Rattle.world_stage.specs.Arrivals.{ArrivesAt, Landed, Reaches}
use Rattle.world_stage.specs.declared.arrival.Arrival.{Arrival}
use Rattle.world_stage.specs.declared.arrival.Arrival.TheVariants as arrivals
use Rattle.world_stage.proofs.Comings.{Emits-told}

-- a cluster without the message that came
abbrev without : Cluster → Flight → Cluster
without cluster flight = landing cluster flight cluster.agents

-- what an agent hears of a message doesn't hang on what else is in flight
reached-without : (cluster : Cluster) (flight : Flight) (message : InFlightFacts) (to : LinkEnd)
    → agent_facts_reached_at (without cluster flight) message to ≡ agent_facts_reached_at cluster message to
reached-without cluster flight message link_ends.Store = refl
reached-without cluster flight message (link_ends.Member member) = refl

arrives-without : (cluster : Cluster) (flight : Flight) (number : ℕ) (message : InFlightFacts) (to : LinkEnd)
    (outputs : List Output) (arrival : Arrival) → ArrivesAt (without cluster flight) number message to outputs arrival
    → ArrivesAt cluster number message to outputs arrival
arrives-without cluster flight number message link_ends.Store outputs (arrivals.AtStore stored) arrives = arrives
arrives-without cluster flight number message link_ends.Store outputs (arrivals.AtAgent member heard) arrives =
    absurd arrives
arrives-without cluster flight number message (link_ends.Member at) outputs (arrivals.AtStore stored) arrives =
    absurd arrives
arrives-without cluster flight number message (link_ends.Member at) outputs (arrivals.AtAgent member heard) arrives =
    arrives

-- a message that was in flight reached its receiver, and that is written down
pub landed-as : (cluster after : Cluster) (flight : Flight) (had has : Listed) (outputs : List Output) (number : ℕ)
    (message : InFlightFacts) (arrival : Arrival) (tick : Ticks) → flight ≡ without_message cluster.facts.flight number
    → in_flight cluster.facts.flight number ≡ Some message → IsSent message
    → Reaches (without cluster flight) after outputs number message message.message.to arrival
    → tick.0 ≡ after.facts.clock
    → has ≡ had +++ record { tick = tick; kind = kinds.Message (Delivered number) } ∷ []
    → Landed cluster after had has outputs number (in_flight cluster.facts.flight number) (Some arrival)
landed-as cluster after flight had has outputs number message arrival tick flies found sent reaches at told =
    let to = message.message.to in
    let state : after ≡ cluster_after cluster (kinds.Message (Delivered number)) =
    reaches.state ∙ ap (landing cluster flight) (reached-without cluster flight message to)
    ∙ hearing-is cluster number message to flight flies refl found in
    subst (λ (o : Option InFlightFacts). Landed cluster after had has outputs number o (Some arrival))
    (sym found) (record {
      emits = Emits-told cluster after tick (kinds.Message (Delivered number)) had has tt state at told;
      arrives = arrives-without cluster flight number message to outputs arrival reaches.arrives;
      sent = sent;
    })
