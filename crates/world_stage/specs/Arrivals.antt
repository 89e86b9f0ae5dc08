-- Messages that come to their receivers.
use Rattle.std.specs.Prelude.{ℕ, ◌≡◌, List, [], Option, Some, None}
use Rattle.event_book.specs.declared.event.EventKind.TheVariants as kinds
use Rattle.event_book.specs.declared.event.MessageEvent.TheVariants.{Delivered}
use Rattle.event_book.specs.declared.link.LinkEnd.{LinkEnd}
use Rattle.event_book.specs.declared.link.LinkEnd.TheVariants as link_ends
use Rattle.event_book.specs.Flight.{InFlightFacts}
use Rattle.event_list.specs.Listed.{Listed}
use Rattle.agent_model.specs.declared.output.Output.{Output}
use Rattle.cluster_model.specs.Cluster.{agent_facts_reached_at}
use Rattle.cluster_model.specs.Hearing.{heard_from}
use Rattle.cluster_model.specs.Inputs.{outcome_of_heard, outputs_of}
use Rattle.cluster_model.specs.Messages.{heard_message}
use Rattle.cluster_model.specs.Parts.{event_of}
use Rattle.cluster_model.specs.State.{Cluster}
use Rattle.world_model.specs.Emits.{Emits}
use Rattle.world_model.specs.Room.{hearing_cost}
use Rattle.world_model.specs.Short.{IsSent}
use Rattle.world_stage.specs.declared.arrival.Arrival.{Arrival}
use Rattle.world_stage.specs.declared.arrival.Arrival.TheVariants as arrivals

-- where a message of this number comes that goes to this receiver, and what an agent does on it
abbrev pub ArrivesAt : Cluster → ℕ → InFlightFacts → LinkEnd → List Output → Arrival → Type 0
ArrivesAt cluster number message link_ends.Store outputs (arrivals.AtStore stored) =
    (stored ≡ message.message) × (outputs ≡ [])
ArrivesAt cluster number message (link_ends.Member member) outputs (arrivals.AtAgent to heard) =
    (to ≡ member) × (heard ≡ heard_message number message)
    × (outputs ≡ outputs_of (outcome_of_heard cluster member (heard_from cluster message)))
ArrivesAt cluster number message to outputs _ = ⊥

-- it reached this receiver, where an agent acted on it
pub record Reaches (before after : Cluster) (outputs : List Output) (number : ℕ) (message : InFlightFacts)
    (to : LinkEnd) (arrival : Arrival) : Type 0 where
  pub state : after ≡ record before { agents = agent_facts_reached_at before message to }
  pub arrives : ArrivesAt before number message to outputs arrival

-- a message in flight came to its receiver, and that was written down
pub record Comes (before after : Cluster) (had has : Listed) (outputs : List Output) (number : ℕ)
    (message : InFlightFacts) (arrival : Arrival) : Type 0 where
  pub emits : Emits before after had has (event_of before (kinds.Message (Delivered number))) hearing_cost
  pub arrives : ArrivesAt before number message message.message.to outputs arrival
  pub sent : IsSent message

-- it did where it was in flight, and else nothing happened
abbrev pub Landed : Cluster → Cluster → Listed → Listed → List Output → ℕ → Option InFlightFacts
    → Option Arrival → Type 0
Landed before after had has outputs number None None = (after ≡ before) × (has ≡ had) × (outputs ≡ [])
Landed before after had has outputs number (Some message) (Some arrival) =
    Comes before after had has outputs number message arrival
Landed before after had has outputs number _ _ = ⊥
