-- What the parts of a step owe a promise, so that each step keeps it.
use Rattle.std.specs.Prelude.{ℕ, ◌≡◌, true, List, Some, slice_get}
use Rattle.pat_base.specs.declared.member_id.MemberId.{MemberId}
use Rattle.store_keys.specs.declared.action.OperatorRequest.{OperatorRequest}
use Rattle.rest_message.specs.Requests.{RequestText}
use Rattle.rest_answer.specs.Answers.{Acts}
use Rattle.agent_model.specs.Agents.{Outcome}
use Rattle.script_model.specs.declared.line.Command.{Command}
use Rattle.event_book.specs.declared.agent_process.AgentProcess.{AgentProcess}
use Rattle.event_book.specs.declared.event.Event.{Event}
use Rattle.event_book.specs.declared.event.EventKind.TheVariants as kinds
use Rattle.event_book.specs.declared.event.MessageEvent.TheVariants.{Lost}
use Rattle.event_book.specs.declared.event.Note.{Note}
use Rattle.event_book.specs.declared.link.LinkEnd.TheVariants as ends
use Rattle.event_book.specs.declared.member.Member.{Member}
use Rattle.event_book.specs.Flight.{InFlightFacts, in_flight}
use Rattle.cluster_model.specs.declared.delivery.Delivery.TheVariants.{Open}
use Rattle.cluster_model.specs.Commands.{kinds_of}
use Rattle.cluster_model.specs.Deliveries.{delivery_of}
use Rattle.cluster_model.specs.Inputs.{may_act, moment_of, standing_of}
use Rattle.cluster_model.specs.Messages.{arrival_events_at, hear_events, operate_events, wake_events_of}
use Rattle.cluster_model.specs.Next.{acknowledge_events, command_kind, declared, promote_events, receive_events_at_most, agent_start_events}
use Rattle.cluster_model.specs.Parts.{event_of, events_of, for_some}
use Rattle.cluster_model.specs.Requests.{action_of, answer_at}
use Rattle.cluster_model.specs.State.{Cluster}
use Rattle.cluster_model.specs.Ticking.{tick_events}
use Rattle.run_promise.specs.Promise.{Promise, Upholds, UpholdsAlways}

-- agents of such members that may act and are woken uphold a promise, and so do those to which a
-- message comes, and those that do what a request to them asks, which they answer so by what they show
pub record InputsUphold (IsOne : Member → Type 0) (promise : Promise) : Type 0 where
  pub wakes : (book : List Event) (cluster : Cluster) (member : Member) (process : AgentProcess)
      → promise.between book cluster → IsOne member
      → slice_get cluster.facts.processes member.id.number ≡ Some process → may_act process ≡ true
      → Upholds promise book cluster (wake_events_of cluster member)
  pub hears : (book : List Event) (cluster : Cluster) (number : ℕ) (message : InFlightFacts) (member : Member)
      → promise.between book cluster
      → in_flight cluster.facts.flight number ≡ Some message → message.message.to ≡ ends.Member member
      → delivery_of cluster.facts.cuts cluster.facts.processes message.message ≡ Open
      → Upholds promise book cluster (hear_events cluster number message member)
  pub operates : (book : List Event) (cluster : Cluster) (member : Member) (process : AgentProcess) (o : Outcome)
      (request : RequestText) (asked : OperatorRequest) → promise.between book cluster → IsOne member
      → slice_get cluster.facts.processes member.id.number ≡ Some process → may_act process ≡ true
      → standing_of cluster member ≡ Some o → answer_at (moment_of cluster) o request ≡ Acts asked
      → Upholds promise book cluster (operate_events cluster member (action_of o asked))

-- each part of a step upholds a promise, while all members are such
pub record PartsUphold (IsOne : Member → Type 0) (promise : Promise) : Type 0 where
  pub members : (book : List Event) (cluster : Cluster) → promise.between book cluster
      → (i : ℕ) (member : Member) → slice_get cluster.facts.members i ≡ Some member → IsOne member
  pub inputs : InputsUphold IsOne promise
  -- a message comes to the key store; one is lost; and what a line of the script says of one that it doesn't find
  pub arrivals : (book : List Event) (cluster : Cluster) (number : ℕ) (message : InFlightFacts)
      → promise.between book cluster
      → in_flight cluster.facts.flight number ≡ Some message → message.message.to ≡ ends.Store
      → Upholds promise book cluster (arrival_events_at cluster number message ends.Store)
  pub losses : (number : ℕ) → UpholdsAlways promise (λ cluster. event_of cluster (kinds.Message (Lost number)))
  pub notes : (note : Note) → UpholdsAlways promise (λ cluster. event_of cluster (kinds.Note note))
  -- a tick; what a member receives, and what it acknowledges
  pub ticks : UpholdsAlways promise tick_events
  pub receipts : (most : ℕ) (member : Member)
      → UpholdsAlways promise (λ cluster. receive_events_at_most cluster most member)
  pub acknowledgements : (member : Member) → UpholdsAlways promise (λ cluster. acknowledge_events cluster member)
  -- agents that start, servers that are promoted by hand, and the other commands
  pub restarts : (id : MemberId)
      → UpholdsAlways promise (λ cluster. for_some (declared cluster id) (agent_start_events cluster))
  pub promotions : (member : Member) → IsOne member → UpholdsAlways promise (λ cluster. promote_events cluster member)
  pub commands : (command : Command)
      → UpholdsAlways promise (λ cluster. events_of cluster (kinds_of (command_kind cluster command)))
