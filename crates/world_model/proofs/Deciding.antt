-- What the store decides on, and what comes to its receiver.
use Rattle.std.proofs.Common.{◌≡◌, ℕ, ◌+◌, ◌≤◌, List, [], ◌∷◌, ◌++◌, Option, Some, arith, refl, ◌∙◌, ap, sym, subst}
use Rattle.pat_base.specs.declared.name.Name.{Name}
use Rattle.pat_base.specs.declared.ticks.Ticks.{Ticks}
use Rattle.store_keys.specs.declared.key.Key.{Key}
use Rattle.store_keys.specs.declared.txn.Expected.{Expected}
use Rattle.store_keys.specs.declared.txn.Txn.{Txn}
use Rattle.lease_store.specs.Decision.{Decision, Grant, Refusal, decision_on}
use Rattle.store_keys.specs.TxnKinds.{txn_kind_of}
use Rattle.lease_store.specs.Writes.{is_lease}
use Rattle.event_book.specs.declared.event.Event.{Event}
use Rattle.event_book.specs.declared.event.EventKind.{EventKind}
use Rattle.event_book.specs.declared.event.EventKind.TheVariants as kinds
use Rattle.event_book.specs.declared.event.MessageEvent.TheVariants.{Delivered}
use Rattle.event_book.specs.declared.event.StoreEvent.TheVariants as stores
use Rattle.event_book.specs.declared.link.LinkEnd.{LinkEnd}
use Rattle.event_book.specs.declared.link.LinkEnd.TheVariants as link_ends
use Rattle.event_book.specs.declared.member.Member.{Member}
use Rattle.event_book.specs.declared.message.Body.TheVariants as bodies
use Rattle.event_book.specs.declared.message.Message.{Message}
use Rattle.event_book.specs.Flight.{Flight, InFlightFacts, in_flight, without_message}
use Rattle.event_list.specs.Listed.{Listed, ◌+++◌}
use Rattle.cluster_model.specs.Cluster.{agent_facts_reached_at, cluster_after}
use Rattle.cluster_model.specs.State.{Cluster}
use Rattle.cluster_model.specs.Messages.{send_events, answer_message, decision_events, published_names}
use Rattle.cluster_model.specs.Parts.{event_of}
use Rattle.world_model.specs.Room.{decision_cost, sending_cost, event_cost}
use Rattle.agent_model.specs.Agents.{AgentFacts}
use Rattle.world_model.specs.Emits.{Emits}
use Rattle.world_model.specs.Comes.{Counts}
use Rattle.world_model.proofs.Taking.{Emits-one, Emits-then}

pub stamped-is : (cluster : Cluster) (tick : Ticks) (kind : EventKind)
    → tick.0 ≡ (cluster_after cluster kind).facts.clock
    → ◌≡◌ {A = List Event} ((record { tick = tick; kind = kind }) ∷ []) (event_of cluster kind)
stamped-is cluster tick kind at =
    ap (λ (n : ℕ). let event : Event = record { tick = record { 0 = n }; kind = kind } in event ∷ []) at

-- one thing happens and is written down, and then what comes after it
pub Emits-after : (first second third : Cluster) (had mid has : Listed) (tick : Ticks) (kind : EventKind)
    (more : Cluster → List Event) (cost whole : ℕ) → Counts first kind
    → tick.0 ≡ (cluster_after first kind).facts.clock → second ≡ cluster_after first kind
    → mid ≡ had +++ record { tick = tick; kind = kind } ∷ [] → Emits second third mid has (more second) cost
    → event_cost kind + cost ≤ whole
    → Emits first third had has (event_of first kind ++ more (cluster_after first kind)) whole
Emits-after first second third had mid has tick kind more cost whole counts at state mid_is rest enough =
    let one =
    Emits-one first second had mid kind counts state (mid_is ∙ ap (λ es. had +++ es) (stamped-is first tick kind at)) in
    Emits-then first second third had mid has (event_of first kind) more (event_cost kind) cost whole one rest enough

decision_events-is : (cluster after : Cluster) (number : ℕ) (by : Member) (message : Message) (txn : Txn)
    (decision : Decision) (had has : Listed)
    → message.from ≡ link_ends.Member by → decision_on cluster.facts.keys cluster.facts.clock txn ≡ decision
    → Emits cluster after had has
    (decision_events cluster number message txn decision (link_ends.Member by)) decision_cost
    → Emits cluster after had has
    (decision_events cluster number message txn (decision_on cluster.facts.keys cluster.facts.clock txn) message.from)
    decision_cost
decision_events-is cluster after number by message txn decision had has from is took =
    subst (λ (d : Decision).
    Emits cluster after had has (decision_events cluster number message txn d message.from) decision_cost)
    (sym is)
    (subst (λ (e : LinkEnd).
    Emits cluster after had has (decision_events cluster number message txn decision e) decision_cost)
    (sym from) took)

pub granted-took : (cluster granting after : Cluster) (number : ℕ) (by : Member) (message : Message)
    (txn : Txn) (tick : Ticks) (had mid has : Listed)
    → message.from ≡ link_ends.Member by → tick.0 ≡ cluster.facts.clock
    → decision_on cluster.facts.keys cluster.facts.clock txn ≡ Grant
    → granting
    ≡ cluster_after cluster (kinds.Store (stores.Granted number by txn (published_names cluster.facts.members txn)))
    → mid ≡ had +++ record {
      tick = tick;
      kind = kinds.Store (stores.Granted number by txn (published_names cluster.facts.members txn));
    } ∷ []
    → Emits granting after mid has
    (send_events granting (answer_message message (bodies.Granted number (is_lease txn)))) sending_cost
    → Emits cluster after had has
    (decision_events cluster number message txn (decision_on cluster.facts.keys cluster.facts.clock txn) message.from)
    decision_cost
granted-took cluster granting after number by message txn tick had mid has from at decision state mid_is rest =
    decision_events-is cluster after number by message txn Grant had has from decision
    (Emits-after cluster granting after had mid has tick
    (kinds.Store (stores.Granted number by txn (published_names cluster.facts.members txn)))
    (λ later. send_events later (answer_message message (bodies.Granted number (is_lease txn)))) sending_cost
    decision_cost tt at state mid_is rest (omega arith))

pub refused-took : (cluster after : Cluster) (number : ℕ) (by : Member) (message : Message) (txn : Txn)
    (key : Key) (found : Expected) (tick : Ticks) (had mid has : Listed)
    → message.from ≡ link_ends.Member by → tick.0 ≡ cluster.facts.clock
    → decision_on cluster.facts.keys cluster.facts.clock txn ≡ Refusal key found
    → mid
    ≡ had +++ record { tick = tick; kind = kinds.Store (stores.Refused number by (txn_kind_of txn) key found) } ∷ []
    → Emits cluster after mid has
    (send_events cluster (answer_message message (bodies.Refused number key found))) sending_cost
    → Emits cluster after had has
    (decision_events cluster number message txn (decision_on cluster.facts.keys cluster.facts.clock txn) message.from)
    decision_cost
refused-took cluster after number by message txn key found tick had mid has from at decision mid_is rest =
    decision_events-is cluster after number by message txn (Refusal key found) had has from decision
    (Emits-after cluster cluster after had mid has tick
    (kinds.Store (stores.Refused number by (txn_kind_of txn) key found))
    (λ later. send_events later (answer_message message (bodies.Refused number key found))) sending_cost
    decision_cost tt at refl mid_is rest (omega arith))

-- a cluster with these messages in flight, and these agents
abbrev pub landing : Cluster → Flight → List (Option AgentFacts) → Cluster
landing cluster flight agents = record cluster { facts = record cluster.facts { flight = flight }; agents = agents }

-- a message that came isn't in flight any more, and its agent has heard it
pub arrived : (cluster : Cluster) (number : ℕ) (message : InFlightFacts)
    → in_flight cluster.facts.flight number ≡ Some message
    → landing cluster (without_message cluster.facts.flight number)
    (agent_facts_reached_at cluster message message.message.to)
    ≡ cluster_after cluster (kinds.Message (Delivered number))
arrived cluster number message is = rw is refl

-- so it is with this receiver
pub hearing-is : (cluster : Cluster) (number : ℕ) (message : InFlightFacts) (to : LinkEnd) (flight : Flight)
    → flight ≡ without_message cluster.facts.flight number
    → message.message.to ≡ to → in_flight cluster.facts.flight number ≡ Some message
    → landing cluster flight (agent_facts_reached_at cluster message to)
    ≡ cluster_after cluster (kinds.Message (Delivered number))
hearing-is cluster number message to flight flies receiver found =
    ap (λ (f : Flight). landing cluster f (agent_facts_reached_at cluster message to)) flies
    ∙ ap (λ (e : LinkEnd).
    landing cluster (without_message cluster.facts.flight number) (agent_facts_reached_at cluster message e))
    (sym receiver)
    ∙ arrived cluster number message found

-- the event of a grant, with what was copied into it
pub granted-event : (tick : Ticks) (number : ℕ) (by : Member) (copy txn : Txn) (names listed : List Name)
    → copy ≡ txn → names ≡ listed
    → ◌≡◌ {A = List Event} ((record { tick = tick; kind = kinds.Store (stores.Granted number by copy names) }) ∷ [])
    ((record { tick = tick; kind = kinds.Store (stores.Granted number by txn listed) }) ∷ [])
granted-event tick number by copy txn names listed same named = rw (same, named) refl
