-- What is sent.
use Rattle.std.proofs.Common.{◌≡◌, ℕ, ◌+◌, nat_le, Bool, true, false, List, [], ◌∷◌, ◌++◌, Option, length, arith, refl, ◌∙◌, ap, sym, subst}
use Rattle.pat_base.specs.declared.ticks.Ticks.{Ticks}
use Rattle.lease_store.specs.Answers.{present_pairs}
use Rattle.lease_store.specs.declared.granted.Granted.{Granted}
use Rattle.store_keys.specs.declared.key.Key.{Key}
use Rattle.store_keys.specs.declared.value.KeyEntry.{KeyEntry}
use Rattle.lease_store.specs.Keys.{Keys}
use Rattle.event_book.specs.declared.event.Event.{Event}
use Rattle.event_book.specs.declared.event.EventKind.TheVariants as kinds
use Rattle.event_book.specs.declared.event.MessageEvent.TheVariants.{Sent, Lost}
use Rattle.event_book.specs.declared.message.Message.{Message}
use Rattle.event_book.specs.Flight.{Flight, InFlightFacts, launched, snapshot_for, grant_for}
use Rattle.event_list.specs.Listed.{Listed, ◌+++◌}
use Rattle.event_list.proofs.Appended.{appended-nil, appended_assoc}
use Rattle.cluster_model.specs.Cluster.{cluster_after}
use Rattle.cluster_model.specs.State.{Cluster}
use Rattle.world_flight.specs.Launches.{launched_into}
use Rattle.cluster_model.specs.Messages.{lost_at_once, send_events}
use Rattle.cluster_model.specs.Parts.{event_of, events_of, events_at}
use Rattle.cluster_model.specs.Limits.{most_in_flight}
use Rattle.world_model.specs.Emits.{Emits}
use Rattle.world_model.proofs.Taking.{Emits-nothing, Emits-one, Emits-then}

-- a cluster whose messages in flight are these, of which the last has this number
abbrev pub with_flight : Cluster → Flight → ℕ → Cluster
with_flight cluster flight sent = record cluster { facts = record cluster.facts { flight = flight; sent = sent } }

-- a cluster whose key store has these
abbrev pub with_keys : Cluster → Keys → Cluster
with_keys cluster keys = record cluster { facts = record cluster.facts { keys = keys } }

abbrev lost-if : Cluster → ℕ → Bool → Cluster
lost-if cluster number true = cluster_after cluster (kinds.Message (Lost number))
lost-if cluster number false = cluster

lost-took : (cluster : Cluster) (number : ℕ) (had : Listed) (lost : Bool)
    → Emits cluster (lost-if cluster number lost) had (had +++ events_of cluster (lost_at_once lost number))
    (events_of cluster (lost_at_once lost number)) 1
lost-took cluster number had true = Emits-one cluster (cluster_after cluster (kinds.Message (Lost number))) had
    (had +++ event_of cluster (kinds.Message (Lost number))) (kinds.Message (Lost number)) tt refl refl
lost-took cluster number had false = rw (appended-nil had) (Emits-nothing cluster had 1)

launch-is : (cluster : Cluster) (message : Message) (lost : Bool)
    → nat_le most_in_flight (length cluster.facts.flight) ≡ lost
    → with_flight cluster
    (launched_into cluster.facts.flight (cluster.facts.sent + 1)
    (launched cluster.facts.clock cluster.facts.keys message))
    (cluster.facts.sent + 1)
    ≡ lost-if (cluster_after cluster (kinds.Message (Sent (cluster.facts.sent + 1) message)))
    (cluster.facts.sent + 1) lost
launch-is cluster message true e = rw e refl
launch-is cluster message false e = rw e refl

sent-took : (cluster : Cluster) (message : Message) (had : Listed) (lost : Bool)
    → nat_le most_in_flight (length cluster.facts.flight) ≡ lost
    → Emits cluster
    (lost-if (cluster_after cluster (kinds.Message (Sent (cluster.facts.sent + 1) message)))
    (cluster.facts.sent + 1) lost)
    had (had +++ send_events cluster message) (send_events cluster message) 2
sent-took cluster message had lost e =
    let kind = kinds.Message (Sent (cluster.facts.sent + 1) message) in
    let first : Emits cluster (cluster_after cluster kind) had (had +++ event_of cluster kind)
    (event_of cluster kind) 1 =
    Emits-one cluster (cluster_after cluster kind) had (had +++ event_of cluster kind) kind (omega arith) refl refl in
    let second = lost-took (cluster_after cluster kind) (cluster.facts.sent + 1) (had +++ event_of cluster kind) lost in
    let whole = Emits-then cluster (cluster_after cluster kind)
    (lost-if (cluster_after cluster kind) (cluster.facts.sent + 1) lost) had (had +++ event_of cluster kind) _
    (event_of cluster kind)
    (λ later. events_of later (lost_at_once lost (cluster.facts.sent + 1))) 1 1 2 first second (omega arith) in
    rw e
    (subst (λ (has : Listed). Emits cluster (lost-if (cluster_after cluster kind) (cluster.facts.sent + 1) lost) had has
    (event_of cluster kind ++ events_of (cluster_after cluster kind) (lost_at_once lost (cluster.facts.sent + 1))) 2)
    (appended_assoc had (event_of cluster kind)
    (events_of (cluster_after cluster kind) (lost_at_once lost (cluster.facts.sent + 1))))
    whole)

events_at-lost : (cluster : Cluster) (tick : Ticks) (number : ℕ) (lost : Bool) → tick.0 ≡ cluster.facts.clock
    → events_at tick (lost_at_once lost number) ≡ events_of cluster (lost_at_once lost number)
events_at-lost cluster tick number true e =
    ap (λ (n : ℕ). let event : Event = record { tick = record { 0 = n }; kind = kinds.Message (Lost number) } in
    event ∷ [])
    e
events_at-lost cluster tick number false e = refl

-- a message with what it carries is what is launched
pub loaded-is : (cluster : Cluster) (message copy : Message) (tick : Ticks) (snapshot : List (Key × KeyEntry))
    (grant : Option Granted) → copy ≡ message → tick.0 ≡ cluster.facts.clock
    → snapshot ≡ snapshot_for message.body (present_pairs cluster.facts.clock cluster.facts.keys.pairs)
    → grant ≡ grant_for message.body message.to cluster.facts.keys.revision
    → ◌≡◌ {A = InFlightFacts} (record { message = copy; sent = tick; snapshot = snapshot; grant = grant })
    (launched cluster.facts.clock cluster.facts.keys message)
loaded-is cluster message copy tick snapshot grant same at told given =
    rw (same, told, given) (ap (λ (n : ℕ). let m : InFlightFacts = record {
      message = message;
      sent = record { 0 = n };
      snapshot = snapshot_for message.body (present_pairs cluster.facts.clock cluster.facts.keys.pairs);
      grant = grant_for message.body message.to cluster.facts.keys.revision;
    } in m) at)

-- a message is put among those in flight, and it is written down
pub send-took : (cluster after : Cluster) (message : Message) (tick : Ticks) (flight : Flight) (lost : Bool)
    (had mid has : Listed) → tick.0 ≡ cluster.facts.clock
    → flight ≡ launched_into cluster.facts.flight (cluster.facts.sent + 1)
    (launched cluster.facts.clock cluster.facts.keys message)
    → lost ≡ nat_le most_in_flight (length cluster.facts.flight)
    → after ≡ with_flight cluster flight (cluster.facts.sent + 1)
    → mid ≡ had +++ record { tick = tick; kind = kinds.Message (Sent (cluster.facts.sent + 1) message) } ∷ []
    → has ≡ mid +++ events_at tick (lost_at_once lost (cluster.facts.sent + 1))
    → Emits cluster after had has (send_events cluster message) 2
send-took cluster after message tick flight lost had mid has at launch full after_is mid_is has_is =
    let kind = kinds.Message (Sent (cluster.facts.sent + 1) message) in
    let number = cluster.facts.sent + 1 in
    let sent : ◌≡◌ {A = List Event} ((record { tick = tick; kind = kind }) ∷ []) (event_of cluster kind) =
    ap (λ (n : ℕ). let event : Event = record { tick = record { 0 = n }; kind = kind } in event ∷ []) at in
    let events : has ≡ had +++ send_events cluster message =
    has_is ∙ ap (λ m. m +++ events_at tick (lost_at_once lost number)) (mid_is ∙ ap (λ es. had +++ es) sent)
    ∙ appended_assoc had (event_of cluster kind) (events_at tick (lost_at_once lost number))
    ∙ ap (λ es. had +++ (event_of cluster kind ++ es)) (events_at-lost (cluster_after cluster kind) tick number lost at)
    ∙ ap (λ b. had +++ (event_of cluster kind ++ events_of (cluster_after cluster kind) (lost_at_once b number)))
    full in
    let state : after ≡ lost-if (cluster_after cluster kind) number lost = after_is
    ∙ ap (λ f. with_flight cluster f number) launch ∙ launch-is cluster message lost (sym full) in
    rw (state, events) (sent-took cluster message had lost (sym full))
