-- What is in flight once a message came to the key store, and that there was room for its answer.
use Rattle.std.proofs.Common.{ℕ, ◌≡◌, ◌≢◌, ◌⊎◌, ◌+◌, ◌<◌, ◌++◌, nat_le, Bool, true, false, List, [], ◌∷◌, length, Some, None, refl, sym, ap, subst, ◌∙◌, inl, inr, arith}
use Rattle.std.proofs.lemmas.Bool.Decides.{nat_tests}
use Rattle.store_keys.specs.declared.txn.Txn.{Txn}
use Rattle.lease_store.specs.Decision.{Decision, Grant, Refusal, decision_on}
use Rattle.script_model.specs.Script.{HeadText}
use Rattle.event_book.specs.declared.event.Event.{Event}
use Rattle.event_book.specs.declared.link.LinkEnd.TheVariants as ends
use Rattle.event_book.specs.declared.member.Member.{Member}
use Rattle.event_book.specs.declared.message.Body.{Body}
use Rattle.event_book.specs.declared.message.Body.TheVariants as bodies
use Rattle.event_book.specs.declared.message.Message.{Message}
use Rattle.event_book.specs.Flight.{Flight, InFlightFacts, in_flight, launched, without_message}
use Rattle.cluster_model.specs.Cluster.{cluster_after, cluster_over}
use Rattle.cluster_model.specs.Limits.{most_in_flight}
use Rattle.cluster_model.specs.Messages.{answer_message, arrival_events_at, decision_body, lost_at_once, send_events}
use Rattle.cluster_model.specs.Parts.{events_of}
use Rattle.cluster_model.specs.State.{Cluster}
use Rattle.lease_model.proofs.Tools.{gt-from, none-some, put-all, put-here, put-there, some-is}
use Rattle.lease_book.specs.Flights.{Rises}
use Rattle.lease_book.proofs.Entries.{in-with, in-without, rises-with, rises-without}
use Rattle.lease_owners.specs.Kept.{IsOwned}
use Rattle.leading_parts.specs.Alone.{IsWithStore, LeaveAlone}
use Rattle.leading_parts.specs.Holding.{HasRoom, IsDecidedOn, LeavesAnswer}
use Rattle.leading_parts.proofs.Arrivals.{sent-whole}
use Rattle.lease_owners.proofs.ToStore.{Answering, Behind, Decided, Later, Next, Question, to-store}

-- ---- events that leave a member alone, one after another
pub alone-front : (n : ℕ) (cluster : Cluster) (xs ys : List Event) → LeaveAlone n cluster (xs ++ ys)
    → LeaveAlone n cluster xs
alone-front n cluster [] ys alone = tt
alone-front n cluster (x ∷ xs) ys alone = (alone.0, alone-front n (cluster_after cluster x.kind) xs ys alone.1)

pub alone-back : (n : ℕ) (cluster : Cluster) (xs ys : List Event) → LeaveAlone n cluster (xs ++ ys)
    → LeaveAlone n (cluster_over cluster xs) ys
alone-back n cluster [] ys alone = alone
alone-back n cluster (x ∷ xs) ys alone = alone-back n (cluster_after cluster x.kind) xs ys alone.1

-- ---- where a message between the member and the key store isn't lost, there was room for it
module _ (n : ℕ) (cluster : Cluster) (message : Message) (with : IsWithStore n message.from message.to) where
  abbrev Sending : Cluster
  Sending = Next cluster message

  room-by : (test : Bool) → nat_le most_in_flight (length cluster.facts.flight) ≡ test
      → LeaveAlone n Sending (events_of Sending (lost_at_once test (cluster.facts.sent + 1)))
      → length cluster.facts.flight < most_in_flight
  room-by false is alone = gt-from most_in_flight (length cluster.facts.flight) is
  room-by true is alone =
      let number : ℕ = cluster.facts.sent + 1 in
      let one : InFlightFacts = launched cluster.facts.clock cluster.facts.keys message in
      absurd (alone.0 one
      (in-with cluster.facts.flight number one number ∙ put-here (in_flight cluster.facts.flight) number (Some one))
      with)

  pub room-for : LeaveAlone n cluster (send_events cluster message) → length cluster.facts.flight < most_in_flight
  room-for alone = room-by (nat_le most_in_flight (length cluster.facts.flight)) refl alone.1

-- ---- what a message leaves in flight that is sent
pub record SendsAtMost (message : Message) (before after : Cluster) : Type 0 where
  pub clock : after.facts.clock ≡ before.facts.clock
  pub order : Rises 0 after.facts.flight
  pub sent : after.facts.sent ≡ before.facts.sent + 1
  pub others : (i : ℕ) → i ≢ before.facts.sent + 1 → in_flight after.facts.flight i ≡ in_flight before.facts.flight i
  pub fresh : (i : ℕ) (carried : InFlightFacts) → in_flight after.facts.flight i ≡ Some carried
      → (in_flight before.facts.flight i ≡ Some carried)
      ⊎ ((i ≡ before.facts.sent + 1) × (carried.message ≡ message))

module _ (cluster : Cluster) (message : Message) (order : Rises 0 cluster.facts.flight) where
  abbrev One : InFlightFacts
  One = launched cluster.facts.clock cluster.facts.keys message

  abbrev Number : ℕ
  Number = cluster.facts.sent + 1

  fresh-next : (i : ℕ) (carried : InFlightFacts)
      → in_flight (Next cluster message).facts.flight i ≡ Some carried
      → (in_flight cluster.facts.flight i ≡ Some carried) ⊎ ((i ≡ Number) × (carried.message ≡ message))
  fresh-next i carried found =
      put-all (in_flight cluster.facts.flight) Number (Some One)
      (λ k o. (x : InFlightFacts) → o ≡ Some x →
      (in_flight cluster.facts.flight k ≡ Some x) ⊎ ((k ≡ Number) × (x.message ≡ message)))
      (λ x same. inr (refl, ap (λ (c : InFlightFacts). c.message) (sym (some-is One x same))))
      (λ k apart x was. inl was) i carried (sym (in-with cluster.facts.flight Number One i) ∙ found)

  others-next : (i : ℕ) → i ≢ Number
      → in_flight (Next cluster message).facts.flight i ≡ in_flight cluster.facts.flight i
  others-next i other = in-with cluster.facts.flight Number One i
      ∙ put-there (in_flight cluster.facts.flight) Number (Some One) i other

  order-next : Rises 0 (Next cluster message).facts.flight
  order-next = rises-with 0 cluster.facts.flight Number One (omega arith) order

  sends-by : (test : Bool)
      → SendsAtMost message cluster
      (cluster_over (Next cluster message) (events_of (Next cluster message) (lost_at_once test Number)))
  sends-by true =
      let flight : Flight = (Next cluster message).facts.flight in
      let without = λ (i : ℕ). in-without 0 flight Number i order-next in
      record {
        clock = refl;
        order = rises-without 0 flight Number order-next;
        sent = refl;
        others = λ i other. without i ∙ put-there (in_flight flight) Number None i other ∙ others-next i other;
        fresh = λ i carried found.
            put-all (in_flight flight) Number None
            (λ k o. (x : InFlightFacts) → o ≡ Some x →
            (in_flight cluster.facts.flight k ≡ Some x) ⊎ ((k ≡ Number) × (x.message ≡ message)))
            (λ x same. absurd (none-some x same))
            (λ k apart x was. fresh-next k x was) i carried (sym (without i) ∙ found);
      }
  sends-by false = record {
    clock = refl;
    order = order-next;
    sent = refl;
    others = others-next;
    fresh = fresh-next;
  }

  pub sends-at-most : SendsAtMost message cluster (cluster_over cluster (send_events cluster message))
  sends-at-most = sends-by (nat_le most_in_flight (length cluster.facts.flight))

-- what is in flight without the message of this number was so before
pub without-there : (flight : Flight) (number : ℕ) → Rises 0 flight → (i : ℕ) (carried : InFlightFacts)
    → in_flight (without_message flight number) i ≡ Some carried
    → (i ≢ number) × (in_flight flight i ≡ Some carried)
without-there flight number order i carried found =
    put-all (in_flight flight) number None
    (λ k o. (x : InFlightFacts) → o ≡ Some x → (k ≢ number) × (in_flight flight k ≡ Some x))
    (λ x same. absurd (none-some x same)) (λ k apart x was. (apart, was)) i carried
    (sym (in-without 0 flight number i order) ∙ found)

-- ---- the message of this number is in flight no more, and what is sent behind it answers it
module _ (cluster middle : Cluster) (number : ℕ) (question : Message) (body : Body)
    (order : Rises 0 cluster.facts.flight) (flight : middle.facts.flight ≡ without_message cluster.facts.flight number)
    (clock : middle.facts.clock ≡ cluster.facts.clock) (sent : middle.facts.sent ≡ cluster.facts.sent) where
  abbrev Then : Cluster
  Then = cluster_over middle (send_events middle (answer_message question body))

  order-middle : Rises 0 middle.facts.flight
  order-middle = subst (Rises 0) (sym flight) (rises-without 0 cluster.facts.flight number order)

  in-middle : (i : ℕ) → in_flight middle.facts.flight i ≡ in_flight (without_message cluster.facts.flight number) i
  in-middle i = ap (λ (f : Flight). in_flight f i) flight

  was-there : (i : ℕ) (carried : InFlightFacts) → in_flight middle.facts.flight i ≡ Some carried
      → (i ≢ number) × (in_flight cluster.facts.flight i ≡ Some carried)
  was-there i carried found =
      without-there cluster.facts.flight number order i carried (sym (in-middle i) ∙ found)

  fresh-by : (i : ℕ) (carried : InFlightFacts)
      → (in_flight middle.facts.flight i ≡ Some carried)
      ⊎ ((i ≡ middle.facts.sent + 1) × (carried.message ≡ answer_message question body))
      → ((i ≢ number) × (in_flight cluster.facts.flight i ≡ Some carried))
      ⊎ ((i ≡ cluster.facts.sent + 1) × ((said : Body) × (carried.message ≡ answer_message question said)))
  fresh-by i carried (inl was) = inl (was-there i carried was)
  fresh-by i carried (inr new) = inr (new.0 ∙ ap (λ (k : ℕ). k + 1) sent, (body, new.1))

  pub answer-left : LeavesAnswer question number cluster Then
  answer-left =
      let sends = sends-at-most middle (answer_message question body) order-middle in
      record {
        clock = sends.clock ∙ clock;
        order = sends.order;
        sent = sends.sent ∙ ap (λ (k : ℕ). k + 1) sent;
        others = λ i other apart.
            sends.others i (λ same. apart (same ∙ ap (λ (k : ℕ). k + 1) sent)) ∙ in-middle i
            ∙ in-without 0 cluster.facts.flight number i order
            ∙ put-there (in_flight cluster.facts.flight) number None i other;
        fresh = λ i carried found. fresh-by i carried (sends.fresh i carried found);
      }

module _ (cluster : Cluster) (number : ℕ) (order : Rises 0 cluster.facts.flight) where
  decided-left : (by : Member) (question : Message) (txn : Txn) (decision : Decision)
      → LeavesAnswer question number cluster (Answering cluster number question by txn decision)
  decided-left by question txn Grant = answer-left cluster (Decided cluster number by txn Grant) number question
      (decision_body number txn Grant) order refl refl refl
  decided-left by question txn (Refusal key there) =
      answer-left cluster (Decided cluster number by txn (Refusal key there)) number question
      (decision_body number txn (Refusal key there)) order refl refl refl

pub arrival-left : (head : HeadText) (cluster : Cluster) (number : ℕ) (carried : InFlightFacts)
    → IsOwned head cluster → in_flight cluster.facts.flight number ≡ Some carried → carried.message.to ≡ ends.Store
    → LeavesAnswer carried.message number cluster
    (cluster_over cluster (arrival_events_at cluster number carried ends.Store))
arrival-left head cluster number carried good found to =
    let order = good.facts.order in
    to-store (λ m. LeavesAnswer m number cluster (Behind cluster number m))
    (λ by incarnation sequence.
    answer-left cluster (Later cluster number) number (Question by incarnation sequence bodies.Read) bodies.Snapshot
    order refl refl refl)
    (λ by incarnation sequence txn addressed.
    decided-left cluster number order by (Question by incarnation sequence (bodies.Request txn)) txn
    (decision_on cluster.facts.keys cluster.facts.clock txn))
    carried.message to (good.facts.sent number carried found).0.addressed

-- ---- the member's own question
module _ (by : Member) (incarnation sequence number : ℕ) (cluster : Cluster) where
  pub read-room : LeaveAlone by.id.number (Later cluster number)
      (send_events (Later cluster number)
      (answer_message (Question by incarnation sequence bodies.Read) bodies.Snapshot))
      → HasRoom cluster number
  read-room alone = room-for by.id.number (Later cluster number)
      (answer_message (Question by incarnation sequence bodies.Read) bodies.Snapshot) refl alone

  module _ (txn : Txn) where
    abbrev Asked : Message
    Asked = Question by incarnation sequence (bodies.Request txn)

    pub request-room : (decision : Decision)
        → LeaveAlone by.id.number (Decided cluster number by txn decision)
        (send_events (Decided cluster number by txn decision)
        (answer_message Asked (decision_body number txn decision)))
        → HasRoom cluster number
    request-room Grant alone = room-for by.id.number (Decided cluster number by txn Grant)
        (answer_message Asked (decision_body number txn Grant)) refl alone
    request-room (Refusal key there) alone = room-for by.id.number (Decided cluster number by txn (Refusal key there))
        (answer_message Asked (decision_body number txn (Refusal key there))) refl alone

    not-full : (most count : ℕ) → count < most → nat_le most count ≡ false
    not-full most count less = grind (arith, nat_tests, less)

    answered-next : (middle : Cluster) (decision : Decision) → length middle.facts.flight < most_in_flight
        → IsDecidedOn Asked number txn (middle.facts.sent + 1)
        (cluster_over middle (send_events middle (answer_message Asked (decision_body number txn decision))))
    answered-next middle decision room =
        let answer : Message = answer_message Asked (decision_body number txn decision) in
        let one : InFlightFacts = launched middle.facts.clock middle.facts.keys answer in
        subst (IsDecidedOn Asked number txn (middle.facts.sent + 1))
        (sym (sent-whole middle answer (not-full most_in_flight (length middle.facts.flight) room))) (record {
          carried = one;
          is = in-with middle.facts.flight (middle.facts.sent + 1) one (middle.facts.sent + 1)
              ∙ put-here (in_flight middle.facts.flight) (middle.facts.sent + 1) (Some one);
          decision = decision;
          message = refl;
          taken = refl;
          grant = refl;
        })

    pub decided-answered : (decision : Decision) → HasRoom cluster number
        → IsDecidedOn Asked number txn (cluster.facts.sent + 1)
        (Answering cluster number Asked by txn decision)
    decided-answered Grant room = answered-next (Decided cluster number by txn Grant) Grant room
    decided-answered (Refusal key there) room =
        answered-next (Decided cluster number by txn (Refusal key there)) (Refusal key there) room
