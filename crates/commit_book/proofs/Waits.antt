-- What is waited for agrees with what is in flight.
use Rattle.std.proofs.Common.{◌≡◌, ◌⊎◌, ℕ, ◌≤◌, ◌<◌, Bool, false, Some, refl, ◌∙◌, ap, sym, arith, inl, inr}
use Rattle.store_keys.specs.declared.txn.Txn.{Txn}
use Rattle.event_book.specs.declared.event.EventKind.{EventKind}
use Rattle.event_book.specs.declared.event.EventKind.TheVariants as kinds
use Rattle.event_book.specs.declared.event.MessageEvent.TheVariants.{Sent, Delivered, Lost}
use Rattle.event_book.specs.declared.link.LinkEnd.TheVariants as ends
use Rattle.event_book.specs.declared.member.Member.{Member}
use Rattle.event_book.specs.declared.message.Body.TheVariants as bodies
use Rattle.event_book.specs.Flight.{InFlightFacts, in_flight}
use Rattle.event_book.specs.Facts.{Facts}
use Rattle.event_book.specs.Functions.{put_at}
use Rattle.lease_model.specs.Leases.{Question, Requested}
use Rattle.lease_model.specs.Past as lease_past
use Rattle.lease_model.proofs.Tools.{put-here, put-there}
use Rattle.std.proofs.lemmas.Bool.{cases_eq}
use Rattle.lease_book.specs.Flights as bridge_flights
use Rattle.lease_book.specs.Groups.{IsNumberedAbove}
use Rattle.lease_book.specs.Waiting.{IsLastAsked, AsksOnly}
use Rattle.lease_book.proofs.Flights.{asked-there}
use Rattle.lease_book.proofs.Hearing.{heard-granted}
use Rattle.lease_book.proofs.Waits.{asked-by}
use Rattle.commit_actions.specs.Flights.{SyncRequest}
use Rattle.commit_actions.specs.Past.{Past, Query, SyncQuery, past_after, query_of, query_sent}
use Rattle.commit_book.specs.Flights.{is_creating, IsSameFlight}
use Rattle.commit_book.specs.Hearing.{CarriesWrite}
use Rattle.commit_book.specs.Waiting.{IsAskedOnce}
use Rattle.commit_book.proofs.Hearing.{heard-write}

-- a request under a new number is the only one of its name
pub once-sent : (p : lease_past.Past) (past : Past) (number : ℕ) (by : Member) (incarnation sequence last : ℕ)
    (txn : Txn) → IsLastAsked p.asked by.id.number incarnation last → last < sequence
    → let kind = kinds.Message (Sent number (record {
      from = ends.Member by;
      to = ends.Store;
      incarnation = incarnation;
      sequence = sequence;
      body = bodies.Request txn;
    })) in
    IsAskedOnce (lease_past.past_after p kind).asked (past_after past kind).asked by.id.number incarnation sequence
    (query_of by.id.number incarnation sequence txn)
once-sent p past number by incarnation sequence last txn old above i question at a b c = found (cases_eq i number)
  where
    asks : Query
    asks = query_of by.id.number incarnation sequence txn

    one : Question
    one = record {
      member = by.id.number;
      incarnation = incarnation;
      sequence = sequence;
      sent = p.clock;
      query = lease_past.query_of txn;
    }

    found : ((i ≡ number) ⊎ (i ≡ number → ⊥)) → put_at past.asked number asks i ≡ asks
    found (inl e) = ap (λ (n : ℕ). put_at past.asked number asks n) e ∙ put-here past.asked number asks
    found (inr other) =
        absurd (omega
        (arith, above, c, old i question (sym (asked-there p.asked number (Some (Requested one)) i other) ∙ at) a b))

-- an event leaves what was asked
asked-stays : (past : Past) (kind : EventKind) (last i : ℕ) → i ≤ last → IsNumberedAbove last kind
    → (past_after past kind).asked i ≡ past.asked i
asked-stays past (kinds.Message (Sent number message)) last i small above = put-there past.asked number
    (query_sent message.from message.incarnation message.sequence message.body) i (λ e. omega (arith, e, small, above))
asked-stays past (kinds.Message (Delivered number)) last i small above = refl
asked-stays past (kinds.Message (Lost number)) last i small above = refl
asked-stays past _ last i small above = refl

pub once-kept : (p : lease_past.Past) (past : Past) (facts : Facts) (kind : EventKind) (member incarnation sequence : ℕ)
    (query : Query) → bridge_flights.IsSameFlight p facts → IsNumberedAbove facts.sent kind
    → AsksOnly (λ m r s. m ≡ member → r ≡ incarnation → s ≡ sequence → ⊥) kind
    → IsAskedOnce p.asked past.asked member incarnation sequence query
    → IsAskedOnce (lease_past.past_after p kind).asked (past_after past kind).asked member incarnation sequence query
once-kept p past facts kind member incarnation sequence query same above other old i question at a b c =
    elim (asked-by (λ m r s. m ≡ member → r ≡ incarnation → s ≡ sequence → ⊥) p kind other i question at) [
      | inl was ↦ asked-stays past kind facts.sent i (same.asked i question was) above ∙ old i question was a b c
      | inr new ↦ absurd (new a b c)
    ]

-- an answer to what is waited for is one to this request
pub waited-granted : (p : lease_past.Past) (past : Past) (facts : Facts) (i : ℕ) (carried : InFlightFacts)
    (member : Member) (incarnation sequence request : ℕ) (leased : Bool) (query : Query)
    → bridge_flights.IsSameFlight p facts
    → in_flight facts.flight i ≡ Some carried → carried.message ≡ record {
      from = ends.Store;
      to = ends.Member member;
      incarnation = incarnation;
      sequence = sequence;
      body = bodies.Granted request leased;
    }
    → IsAskedOnce p.asked past.asked member.id.number incarnation sequence query → past.asked request ≡ query
waited-granted p past facts i carried member incarnation sequence request leased query same here is once =
    let answers = (heard-granted p facts i carried member incarnation sequence request leased same here is).answers in
    once request answers.question answers.is answers.asker answers.in_run answers.numbered

pub waited-written : (p : lease_past.Past) (past : Past) (facts : Facts) (i : ℕ) (carried : InFlightFacts)
    (member : Member) (incarnation sequence request : ℕ) (leased : Bool) (asked : SyncRequest)
    → bridge_flights.IsSameFlight p facts → IsSameFlight past facts
    → in_flight facts.flight i ≡ Some carried → carried.message ≡ record {
      from = ends.Store;
      to = ends.Member member;
      incarnation = incarnation;
      sequence = sequence;
      body = bodies.Granted request leased;
    }
    → IsAskedOnce p.asked past.asked member.id.number incarnation sequence (SyncQuery asked)
    → is_creating asked.aim ≡ false → CarriesWrite past i carried member incarnation sequence asked.aim
waited-written p past facts i carried member incarnation sequence request leased asked named same here is once creates =
    heard-write past facts i carried member incarnation sequence request leased asked same here is
    (waited-granted p past facts i carried member incarnation sequence request leased
    (SyncQuery asked) named here is once)
    creates
