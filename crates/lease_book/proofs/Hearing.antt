-- What the law has of a message in flight.
use Rattle.std.proofs.Common.{◌≡◌, ℕ, Bool, true, false, Option, Some, None, refl, ◌∙◌, ap, subst}
use Rattle.std.specs.FinMap.{find}
use Rattle.pat_base.specs.declared.ticks.Ticks.{Ticks}
use Rattle.store_keys.specs.declared.key.Key.{Key}
use Rattle.store_keys.specs.declared.key.Key.TheVariants as keys
use Rattle.store_keys.specs.declared.txn.Expected.{Expected}
use Rattle.store_keys.specs.declared.txn.Txn.{Txn}
use Rattle.lease_store.specs.KeyOrder.{key_cmp}
use Rattle.event_book.specs.declared.link.LinkEnd.TheVariants as ends
use Rattle.event_book.specs.declared.member.Member.{Member}
use Rattle.event_book.specs.declared.message.Body.TheVariants as bodies
use Rattle.event_book.specs.declared.message.Message.{Message}
use Rattle.event_book.specs.Flight.{InFlightFacts, in_flight, grant_for}
use Rattle.event_book.specs.Facts.{Facts}
use Rattle.lease_model.specs.Leases.{Read, Question, Grant, Requested, Answered, FailsafeRequested, Acknowledged}
use Rattle.lease_model.specs.Outcomes.{seen_of}
use Rattle.lease_model.specs.Past.{Past, query_of, flying_of, grant_of}
use Rattle.lease_model.specs.Stores.{leader_key_of, failsafe_key_of}
use Rattle.lease_book.specs.Flights.{revision_of, past_at_sending, flying_if, Answers, IsSameFlight}
use Rattle.lease_book.specs.Groups.{grant_if, CarriesGrant}

-- a message in flight as the law has it
pub heard : (past : Past) (facts : Facts) (i : ℕ) (carried : InFlightFacts) (message : Message)
    → IsSameFlight past facts → in_flight facts.flight i ≡ Some carried → carried.message ≡ message
    → past.flight i
    ≡ flying_of (past_at_sending past.asked carried) message.from message.to message.incarnation
    message.sequence message.body
heard past facts i carried message same here is =
    same.same i ∙ ap (λ (o : Option InFlightFacts). flying_if past.asked o) here
    ∙ ap (λ (m : Message). flying_of (past_at_sending past.asked carried) m.from m.to m.incarnation m.sequence m.body)
    is

-- a question
pub heard-asked : (past : Past) (facts : Facts) (i : ℕ) (carried : InFlightFacts) (by : Member)
    (incarnation sequence : ℕ) (txn : Txn) → IsSameFlight past facts → in_flight facts.flight i ≡ Some carried
    → carried.message ≡ record {
      from = ends.Member by;
      to = ends.Store;
      incarnation = incarnation;
      sequence = sequence;
      body = bodies.Request txn;
    }
    → past.flight i ≡ Some (Requested (record {
      member = by.id.number;
      incarnation = incarnation;
      sequence = sequence;
      sent = carried.sent.0;
      query = query_of txn;
    }))
heard-asked past facts i carried by incarnation sequence txn same here is = heard past facts i carried (record {
  from = ends.Member by;
  to = ends.Store;
  incarnation = incarnation;
  sequence = sequence;
  body = bodies.Request txn;
}) same here is

pub heard-read : (past : Past) (facts : Facts) (i : ℕ) (carried : InFlightFacts) (by : Member)
    (incarnation sequence : ℕ) → IsSameFlight past facts → in_flight facts.flight i ≡ Some carried
    → carried.message ≡ record {
      from = ends.Member by;
      to = ends.Store;
      incarnation = incarnation;
      sequence = sequence;
      body = bodies.Read;
    }
    → past.flight i ≡ Some (Requested (record {
      member = by.id.number;
      incarnation = incarnation;
      sequence = sequence;
      sent = carried.sent.0;
      query = Read;
    }))
heard-read past facts i carried by incarnation sequence same here is = heard past facts i carried (record {
  from = ends.Member by;
  to = ends.Store;
  incarnation = incarnation;
  sequence = sequence;
  body = bodies.Read;
}) same here is

pub heard-request : (past : Past) (facts : Facts) (i : ℕ) (carried : InFlightFacts) (by : Member)
    (incarnation sequence : ℕ) (txn : Txn) → IsSameFlight past facts → in_flight facts.flight i ≡ Some carried
    → carried.message ≡ record {
      from = ends.Member by;
      to = ends.Store;
      incarnation = incarnation;
      sequence = sequence;
      body = bodies.Request txn;
    }
    → (q : Question)
    × ((past.flight i ≡ Some (Requested q)) ×
    ((q.member ≡ by.id.number) ×
    ((q.incarnation ≡ incarnation) × ((q.sequence ≡ sequence) × (q.query ≡ query_of txn)))))
heard-request past facts i carried by incarnation sequence txn same here is = (
  record {
    member = by.id.number;
    incarnation = incarnation;
    sequence = sequence;
    sent = carried.sent.0;
    query = query_of txn;
  },
  (heard-asked past facts i carried by incarnation sequence txn same here is, (refl, (refl, (refl, refl)))),
)

-- answers
pub heard-snapshot : (past : Past) (facts : Facts) (i : ℕ) (carried : InFlightFacts) (member : Member)
    (incarnation sequence : ℕ) → IsSameFlight past facts → in_flight facts.flight i ≡ Some carried
    → carried.message ≡ record {
      from = ends.Store;
      to = ends.Member member;
      incarnation = incarnation;
      sequence = sequence;
      body = bodies.Snapshot;
    }
    → past.flight i ≡ Some (Answered (record {
      member = member.id.number;
      incarnation = incarnation;
      sequence = sequence;
      leader = seen_of (leader_key_of (find key_cmp keys.Leader carried.snapshot));
      failsafe = failsafe_key_of (find key_cmp keys.Failsafe carried.snapshot);
      grant = None;
    }))
heard-snapshot past facts i carried member incarnation sequence same here is = heard past facts i carried (record {
  from = ends.Store;
  to = ends.Member member;
  incarnation = incarnation;
  sequence = sequence;
  body = bodies.Snapshot;
}) same here is

pub heard-refused : (past : Past) (facts : Facts) (i : ℕ) (carried : InFlightFacts) (member : Member)
    (incarnation sequence request : ℕ) (key : Key) (found : Expected) → IsSameFlight past facts
    → in_flight facts.flight i ≡ Some carried
    → carried.message ≡ record {
      from = ends.Store;
      to = ends.Member member;
      incarnation = incarnation;
      sequence = sequence;
      body = bodies.Refused request key found;
    }
    → past.flight i ≡ Some (Answered (record {
      member = member.id.number;
      incarnation = incarnation;
      sequence = sequence;
      leader = None;
      failsafe = None;
      grant = None;
    }))
heard-refused past facts i carried member incarnation sequence request key found same here is =
    heard past facts i carried (record {
      from = ends.Store;
      to = ends.Member member;
      incarnation = incarnation;
      sequence = sequence;
      body = bodies.Refused request key found;
    }) same here is

grant-read : (leased : Bool) (asked : ℕ → Option Question) (revision request : ℕ) (carried : InFlightFacts)
    (question : Question) → asked request ≡ Some question → revision_of carried.grant ≡ revision
    → grant_of leased (past_at_sending asked carried) (asked request)
    ≡ grant_if leased revision carried.sent.0 question (failsafe_key_of (find key_cmp keys.Failsafe carried.snapshot))
grant-read true asked revision request carried question is carries =
    ap (λ (o : Option Question). grant_of true (past_at_sending asked carried) o) is
    ∙ ap (λ (r : ℕ).
    grant_if true r carried.sent.0 question (failsafe_key_of (find key_cmp keys.Failsafe carried.snapshot)))
    carries
grant-read false asked revision request carried question is carries = refl

pub heard-granted : (past : Past) (facts : Facts) (i : ℕ) (carried : InFlightFacts) (member : Member)
    (incarnation sequence request : ℕ) (leased : Bool) → IsSameFlight past facts
    → in_flight facts.flight i ≡ Some carried
    → carried.message ≡ record {
      from = ends.Store;
      to = ends.Member member;
      incarnation = incarnation;
      sequence = sequence;
      body = bodies.Granted request leased;
    }
    → CarriesGrant past i carried member incarnation sequence request leased
heard-granted past facts i carried member incarnation sequence request leased same here is =
    let message : Message = record {
      from = ends.Store;
      to = ends.Member member;
      incarnation = incarnation;
      sequence = sequence;
      body = bodies.Granted request leased;
    } in
    let given = same.grants i carried here in
    let grant : carried.grant ≡ grant_for message.body message.to given.0 = given.1
    ∙ ap (λ (m : Message). grant_for m.body m.to given.0) is in
    let answers : Answers past.asked message.from message.to message.incarnation message.sequence message.body =
    subst (λ (m : Message). Answers past.asked m.from m.to m.incarnation m.sequence m.body) is
    (same.answers i carried here) in
    record {
      revision = given.0;
      grant = grant;
      answers = answers;
      flying = heard past facts i carried message same here is
          ∙ ap (λ (g : Option Grant). Some (Answered (record {
            member = member.id.number;
            incarnation = incarnation;
            sequence = sequence;
            leader = seen_of (leader_key_of (find key_cmp keys.Leader carried.snapshot));
            failsafe = failsafe_key_of (find key_cmp keys.Failsafe carried.snapshot);
            grant = g;
          })))
          (grant-read leased past.asked given.0 request carried answers.question answers.is (ap revision_of grant));
    }

-- what agents say to each other
pub heard-failsafe_request : (past : Past) (facts : Facts) (i : ℕ) (carried : InFlightFacts) (by member : Member)
    (incarnation sequence : ℕ) (ttl : Ticks) → IsSameFlight past facts → in_flight facts.flight i ≡ Some carried
    → carried.message ≡ record {
      from = ends.Member by;
      to = ends.Member member;
      incarnation = incarnation;
      sequence = sequence;
      body = bodies.FailsafeRequest ttl;
    }
    → past.flight i ≡ Some (FailsafeRequested (record {
      member = by.id.number;
      incarnation = incarnation;
      sequence = sequence;
      ttl = ttl.0;
      sent = carried.sent.0;
    }))
heard-failsafe_request past facts i carried by member incarnation sequence ttl same here is =
    heard past facts i carried (record {
      from = ends.Member by;
      to = ends.Member member;
      incarnation = incarnation;
      sequence = sequence;
      body = bodies.FailsafeRequest ttl;
    }) same here is

pub heard-acknowledgement : (past : Past) (facts : Facts) (i : ℕ) (carried : InFlightFacts) (by member : Member)
    (incarnation sequence : ℕ) → IsSameFlight past facts → in_flight facts.flight i ≡ Some carried
    → carried.message ≡ record {
      from = ends.Member by;
      to = ends.Member member;
      incarnation = incarnation;
      sequence = sequence;
      body = bodies.FailsafeAnswer true;
    }
    → past.flight i
    ≡ Some (Acknowledged
    (record { member = member.id.number; incarnation = incarnation; sequence = sequence; by = by.id.number }))
heard-acknowledgement past facts i carried by member incarnation sequence same here is =
    heard past facts i carried (record {
      from = ends.Member by;
      to = ends.Member member;
      incarnation = incarnation;
      sequence = sequence;
      body = bodies.FailsafeAnswer true;
    }) same here is
