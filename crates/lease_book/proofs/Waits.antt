-- What is waited for agrees with what is in flight.
use Rattle.std.proofs.Common.{◌≡◌, ℕ, ◌≤◌, ◌<◌, Bool, true, false, Option, Some, None, ◌∙◌, ap, sym, subst, arith, inl, inr, ◌⊎◌}
use Rattle.store_keys.specs.declared.txn.Txn.{Txn}
use Rattle.event_book.specs.declared.event.EventKind.{EventKind}
use Rattle.event_book.specs.declared.event.EventKind.TheVariants as kinds
use Rattle.event_book.specs.declared.event.MessageEvent.TheVariants.{Sent, Delivered, Lost}
use Rattle.event_book.specs.declared.link.LinkEnd.{LinkEnd}
use Rattle.event_book.specs.declared.link.LinkEnd.TheVariants as ends
use Rattle.event_book.specs.declared.member.Member.{Member}
use Rattle.event_book.specs.declared.message.Body.{Body}
use Rattle.event_book.specs.declared.message.Body.TheVariants as bodies
use Rattle.event_book.specs.declared.message.Message.{Message}
use Rattle.event_book.specs.Flight.{InFlightFacts, in_flight}
use Rattle.event_book.specs.Facts.{Facts}
use Rattle.lease_model.specs.Leases.{Read, Question, Flying, Requested}
use Rattle.lease_model.specs.Past.{Past, query_of, grant_of, answer_of, question_in_flight_of, answer_in_flight_of, peer_in_flight_of, flying_of, asked_with, past_after}
use Rattle.lease_model.proofs.Tools.{answered-requested}
use Rattle.std.proofs.lemmas.Bool.{cases_eq}
use Rattle.lease_book.specs.Flights.{IsSameFlight}
use Rattle.lease_book.specs.Groups.{CarriesGrant}
use Rattle.lease_book.specs.Waiting.{IsAskedOnce, IsLastAsked, IsLastRun, AsksFrom, AsksOnly}
use Rattle.lease_book.proofs.Flights.{failsafe_requested-requested, acknowledged-requested, none-requested, requested-is, asked-new, asked-there}
use Rattle.lease_book.proofs.Hearing.{heard-granted}

answer-names : (P : ℕ → ℕ → ℕ → Type 0) (past : Past) (m incarnation sequence : ℕ) (body : Body) (q : Question)
    → answer_in_flight_of past m incarnation sequence body ≡ Some (Requested q) → P q.member q.incarnation q.sequence
answer-names P past m incarnation sequence bodies.Snapshot q e =
    absurd (answered-requested (answer_of past m incarnation sequence true None) q e)
answer-names P past m incarnation sequence (bodies.Granted request leased) q e = absurd
    (answered-requested (answer_of past m incarnation sequence true (grant_of leased past (past.asked request))) q e)
answer-names P past m incarnation sequence (bodies.Refused request key found) q e =
    absurd (answered-requested (answer_of past m incarnation sequence false None) q e)
answer-names P past m incarnation sequence _ q e = absurd (none-requested q e)

question-names : (P : ℕ → ℕ → ℕ → Type 0) (past : Past) (m incarnation sequence : ℕ) (body : Body) (q : Question)
    → question_in_flight_of past m incarnation sequence body ≡ Some (Requested q) → P m incarnation sequence
    → P q.member q.incarnation q.sequence
question-names P past m incarnation sequence bodies.Read q e is =
    subst (λ (x : Question). P x.member x.incarnation x.sequence)
    (requested-is
    (record { member = m; incarnation = incarnation; sequence = sequence; sent = past.clock; query = Read }) q e)
    is
question-names P past m incarnation sequence (bodies.Request txn) q e is =
    subst (λ (x : Question). P x.member x.incarnation x.sequence) (requested-is (record {
      member = m;
      incarnation = incarnation;
      sequence = sequence;
      sent = past.clock;
      query = query_of txn;
    }) q e) is
question-names P past m incarnation sequence _ q e is = absurd (none-requested q e)

peer-names : (P : ℕ → ℕ → ℕ → Type 0) (past : Past) (by m incarnation sequence : ℕ) (body : Body) (q : Question)
    → peer_in_flight_of past by m incarnation sequence body ≡ Some (Requested q) → P q.member q.incarnation q.sequence
peer-names P past by m incarnation sequence (bodies.FailsafeRequest ttl) q e =
    absurd (failsafe_requested-requested
    (record { member = by; incarnation = incarnation; sequence = sequence; ttl = ttl.0; sent = past.clock }) q e)
peer-names P past by m incarnation sequence (bodies.FailsafeAnswer true) q e =
    absurd (acknowledged-requested (record { member = m; incarnation = incarnation; sequence = sequence; by = by }) q e)
peer-names P past by m incarnation sequence (bodies.FailsafeAnswer false) q e = absurd (none-requested q e)
peer-names P past by m incarnation sequence _ q e = absurd (none-requested q e)

asks-names : (P : ℕ → ℕ → ℕ → Type 0) (past : Past) (from to : LinkEnd) (incarnation sequence : ℕ)
    (body : Body) (q : Question) → flying_of past from to incarnation sequence body ≡ Some (Requested q)
    → AsksFrom P from to incarnation sequence → P q.member q.incarnation q.sequence
asks-names P past (ends.Member by) ends.Store incarnation sequence body q e is =
    question-names P past by.id.number incarnation sequence body q e is
asks-names P past ends.Store (ends.Member member) incarnation sequence body q e is =
    answer-names P past member.id.number incarnation sequence body q e
asks-names P past (ends.Member by) (ends.Member member) incarnation sequence body q e is =
    peer-names P past by.id.number member.id.number incarnation sequence body q e
asks-names P past ends.Store ends.Store incarnation sequence body q e is = absurd (none-requested q e)

-- a question that was asked after an event was asked before it, or is the one that the event sends
sent-asks : (P : ℕ → ℕ → ℕ → Type 0) (past : Past) (number : ℕ) (message : Message) (i : ℕ) (q : Question)
    → AsksFrom P message.from message.to message.incarnation message.sequence → ((i ≡ number) ⊎ (i ≡ number → ⊥))
    → asked_with past.asked number
    (flying_of past message.from message.to message.incarnation message.sequence message.body) i ≡ Some q
    → (past.asked i ≡ Some q) ⊎ P q.member q.incarnation q.sequence
sent-asks P past number message i q is (inl e) at =
    let flying : Option Flying =
    flying_of past message.from message.to message.incarnation message.sequence message.body in
    elim (asked-new past.asked number flying q (ap (λ (n : ℕ). asked_with past.asked number flying n) (sym e) ∙ at)) [
      | inl new ↦
          inr (asks-names P past message.from message.to message.incarnation message.sequence message.body q new is)
      | inr was ↦ inl (ap past.asked e ∙ was)
    ]
sent-asks P past number message i q is (inr other) at =
    inl (sym (asked-there past.asked number
    (flying_of past message.from message.to message.incarnation message.sequence message.body) i other)
    ∙ at)

pub asked-by : (P : ℕ → ℕ → ℕ → Type 0) (past : Past) (kind : EventKind) → AsksOnly P kind → (i : ℕ) (q : Question)
    → (past_after past kind).asked i ≡ Some q → (past.asked i ≡ Some q) ⊎ P q.member q.incarnation q.sequence
asked-by P past (kinds.Message (Sent number message)) is i q at =
    sent-asks P past number message i q is (cases_eq i number) at
asked-by P past (kinds.Message (Delivered number)) is i q at = inl at
asked-by P past (kinds.Message (Lost number)) is i q at = inl at
asked-by P past _ is i q at = inl at

pub once-kept : (past : Past) (kind : EventKind) (question : Question)
    → AsksOnly (λ m incarnation sequence. m ≡ question.member → incarnation ≡ question.incarnation →
    sequence ≡ question.sequence → ⊥)
    kind
    → IsAskedOnce past.asked question → IsAskedOnce (past_after past kind).asked question
once-kept past kind question other old i q at a b c =
    elim (asked-by (λ m incarnation sequence. m ≡ question.member → incarnation ≡ question.incarnation →
    sequence ≡ question.sequence → ⊥)
    past kind other i q at) [ inl was ↦ old i q was a b c | inr new ↦ absurd (new a b c) ]

pub last-kept : (past : Past) (kind : EventKind) (m incarnation last : ℕ)
    → AsksOnly (λ by r sequence. by ≡ m → r ≡ incarnation → sequence ≤ last) kind
    → IsLastAsked past.asked m incarnation last → IsLastAsked (past_after past kind).asked m incarnation last
last-kept past kind m incarnation last small old i q at a b =
    elim (asked-by (λ by r sequence. by ≡ m → r ≡ incarnation → sequence ≤ last) past kind small i
    q at) [ inl was ↦ old i q was a b | inr new ↦ new a b ]

pub run-kept : (past : Past) (kind : EventKind) (m runs : ℕ) → AsksOnly (λ by r sequence. by ≡ m → r ≤ runs) kind
    → IsLastRun past.asked m runs → IsLastRun (past_after past kind).asked m runs
run-kept past kind m runs small old i q at a =
    elim (asked-by (λ by r sequence. by ≡ m → r ≤ runs) past kind small i
    q at) [ inl was ↦ old i q was a | inr new ↦ new a ]

pub last-later : (asked : ℕ → Option Question) (m incarnation last more : ℕ) → last ≤ more
    → IsLastAsked asked m incarnation last → IsLastAsked asked m incarnation more
last-later asked m incarnation last more h old i q at a b = omega (arith, h, old i q at a b)

pub run-new : (asked : ℕ → Option Question) (m runs incarnation : ℕ) → runs < incarnation
    → IsLastRun asked m runs → IsLastAsked asked m incarnation 0
run-new asked m runs incarnation above old i q at a b = absurd (omega (arith, above, b, old i q at a))

-- a question under a new number is the only one of its name
pub once-sent : (past : Past) (number : ℕ) (by : Member) (incarnation sequence last : ℕ) (txn : Txn)
    → IsLastAsked past.asked by.id.number incarnation last → last < sequence
    → IsAskedOnce (past_after past (kinds.Message (Sent number (record {
      from = ends.Member by;
      to = ends.Store;
      incarnation = incarnation;
      sequence = sequence;
      body = bodies.Request txn;
    })))).asked
    (record {
      member = by.id.number;
      incarnation = incarnation;
      sequence = sequence;
      sent = past.clock;
      query = query_of txn;
    })
once-sent past number by incarnation sequence last txn old above i q at a b c = found (cases_eq i number)
  where
    one : Question
    one = record {
      member = by.id.number;
      incarnation = incarnation;
      sequence = sequence;
      sent = past.clock;
      query = query_of txn;
    }

    found : ((i ≡ number) ⊎ (i ≡ number → ⊥)) → q ≡ one
    found (inl e) =
        elim (asked-new past.asked number (Some (Requested one)) q
        (ap (λ (n : ℕ). asked_with past.asked number (Some (Requested one)) n) (sym e) ∙ at)) [
          | inl new ↦ sym (requested-is one q new)
          | inr was ↦ absurd (omega (arith, above, c, old number q was a b))
        ]
    found (inr other) = absurd
        (omega (arith, above, c, old i q (sym (asked-there past.asked number (Some (Requested one)) i other) ∙ at) a b))

-- an answer to what is waited for has its span and its moment of sending
pub waited-granted : (past : Past) (facts : Facts) (i : ℕ) (carried : InFlightFacts) (member : Member)
    (incarnation sequence request : ℕ) (leased : Bool) (question : Question) → IsSameFlight past facts
    → in_flight facts.flight i ≡ Some carried → carried.message ≡ record {
      from = ends.Store;
      to = ends.Member member;
      incarnation = incarnation;
      sequence = sequence;
      body = bodies.Granted request leased;
    }
    → IsAskedOnce past.asked question → question.member ≡ member.id.number
    → question.incarnation ≡ incarnation → question.sequence ≡ sequence
    → (heard : CarriesGrant past i carried member incarnation sequence request leased)
    × (heard.answers.question ≡ question)
waited-granted past facts i carried member incarnation sequence request leased question same here is once a b c =
    let heard = heard-granted past facts i carried member incarnation sequence request leased same here is in (
      heard,
      once request heard.answers.question heard.answers.is (heard.answers.asker ∙ sym a)
          (heard.answers.in_run ∙ sym b) (heard.answers.numbered ∙ sym c),
    )
