-- The messages in flight by the law's definitions are those that the book leaves.
use Rattle.std.specs.Prelude.{ℕ, ◌≡◌, ◌+◌, ◌≤◌, ◌<◌, Bool, true, false, List, [], ◌∷◌, Option, Some, None}
use Rattle.std.specs.FinMap.{find}
use Rattle.lease_store.specs.declared.granted.Granted.{Granted}
use Rattle.store_keys.specs.declared.key.Key.TheVariants as keys
use Rattle.lease_store.specs.KeyOrder.{key_cmp}
use Rattle.event_book.specs.declared.event.Event.{Event}
use Rattle.event_book.specs.declared.event.EventKind.{EventKind}
use Rattle.event_book.specs.declared.event.EventKind.TheVariants as kinds
use Rattle.event_book.specs.declared.event.MessageEvent.TheVariants.{Sent}
use Rattle.event_book.specs.declared.link.LinkEnd.{LinkEnd}
use Rattle.event_book.specs.declared.link.LinkEnd.TheVariants as ends
use Rattle.event_book.specs.declared.message.Body.{Body}
use Rattle.event_book.specs.declared.message.Body.TheVariants as bodies
use Rattle.event_book.specs.Flight.{InFlightFacts, Flight, in_flight, grant_for}
use Rattle.event_book.specs.Facts.{Facts, facts_after}
use Rattle.lease_model.specs.Leases.{Query, Create, Renew, Question, Flying, Requested}
use Rattle.lease_model.specs.Past.{Past, first_past, flying_of, past_after}
use Rattle.lease_model.specs.Stores.{leader_key_of, failsafe_key_of, IsSpanned, IsSameStore}

-- the revision of a grant, 0 where there is none
abbrev pub revision_of : Option Granted → ℕ
revision_of None = 0
revision_of (Some granted) = granted.revision

-- what the law reads of a book as this message is sent: its moment, the keys
-- of its snapshot, the revision of its grant, and these questions so far
abbrev pub past_at_sending : (ℕ → Option Question) → InFlightFacts → Past
past_at_sending asked carried = record first_past {
  clock = carried.sent.0;
  leader = leader_key_of (find key_cmp keys.Leader carried.snapshot);
  failsafe = failsafe_key_of (find key_cmp keys.Failsafe carried.snapshot);
  revision = revision_of carried.grant;
  asked = asked;
}

-- what the law has of a message that is in flight with this snapshot and this grant
abbrev pub flying_carried : (ℕ → Option Question) → InFlightFacts → Option Flying
flying_carried asked carried = flying_of (past_at_sending asked carried) carried.message.from
    carried.message.to carried.message.incarnation carried.message.sequence carried.message.body

-- the same of a message that may be in flight
abbrev pub flying_if : (ℕ → Option Question) → Option InFlightFacts → Option Flying
flying_if asked None = None
flying_if asked (Some carried) = flying_carried asked carried

-- a question for the lease
abbrev pub is_leasing : Query → Bool
is_leasing (Create ttl expected) = true
is_leasing (Renew revision ttl carried) = true
is_leasing _ = false

-- the request of this number was asked by this member, in this
-- incarnation and under this number of a question, for the lease or not
pub record IsAnswerTo (asked : ℕ → Option Question) (member incarnation sequence request : ℕ) (leased : Bool) : Type
    0 where
  pub question : Question
  pub is : asked request ≡ Some question
  pub asker : question.member ≡ member
  pub in_run : question.incarnation ≡ incarnation
  pub numbered : question.sequence ≡ sequence
  pub leasing : is_leasing question.query ≡ leased

-- a grant that the key store sends this member answers a question that was asked
abbrev pub AnswersBody : (ℕ → Option Question) → ℕ → ℕ → ℕ → Body → Type 0
AnswersBody asked member incarnation sequence (bodies.Granted request leased) =
    IsAnswerTo asked member incarnation sequence request leased
AnswersBody asked member incarnation sequence _ = Unit {0}

-- where a message is a grant of the key store, it answers a question that was asked
abbrev pub Answers : (ℕ → Option Question) → LinkEnd → LinkEnd → ℕ → ℕ → Body → Type 0
Answers asked ends.Store (ends.Member member) incarnation sequence body =
    AnswersBody asked member.id.number incarnation sequence body
Answers asked _ to incarnation sequence body = Unit {0}

-- the numbers rise from this one on
abbrev pub Rises : ℕ → Flight → Type 0
Rises low [] = Unit {0}
Rises low (entry ∷ entries) = (low ≤ entry.0) × Rises (entry.0 + 1) entries

-- under each number the law has what it reads of the message that is in flight by the book
pub record IsSameFlight (past : Past) (facts : Facts) : Type 0 where
  pub same : (i : ℕ) → past.flight i ≡ flying_if past.asked (in_flight facts.flight i)
  pub order : Rises 0 facts.flight
  -- numbers are those of messages that were sent
  pub flown : (i : ℕ) (carried : InFlightFacts) → in_flight facts.flight i ≡ Some carried → i ≤ facts.sent
  pub asked : (i : ℕ) (question : Question) → past.asked i ≡ Some question → i ≤ facts.sent
  -- a message in flight carries the moment of its sending, and a question has it
  pub moments : (i : ℕ) (carried : InFlightFacts) → in_flight facts.flight i ≡ Some carried
      → (past.sent i ≡ Some carried.sent.0) × (carried.sent.0 ≤ past.clock)
  pub asked_when : (i : ℕ) (question : Question) → past.asked i ≡ Some question → past.sent i ≡ Some question.sent
  -- a question in flight was asked, and so was each one that an answer in flight grants
  pub kept : (i : ℕ) (question : Question) → past.flight i ≡ Some (Requested question) → past.asked i ≡ Some question
  -- an answer that grants carries the grant
  pub grants : (i : ℕ) (carried : InFlightFacts) → in_flight facts.flight i ≡ Some carried
      → (revision : ℕ) × (carried.grant ≡ grant_for carried.message.body carried.message.to revision)
  pub answers : (i : ℕ) (carried : InFlightFacts) → in_flight facts.flight i ≡ Some carried
      → Answers past.asked carried.message.from carried.message.to carried.message.incarnation
      carried.message.sequence carried.message.body

-- causes come first: a message is sent under a number above those
-- before it, and a grant only for a question that was asked
abbrev pub IsCausal : Past → Facts → EventKind → Type 0
IsCausal past facts (kinds.Message (Sent number message)) =
    (facts.sent < number) × Answers past.asked message.from message.to message.incarnation message.sequence message.body
IsCausal past facts _ = Unit {0}

-- each of these events is causal, and no leader key is created that is absent at once
abbrev pub AreCausal : Past → Facts → List Event → Type 0
AreCausal past facts [] = Unit {0}
AreCausal past facts (event ∷ events) = IsSpanned event.kind
    × (IsCausal past facts event.kind × AreCausal (past_after past event.kind) (facts_after facts event.kind) events)

-- the law has the keys of the lease and the messages in flight as the book leaves them
pub record IsSameBook (past : Past) (facts : Facts) : Type 0 where
  pub store : IsSameStore past facts
  pub flight : IsSameFlight past facts
