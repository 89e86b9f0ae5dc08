-- The messages in flight as commits read them are those that the book leaves.
use Rattle.std.specs.Prelude.{ℕ, ◌≡◌, ◌≤◌, ◌<◌, Bool, true, false, List, [], ◌∷◌, Option, Some, None}
use Rattle.std.specs.FinMap.{find}
use Rattle.store_keys.specs.declared.key.Key.TheVariants as keys
use Rattle.lease_store.specs.KeyOrder.{key_cmp}
use Rattle.event_book.specs.declared.event.Event.{Event}
use Rattle.event_book.specs.declared.event.EventKind.{EventKind}
use Rattle.event_book.specs.declared.event.EventKind.TheVariants as kinds
use Rattle.event_book.specs.declared.event.MessageEvent.TheVariants.{Sent}
use Rattle.event_book.specs.declared.link.LinkEnd.{LinkEnd}
use Rattle.event_book.specs.declared.link.LinkEnd.TheVariants as ends
use Rattle.event_book.specs.declared.message.Body.{Body}
use Rattle.event_book.specs.declared.message.Body.TheVariants as bodies
use Rattle.event_book.specs.Flight.{InFlightFacts, in_flight}
use Rattle.event_book.specs.Facts.{Facts, facts_after}
use Rattle.event_book.specs.Logs.{no_logs}
use Rattle.lease_book.specs.Flights as bridge_flights
use Rattle.commit_actions.specs.Flights.{Aim, ClaimSync, CreateLeader, PublishStandbys, SyncRequest, Flying}
use Rattle.commit_actions.specs.Actions.{sync_key_by}
use Rattle.commit_actions.specs.Past.{Past, Query, LeaseQuery, CarryQuery, SyncQuery, OtherQuery, first_past, flying_of, leader_revision, past_after, query_sent}
use Rattle.commit_book.specs.Keys.{sync_key_of, IsSameKeys}

-- what commits read of a book as this message is sent: the keys of its
-- snapshot, the revision of its grant, and these requests so far
abbrev pub past_at_sending : (ℕ → Query) → InFlightFacts → Past
past_at_sending asked carried = record (first_past no_logs [] []) {
  lease = bridge_flights.past_at_sending (λ i. None) carried;
  sync = sync_key_of (find key_cmp keys.Sync carried.snapshot);
  asked = asked;
}

-- what commits read of a message that is in flight with this snapshot and this grant
abbrev pub flying_carried : (ℕ → Query) → InFlightFacts → Option Flying
flying_carried asked carried = flying_of (past_at_sending asked carried) carried.message.from
    carried.message.to carried.message.incarnation carried.message.sequence carried.message.body

-- what commits read of a message that is in flight, if there is one
abbrev pub flying_if : (ℕ → Query) → Option InFlightFacts → Option Flying
flying_if asked None = None
flying_if asked (Some carried) = flying_carried asked carried

-- a request that compares the sync key creates the leader key
abbrev pub is_creating : Aim → Bool
is_creating CreateLeader = true
is_creating ClaimSync = false
is_creating (PublishStandbys standbys quorum) = false

-- a request for the lease of the leader key
abbrev pub is_leasing : Query → Bool
is_leasing LeaseQuery = true
is_leasing (CarryQuery member revision) = true
is_leasing (SyncQuery request) = is_creating request.aim
is_leasing OtherQuery = false

-- as far as commits read the name of a request, it is this one: its
-- sender, the sender's incarnation and its number in that one
abbrev pub IsNamed : ℕ → ℕ → ℕ → Query → Type 0
IsNamed member incarnation sequence (CarryQuery by revision) = by ≡ member
IsNamed member incarnation sequence (SyncQuery request) =
    (request.member ≡ member) × ((request.incarnation ≡ incarnation) × (request.sequence ≡ sequence))
IsNamed member incarnation sequence _ = Unit {0}

-- what a request that compares the sync key writes is there, under the
-- last granted revision: the leader key, or the sync key
abbrev pub HasWritten : Past → SyncRequest → Aim → Type 0
HasWritten past request CreateLeader = leader_revision past.lease.leader ≡ Some past.lease.revision
HasWritten past request ClaimSync = past.sync ≡ Some (sync_key_by request.member past.lease.revision ClaimSync)
HasWritten past request (PublishStandbys standbys quorum) =
    past.sync ≡ Some (sync_key_by request.member past.lease.revision (PublishStandbys standbys quorum))

-- what any request writes, as far as commits read it, is there under
-- the last granted revision: the leader key, or the sync key
abbrev pub IsWritten : Past → Query → Type 0
IsWritten past LeaseQuery = leader_revision past.lease.leader ≡ Some past.lease.revision
IsWritten past (CarryQuery member revision) = leader_revision past.lease.leader ≡ Some past.lease.revision
IsWritten past (SyncQuery request) = HasWritten past request request.aim
IsWritten past OtherQuery = Unit {0}

-- the request of this number, which is one of those up to the last, was asked by this member, in this
-- incarnation and under this number of a question, for the lease or not; and it was granted last
pub record IsAnswerTo (past : Past) (last member incarnation sequence request : ℕ) (leased : Bool) : Type 0 where
  pub before : request ≤ last
  pub named : IsNamed member incarnation sequence (past.asked request)
  pub leasing : is_leasing (past.asked request) ≡ leased
  pub written : IsWritten past (past.asked request)

-- a grant that the key store sends this member answers a request that was asked, and granted last
abbrev pub AnswersBody : Past → ℕ → ℕ → ℕ → ℕ → Body → Type 0
AnswersBody past last member incarnation sequence (bodies.Granted request leased) =
    IsAnswerTo past last member incarnation sequence request leased
AnswersBody past last member incarnation sequence _ = Unit {0}

-- where a message is a grant of the key store, it answers a request that was asked, and granted last
abbrev pub Answers : Past → ℕ → LinkEnd → LinkEnd → ℕ → ℕ → Body → Type 0
Answers past last ends.Store (ends.Member member) incarnation sequence body =
    AnswersBody past last member.id.number incarnation sequence body
Answers past last _ to incarnation sequence body = Unit {0}

-- under each number the past has what commits read of the message that is in flight by the book
pub record IsSameFlight (past : Past) (facts : Facts) : Type 0 where
  -- and so has the law of one writer what it reads
  pub lease : bridge_flights.IsSameFlight past.lease facts
  pub same : (i : ℕ) → past.flight i ≡ flying_if past.asked (in_flight facts.flight i)
  pub asked : (i : ℕ) → facts.sent < i → past.asked i ≡ OtherQuery
  -- what is in flight was asked
  pub kept : (i : ℕ) (carried : InFlightFacts) → in_flight facts.flight i ≡ Some carried
      → past.asked i
      ≡ query_sent carried.message.from carried.message.incarnation carried.message.sequence carried.message.body
  -- an answer that grants answers a request that was asked, and granted under the revision that it carries
  pub answers : (i : ℕ) (carried : InFlightFacts) → in_flight facts.flight i ≡ Some carried
      → Answers (past_at_sending past.asked carried) facts.sent carried.message.from carried.message.to
      carried.message.incarnation carried.message.sequence carried.message.body

-- a grant is sent only for a request that was asked, and granted last
abbrev pub IsAnswered : Past → Facts → EventKind → Type 0
IsAnswered past facts (kinds.Message (Sent number message)) =
    Answers past facts.sent message.from message.to message.incarnation message.sequence message.body
IsAnswered past facts _ = Unit {0}

-- so it is at each of these events
abbrev pub AreAnswered : Past → Facts → List Event → Type 0
AreAnswered past facts [] = Unit {0}
AreAnswered past facts (event ∷ events) =
    IsAnswered past facts event.kind × AreAnswered (past_after past event.kind) (facts_after facts event.kind) events

-- each of these events is causal as the law of one writer has it, and grants are sent so
abbrev pub AreCausal : Past → Facts → List Event → Type 0
AreCausal past facts events = bridge_flights.AreCausal past.lease facts events × AreAnswered past facts events

-- the past has the keys and the messages in flight as the book leaves them
pub record IsSameBook (past : Past) (facts : Facts) : Type 0 where
  pub store : IsSameKeys past facts
  pub flight : IsSameFlight past facts
