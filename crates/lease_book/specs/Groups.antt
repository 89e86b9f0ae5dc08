-- Groups of events that aren't the key store's, and the grants that come to agents.
use Rattle.std.specs.Prelude.{ℕ, ◌≡◌, ◌<◌, Bool, true, false, List, [], ◌∷◌, Option, Some, None}
use Rattle.std.specs.FinMap.{find}
use Rattle.store_keys.specs.declared.key.Key.TheVariants as keys
use Rattle.lease_store.specs.KeyOrder.{key_cmp}
use Rattle.event_book.specs.declared.event.Event.{Event}
use Rattle.event_book.specs.declared.event.EventKind.{EventKind}
use Rattle.event_book.specs.declared.event.EventKind.TheVariants as kinds
use Rattle.event_book.specs.declared.event.MessageEvent.TheVariants.{Sent}
use Rattle.event_book.specs.declared.event.StoreEvent.TheVariants as stores
use Rattle.event_book.specs.declared.link.LinkEnd.{LinkEnd}
use Rattle.event_book.specs.declared.link.LinkEnd.TheVariants as ends
use Rattle.event_book.specs.declared.member.Member.{Member}
use Rattle.event_book.specs.Flight.{InFlightFacts, sent_after}
use Rattle.lease_model.specs.Leases.{FailsafeKey, Question, Grant, Answered}
use Rattle.lease_model.specs.Outcomes.{seen_of}
use Rattle.lease_model.specs.Past.{Past, lease_span}
use Rattle.lease_model.specs.Stores.{leader_key_of, failsafe_key_of}
use Rattle.lease_book.specs.Flights.{IsAnswerTo}

-- this end of a link is a member
abbrev pub IsMemberEnd : LinkEnd → Type 0
IsMemberEnd (ends.Member member) = Unit {0}
IsMemberEnd ends.Store = ⊥

-- neither a grant of the key store nor a message from it
abbrev pub IsOfMembers : EventKind → Type 0
IsOfMembers (kinds.Message (Sent number message)) = IsMemberEnd message.from
IsOfMembers (kinds.Store (stores.Granted number by txn standbys)) = ⊥
IsOfMembers _ = Unit {0}

-- a message that is sent has a number above this one
abbrev pub IsNumberedAbove : ℕ → EventKind → Type 0
IsNumberedAbove last (kinds.Message (Sent number message)) = last < number
IsNumberedAbove last _ = Unit {0}

-- each message has a number above this one and those before it
abbrev pub AreNumberedAbove : ℕ → List Event → Type 0
AreNumberedAbove last [] = Unit {0}
AreNumberedAbove last (event ∷ events) =
    IsNumberedAbove last event.kind × AreNumberedAbove (sent_after last event.kind) events

-- the grant that the law reads of an answer to this question, where it was one for the lease
abbrev pub grant_if : Bool → ℕ → ℕ → Question → Option FailsafeKey → Option Grant
grant_if true revision moment question failsafe = Some (record {
  revision = revision;
  sent = question.sent;
  moment = moment;
  ttl = lease_span question.query;
  failsafe = failsafe;
})
grant_if false revision moment question failsafe = None

-- the answer of this number carries a grant: of a question that was
-- asked, under the revision that it carries, given as it was sent
pub record CarriesGrant (past : Past) (i : ℕ) (carried : InFlightFacts) (member : Member)
    (incarnation sequence request : ℕ) (leased : Bool) : Type 0 where
  pub revision : ℕ
  pub grant : carried.grant ≡ Some (record { revision = revision; by = member.id; leased = leased })
  pub answers : IsAnswerTo past.asked member.id.number incarnation sequence request leased
  pub flying : past.flight i ≡ Some (Answered (record {
    member = member.id.number;
    incarnation = incarnation;
    sequence = sequence;
    leader = seen_of (leader_key_of (find key_cmp keys.Leader carried.snapshot));
    failsafe = failsafe_key_of (find key_cmp keys.Failsafe carried.snapshot);
    grant = grant_if leased revision carried.sent.0 answers.question
        (failsafe_key_of (find key_cmp keys.Failsafe carried.snapshot));
  }))
