-- After the groups of events that a world brings, the law has what the book leaves.
use Rattle.std.proofs.Common.{◌≡◌, ℕ, ◌<◌, List, [], ◌∷◌, ◌++◌, Option, Some, refl, ◌∙◌, ap}
use Rattle.pat_base.specs.declared.name.Name.{Name}
use Rattle.pat_base.specs.declared.ticks.Ticks.{Ticks}
use Rattle.store_keys.specs.declared.key.Key.{Key}
use Rattle.store_keys.specs.declared.txn.Expected.{Expected}
use Rattle.store_keys.specs.declared.txn.Txn.{Txn}
use Rattle.store_keys.specs.declared.txn.Txn.TheVariants as txns
use Rattle.store_keys.specs.declared.txn.LeaseTxn.TheVariants as lease_txns
use Rattle.store_keys.specs.declared.txn_kind.TxnKind.{TxnKind}
use Rattle.lease_store.specs.Writes.{is_lease}
use Rattle.event_book.specs.declared.event.Event.{Event}
use Rattle.event_book.specs.declared.event.EventKind.{EventKind}
use Rattle.event_book.specs.declared.event.EventKind.TheVariants as kinds
use Rattle.event_book.specs.declared.event.MessageEvent.TheVariants.{Sent, Delivered, Lost}
use Rattle.event_book.specs.declared.event.StoreEvent.TheVariants as stores
use Rattle.event_book.specs.declared.link.LinkEnd.{LinkEnd}
use Rattle.event_book.specs.declared.link.LinkEnd.TheVariants as ends
use Rattle.event_book.specs.declared.member.Member.{Member}
use Rattle.event_book.specs.declared.message.Body.{Body}
use Rattle.event_book.specs.declared.message.Body.TheVariants as bodies
use Rattle.event_book.specs.Flight.{InFlightFacts, in_flight}
use Rattle.event_book.specs.Facts.{Facts, facts_after, facts_over, start_of}
use Rattle.lease_model.specs.Leases.{Question}
use Rattle.lease_model.specs.Claims.{BeginsBehind}
use Rattle.store_keys.specs.Settings.{Settings}
use Rattle.lease_model.specs.Past.{Past, first_past, query_of, past_after, past_over}
use Rattle.event_book.specs.Kinds.{AllAre}
use Rattle.lease_model.specs.Stores.{IsSpannedTxn, IsSpanned}
use Rattle.lease_model.specs.Showing.{granted_events, refused_events, read_events}
use Rattle.lease_law.proofs.SameStore.{same-first, same-by}
use Rattle.lease_book.specs.Flights.{is_leasing, Answers, IsSameFlight, IsCausal, AreCausal, IsSameBook}
use Rattle.lease_book.specs.Groups.{IsMemberEnd, IsOfMembers, IsNumberedAbove, AreNumberedAbove}
use Rattle.lease_book.proofs.Flights.{flight-first, flight-by}
use Rattle.lease_book.proofs.Hearing.{heard-request}

pub book-first : (first : Settings) (names : List Name) (base : ℕ) → IsSameBook first_past (start_of first names base)
book-first first names base = record { store = same-first first names base; flight = flight-first first names base }

pub book-by : (past : Past) (facts : Facts) (kind : EventKind) → IsSpanned kind → IsCausal past facts kind
    → IsSameBook past facts → IsSameBook (past_after past kind) (facts_after facts kind)
book-by past facts kind span causal old = record {
  store = same-by past facts kind span old.store;
  flight = flight-by past facts kind causal old.store old.flight;
}

pub book-after : (past : Past) (facts : Facts) (events : List Event) → AreCausal past facts events
    → IsSameBook past facts → IsSameBook (past_over past events) (facts_over facts events)
book-after past facts [] causal old = old
book-after past facts (event ∷ events) causal old = book-after (past_after past event.kind)
    (facts_after facts event.kind) events causal.1.1 (book-by past facts event.kind causal.0 causal.1.0 old)

-- one group after another, and a front
pub causal-both : (past : Past) (facts : Facts) (front rest : List Event) → AreCausal past facts front
    → AreCausal (past_over past front) (facts_over facts front) rest → AreCausal past facts (front ++ rest)
causal-both past facts [] rest first second = second
causal-both past facts (event ∷ front) rest first second = (
  first.0,
  (first.1.0, causal-both (past_after past event.kind) (facts_after facts event.kind) front rest first.1.1 second),
)

pub causal-front : (past : Past) (facts : Facts) (front rest : List Event)
    → AreCausal past facts (front ++ rest) → AreCausal past facts front
causal-front past facts [] rest causal = tt
causal-front past facts (event ∷ front) rest causal = (
  causal.0,
  (causal.1.0, causal-front (past_after past event.kind) (facts_after facts event.kind) front rest causal.1.1),
)

-- ---- a delivery to the key store
leasing-is : (txn : Txn) → is_leasing (query_of txn) ≡ is_lease txn
leasing-is (txns.Lease (lease_txns.Create info ttl failsafe sync)) = refl
leasing-is (txns.Lease (lease_txns.Renew revision info ttl status row failsafe)) = refl
leasing-is _ = refl

pub granted-causal : (past : Past) (facts : Facts) (tick : Ticks) (i j : ℕ) (carried : InFlightFacts)
    (by : Member) (incarnation sequence : ℕ) (txn : Txn) (standbys : List Name) → IsSameFlight past facts
    → in_flight facts.flight i ≡ Some carried → carried.message ≡ record {
      from = ends.Member by;
      to = ends.Store;
      incarnation = incarnation;
      sequence = sequence;
      body = bodies.Request txn;
    }
    → facts.sent < j → IsSpannedTxn txn
    → AreCausal past facts (granted_events tick i j by incarnation sequence txn standbys)
granted-causal past facts tick i j carried by incarnation sequence txn standbys old here is above span =
    let heard = heard-request past facts i carried by incarnation sequence txn old here is in (
      tt,
      (
        tt,
        (
          span,
          (
            tt,
            (
              tt,
              (
                (
                  above,
                  record {
                    question = heard.0;
                    is = old.kept i heard.0 heard.1.0;
                    asker = heard.1.1.0;
                    in_run = heard.1.1.1.0;
                    numbered = heard.1.1.1.1.0;
                    leasing = ap is_leasing heard.1.1.1.1.1 ∙ leasing-is txn;
                  },
                ),
                tt,
              ),
            ),
          ),
        ),
      ),
    )

pub refused-causal : (past : Past) (facts : Facts) (tick : Ticks) (i j : ℕ) (by : Member)
    (incarnation sequence : ℕ) (request : TxnKind) (key : Key) (found : Expected) → facts.sent < j
    → AreCausal past facts (refused_events tick i j by incarnation sequence request key found)
refused-causal past facts tick i j by incarnation sequence request key found above =
    (tt, (tt, (tt, (tt, (tt, ((above, tt), tt))))))

pub read-causal : (past : Past) (facts : Facts) (tick : Ticks) (i j : ℕ) (by : Member) (incarnation sequence : ℕ)
    → facts.sent < j → AreCausal past facts (read_events tick i j by incarnation sequence)
read-causal past facts tick i j by incarnation sequence above = (tt, (tt, (tt, ((above, tt), tt))))

-- ---- a tick, a loss, a delivery to an agent, and all that its input brings
pub members-spanned : (kind : EventKind) → IsOfMembers kind → IsSpanned kind
members-spanned (kinds.Store (stores.Granted number by txn standbys)) is = absurd is
members-spanned (kinds.Store (stores.Refused number by request key found)) is = tt
members-spanned (kinds.Store (stores.LeaderExpired holder)) is = tt
members-spanned (kinds.Store (stores.Expired key)) is = tt
members-spanned _ is = tt

member-answers : (asked : ℕ → Option Question) (from to : LinkEnd) (incarnation sequence : ℕ) (body : Body)
    → IsMemberEnd from → Answers asked from to incarnation sequence body
member-answers asked (ends.Member by) to incarnation sequence body is = tt
member-answers asked ends.Store to incarnation sequence body is = absurd is

members-causal : (past : Past) (facts : Facts) (kind : EventKind) → IsOfMembers kind
    → IsNumberedAbove facts.sent kind → IsCausal past facts kind
members-causal past facts (kinds.Message (Sent number message)) is above =
    (above, member-answers past.asked message.from message.to message.incarnation message.sequence message.body is)
members-causal past facts (kinds.Message (Delivered number)) is above = tt
members-causal past facts (kinds.Message (Lost number)) is above = tt
members-causal past facts _ is above = tt

pub own-causal : (past : Past) (facts : Facts) (events : List Event) → AllAre IsOfMembers events
    → AreNumberedAbove facts.sent events → AreCausal past facts events
own-causal past facts [] all numbered = tt
own-causal past facts (event ∷ events) all numbered = (
  members-spanned event.kind all.0,
  (
    members-causal past facts event.kind all.0 numbered.0,
    own-causal (past_after past event.kind) (facts_after facts event.kind) events all.1 numbered.1,
  ),
)

-- ---- a front of events in which only who may begin begins
pub begins-front : (P : List Event → ℕ → Type 0) (before front rest : List Event)
    → BeginsBehind P before (front ++ rest) → BeginsBehind P before front
begins-front P before [] rest is = tt
begins-front P before (event ∷ front) rest is = (is.0, begins-front P (before ++ event ∷ []) front rest is.1)
