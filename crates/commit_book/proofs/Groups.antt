-- After the groups of events that a world brings, the past has what the book leaves.
use Rattle.std.proofs.Common.{◌≡◌, ℕ, ◌+◌, ◌<◌, true, List, [], ◌∷◌, ◌++◌, Option, Some, None, refl, ◌∙◌, ap, sym, subst}
use Rattle.pat_base.specs.declared.lsn.Lsn.{Lsn}
use Rattle.pat_base.specs.declared.member_set.MemberSet.{MemberSet}
use Rattle.pat_base.specs.declared.name.Name.{Name}
use Rattle.pat_base.specs.declared.server_state.Required.{Required}
use Rattle.pat_base.specs.declared.ticks.Ticks.{Ticks}
use Rattle.lease_store.specs.Decision.{Grant as Granting, decision_on}
use Rattle.store_keys.specs.Settings.{Settings}
use Rattle.lease_store.specs.Writes.{is_lease}
use Rattle.store_keys.specs.declared.key.Key.{Key}
use Rattle.store_keys.specs.declared.txn.Expected.{Expected}
use Rattle.store_keys.specs.declared.txn.Txn.{Txn}
use Rattle.store_keys.specs.declared.txn.Txn.TheVariants as txns
use Rattle.store_keys.specs.declared.txn.LeaseTxn.TheVariants as lease_txns
use Rattle.store_keys.specs.declared.txn.SyncTxn.TheVariants as sync_txns
use Rattle.store_keys.specs.declared.txn_kind.TxnKind.{TxnKind}
use Rattle.store_keys.specs.declared.value.HistoryRow.{HistoryRow}
use Rattle.store_keys.specs.declared.value.MemberInfo.{MemberInfo}
use Rattle.event_book.specs.declared.event.Event.{Event}
use Rattle.event_book.specs.declared.event.EventKind.{EventKind}
use Rattle.event_book.specs.declared.event.EventKind.TheVariants as kinds
use Rattle.event_book.specs.declared.event.MessageEvent.TheVariants.{Sent, Delivered, Lost}
use Rattle.event_book.specs.declared.event.StoreEvent.TheVariants as stores
use Rattle.event_book.specs.declared.link.LinkEnd.{LinkEnd}
use Rattle.event_book.specs.declared.link.LinkEnd.TheVariants as ends
use Rattle.event_book.specs.declared.member.Member.{Member}
use Rattle.event_book.specs.declared.message.Body.{Body}
use Rattle.event_book.specs.declared.message.Body.TheVariants as bodies
use Rattle.event_book.specs.Flight.{InFlightFacts, in_flight}
use Rattle.event_book.specs.Facts.{Facts, facts_after, facts_over, start_of}
use Rattle.event_book.specs.Logs.{Logs}
use Rattle.lease_model.specs.Leases.{LeaderKey}
use Rattle.lease_model.specs.Past.{extended_by}
use Rattle.event_book.specs.Kinds.{AllAre}
use Rattle.lease_model.specs.Showing.{granted_events, refused_events, read_events}
use Rattle.lease_model.specs.Stores.{IsSpannedTxn, IsSpanned}
use Rattle.lease_book.specs.Groups.{IsMemberEnd, IsOfMembers, AreNumberedAbove}
use Rattle.commit_actions.specs.Past.{Past, Query, first_past, leader_revision, past_after, past_over, query_of}
use Rattle.lease_book.specs.Flights as lease_causes
use Rattle.lease_book.proofs.Groups as lease_groups
use Rattle.commit_book.specs.Keys.{IsSameKeys}
use Rattle.commit_book.specs.Flights.{is_leasing, IsNamed, IsWritten, Answers, AreAnswered, IsAnswered, AreCausal, IsSameBook}
use Rattle.commit_book.proofs.Deciding.{granted-leader}
use Rattle.commit_book.proofs.Flights.{flight-first, flight-by, request-asked}
use Rattle.commit_book.proofs.Keys.{keys-first, keys-by}

pub book-first : (logs : Logs) (required : List Required) (confirmed : List (List (Option Lsn))) (first : Settings)
    (names : List Name) (base : ℕ) → IsSameBook (first_past logs required confirmed) (start_of first names base)
book-first logs required confirmed first names base = record {
  store = keys-first logs required confirmed first names base;
  flight = flight-first logs required confirmed first names base;
}

pub book-by : (past : Past) (facts : Facts) (kind : EventKind) → IsSpanned kind
    → lease_causes.IsCausal past.lease facts kind → IsAnswered past facts kind → IsSameBook past facts
    → IsSameBook (past_after past kind) (facts_after facts kind)
book-by past facts kind span causal answers old = record {
  store = keys-by past facts kind span old.store;
  flight = flight-by past facts kind causal answers old.store old.flight;
}

pub book-after : (past : Past) (facts : Facts) (events : List Event) → AreCausal past facts events
    → IsSameBook past facts → IsSameBook (past_over past events) (facts_over facts events)
book-after past facts [] causal old = old
book-after past facts (event ∷ events) causal old =
    book-after (past_after past event.kind) (facts_after facts event.kind) events (causal.0.1.1, causal.1.1)
    (book-by past facts event.kind causal.0.0 causal.0.1.0 causal.1.0 old)

answered-front : (past : Past) (facts : Facts) (front rest : List Event)
    → AreAnswered past facts (front ++ rest) → AreAnswered past facts front
answered-front past facts [] rest answered = tt
answered-front past facts (event ∷ front) rest answered =
    (answered.0, answered-front (past_after past event.kind) (facts_after facts event.kind) front rest answered.1)

pub causal-front : (past : Past) (facts : Facts) (front rest : List Event)
    → AreCausal past facts (front ++ rest) → AreCausal past facts front
causal-front past facts front rest causal =
    (lease_groups.causal-front past.lease facts front rest causal.0, answered-front past facts front rest causal.1)

-- ---- a delivery to the key store
-- what a request asks has its name, and is for the lease where the key store says so
create-leasing : (member incarnation sequence : ℕ) (info : MemberInfo) (ttl : Ticks) (failsafe sync : Option Expected)
    → is_leasing (query_of member incarnation sequence (txns.Lease (lease_txns.Create info ttl failsafe sync))) ≡ true
create-leasing member incarnation sequence info ttl failsafe None = refl
create-leasing member incarnation sequence info ttl failsafe (Some sync) = refl

renew-leasing : (member incarnation sequence revision : ℕ) (info : MemberInfo) (ttl : Ticks)
    (status : Option Lsn) (row : Option HistoryRow) (failsafe : Option MemberSet)
    → is_leasing (query_of member incarnation sequence
    (txns.Lease (lease_txns.Renew revision info ttl status row failsafe)))
    ≡ true
renew-leasing member incarnation sequence revision info ttl status row None = refl
renew-leasing member incarnation sequence revision info ttl status row (Some members) = refl

leasing-is : (member incarnation sequence : ℕ) (txn : Txn)
    → is_leasing (query_of member incarnation sequence txn) ≡ is_lease txn
leasing-is member incarnation sequence (txns.Lease (lease_txns.Create info ttl failsafe sync)) =
    create-leasing member incarnation sequence info ttl failsafe sync
leasing-is member incarnation sequence (txns.Lease (lease_txns.Renew revision info ttl status row failsafe)) =
    renew-leasing member incarnation sequence revision info ttl status row failsafe
leasing-is member incarnation sequence (txns.Sync (sync_txns.Claim revision sync)) = refl
leasing-is member incarnation sequence (txns.Sync (sync_txns.SetSync revision sync standbys may_lack)) = refl
leasing-is member incarnation sequence (txns.Sync (sync_txns.DropSync revision sync)) = refl
leasing-is member incarnation sequence _ = refl

create-named : (member incarnation sequence : ℕ) (info : MemberInfo) (ttl : Ticks) (failsafe sync : Option Expected)
    → IsNamed member incarnation sequence
    (query_of member incarnation sequence (txns.Lease (lease_txns.Create info ttl failsafe sync)))
create-named member incarnation sequence info ttl failsafe None = tt
create-named member incarnation sequence info ttl failsafe (Some sync) = (refl, (refl, refl))

renew-named : (member incarnation sequence revision : ℕ) (info : MemberInfo) (ttl : Ticks)
    (status : Option Lsn) (row : Option HistoryRow) (failsafe : Option MemberSet)
    → IsNamed member incarnation sequence
    (query_of member incarnation sequence (txns.Lease (lease_txns.Renew revision info ttl status row failsafe)))
renew-named member incarnation sequence revision info ttl status row None = tt
renew-named member incarnation sequence revision info ttl status row (Some members) = refl

named-is : (member incarnation sequence : ℕ) (txn : Txn)
    → IsNamed member incarnation sequence (query_of member incarnation sequence txn)
named-is member incarnation sequence (txns.Lease (lease_txns.Create info ttl failsafe sync)) =
    create-named member incarnation sequence info ttl failsafe sync
named-is member incarnation sequence (txns.Lease (lease_txns.Renew revision info ttl status row failsafe)) =
    renew-named member incarnation sequence revision info ttl status row failsafe
named-is member incarnation sequence (txns.Sync (sync_txns.Claim revision sync)) = (refl, (refl, refl))
named-is member incarnation sequence (txns.Sync (sync_txns.SetSync revision sync standbys may_lack)) =
    (refl, (refl, refl))
named-is member incarnation sequence _ = tt

-- what is granted is written
abbrev Granted : Past → ℕ → Member → Txn → List Name → Past
Granted past i by txn standbys = past_after past (kinds.Store (stores.Granted i by txn standbys))

create-written : (past : Past) (i : ℕ) (by : Member) (incarnation sequence : ℕ) (info : MemberInfo)
    (ttl : Ticks) (failsafe sync : Option Expected) (standbys : List Name)
    → IsWritten (Granted past i by (txns.Lease (lease_txns.Create info ttl failsafe sync)) standbys)
    (query_of by.id.number incarnation sequence (txns.Lease (lease_txns.Create info ttl failsafe sync)))
create-written past i by incarnation sequence info ttl failsafe None standbys = refl
create-written past i by incarnation sequence info ttl failsafe (Some sync) standbys = refl

renew-written : (past : Past) (i : ℕ) (by : Member) (incarnation sequence revision : ℕ) (info : MemberInfo)
    (ttl : Ticks) (status : Option Lsn) (row : Option HistoryRow) (failsafe : Option MemberSet)
    (standbys : List Name) (key : LeaderKey) → past.lease.leader ≡ Some key
    → IsWritten (Granted past i by (txns.Lease (lease_txns.Renew revision info ttl status row failsafe)) standbys)
    (query_of by.id.number incarnation sequence (txns.Lease (lease_txns.Renew revision info ttl status row failsafe)))
renew-written past i by incarnation sequence revision info ttl status row None standbys key is =
    ap (λ (l : Option LeaderKey). leader_revision (extended_by past.lease.clock (past.lease.revision + 1) ttl.0 l)) is
renew-written past i by incarnation sequence revision info ttl status row (Some members) standbys key is =
    ap (λ (l : Option LeaderKey). leader_revision (extended_by past.lease.clock (past.lease.revision + 1) ttl.0 l)) is

written-is : (past : Past) (facts : Facts) (i : ℕ) (by : Member) (incarnation sequence : ℕ) (txn : Txn)
    (standbys : List Name) → IsSameKeys past facts → decision_on facts.keys facts.clock txn ≡ Granting
    → IsWritten (Granted past i by txn standbys) (query_of by.id.number incarnation sequence txn)
written-is past facts i by incarnation sequence (txns.Lease (lease_txns.Create info ttl failsafe sync)) standbys same
    granted =
    create-written past i by incarnation sequence info ttl failsafe sync standbys
written-is past facts i by incarnation sequence
    (txns.Lease (lease_txns.Renew revision info ttl status row failsafe)) standbys same
    granted =
    let key = granted-leader past facts revision same granted in
    renew-written past i by incarnation sequence revision info ttl status row failsafe standbys key.0 key.1
written-is past facts i by incarnation sequence (txns.Sync (sync_txns.Claim revision sync)) standbys same granted = refl
written-is past facts i by incarnation sequence
    (txns.Sync (sync_txns.SetSync revision sync members may_lack)) standbys same
    granted =
    refl
written-is past facts i by incarnation sequence _ standbys same granted = tt

pub granted-causal : (past : Past) (facts : Facts) (tick : Ticks) (i j : ℕ) (carried : InFlightFacts)
    (by : Member) (incarnation sequence : ℕ) (txn : Txn) (standbys : List Name) → IsSameBook past facts
    → in_flight facts.flight i ≡ Some carried → carried.message ≡ record {
      from = ends.Member by;
      to = ends.Store;
      incarnation = incarnation;
      sequence = sequence;
      body = bodies.Request txn;
    }
    → facts.sent < j → IsSpannedTxn txn → decision_on facts.keys facts.clock txn ≡ Granting
    → AreCausal past facts (granted_events tick i j by incarnation sequence txn standbys)
granted-causal past facts tick i j carried by incarnation sequence txn standbys old here is above span granted =
    let asked : past.asked i ≡ query_of by.id.number incarnation sequence txn =
    request-asked past facts i carried by incarnation sequence txn old.flight here is in (
      lease_groups.granted-causal past.lease facts tick i j carried by incarnation sequence txn standbys
          old.flight.lease here is above span,
      (
        tt,
        (
          tt,
          (
            record {
              before = old.flight.lease.flown i carried here;
              named = subst (λ (q : Query). IsNamed by.id.number incarnation sequence q) (sym asked)
                  (named-is by.id.number incarnation sequence txn);
              leasing = ap is_leasing asked ∙ leasing-is by.id.number incarnation sequence txn;
              written = subst (λ (q : Query). IsWritten (Granted past i by txn standbys) q) (sym asked)
                  (written-is past facts i by incarnation sequence txn standbys old.store granted);
            },
            tt,
          ),
        ),
      ),
    )

pub refused-causal : (past : Past) (facts : Facts) (tick : Ticks) (i j : ℕ) (by : Member)
    (incarnation sequence : ℕ) (request : TxnKind) (key : Key) (found : Expected) → facts.sent < j
    → AreCausal past facts (refused_events tick i j by incarnation sequence request key found)
refused-causal past facts tick i j by incarnation sequence request key found above = (
  lease_groups.refused-causal past.lease facts tick i j by incarnation sequence request key found above,
  (tt, (tt, (tt, tt))),
)

pub read-causal : (past : Past) (facts : Facts) (tick : Ticks) (i j : ℕ) (by : Member) (incarnation sequence : ℕ)
    → facts.sent < j → AreCausal past facts (read_events tick i j by incarnation sequence)
read-causal past facts tick i j by incarnation sequence above =
    (lease_groups.read-causal past.lease facts tick i j by incarnation sequence above, (tt, (tt, tt)))

-- ---- a tick, a loss, a delivery to an agent, and all that its input brings
member-answers : (past : Past) (last : ℕ) (from to : LinkEnd) (incarnation sequence : ℕ) (body : Body)
    → IsMemberEnd from → Answers past last from to incarnation sequence body
member-answers past last (ends.Member by) to incarnation sequence body is = tt
member-answers past last ends.Store to incarnation sequence body is = absurd is

members-answered : (past : Past) (facts : Facts) (kind : EventKind) → IsOfMembers kind → IsAnswered past facts kind
members-answered past facts (kinds.Message (Sent number message)) is =
    member-answers past facts.sent message.from message.to message.incarnation message.sequence message.body is
members-answered past facts (kinds.Message (Delivered number)) is = tt
members-answered past facts (kinds.Message (Lost number)) is = tt
members-answered past facts _ is = tt

own-answered : (past : Past) (facts : Facts) (events : List Event) → AllAre IsOfMembers events
    → AreAnswered past facts events
own-answered past facts [] all = tt
own-answered past facts (event ∷ events) all = (
  members-answered past facts event.kind all.0,
  own-answered (past_after past event.kind) (facts_after facts event.kind) events all.1,
)

pub own-causal : (past : Past) (facts : Facts) (events : List Event) → AllAre IsOfMembers events
    → AreNumberedAbove facts.sent events → AreCausal past facts events
own-causal past facts events all numbered =
    (lease_groups.own-causal past.lease facts events all numbered, own-answered past facts events all)
