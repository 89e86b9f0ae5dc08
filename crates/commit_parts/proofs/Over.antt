-- Store, mode and requests of a cluster behind events.
use Rattle.std.proofs.Common.{arith, ℕ, ◌≡◌, ◌≤◌, ◌+◌, ◌++◌, List, [], ◌∷◌, true, Option, ◌∙◌, ap, sym, subst}
use Rattle.std.specs.FinMap.{find}
use Rattle.event_book.specs.declared.event.Event.{Event}
use Rattle.event_book.specs.declared.event.EventKind.{EventKind}
use Rattle.event_book.specs.declared.event.EventKind.TheVariants as kinds
use Rattle.event_book.specs.declared.event.MessageEvent.TheVariants.{Delivered, Lost, Sent}
use Rattle.event_book.specs.declared.event.StoreEvent.TheVariants as stores
use Rattle.event_book.specs.declared.message.Body.{Body}
use Rattle.event_book.specs.declared.message.Body.TheVariants as bodies
use Rattle.lease_store.specs.Answers.{present_pairs}
use Rattle.store_keys.specs.declared.key.Key.{Key}
use Rattle.store_keys.specs.declared.key.Key.TheVariants as keys
use Rattle.store_keys.specs.declared.txn.Txn.{Txn}
use Rattle.store_keys.specs.declared.txn.Txn.TheVariants as txns
use Rattle.store_keys.specs.declared.txn.SyncTxn.TheVariants as sync_txns
use Rattle.store_keys.specs.declared.value.KeyEntry.{KeyEntry}
use Rattle.lease_store.specs.KeyOrder.{key_cmp}
use Rattle.lease_law.proofs.Runs.{head-is, no-cons, tail-is}
use Rattle.lease_model.proofs.Tools.{both, none-some, some-is}
use Rattle.commit_actions.specs.Keys.{SyncKey, IsOfQuorum}
use Rattle.agent_commit_law.specs.Committing.{IsSynchronousBody, IsSynchronousTxn}
use Rattle.event_book.specs.Facts.{Facts}
use Rattle.event_book.specs.Flight.{InFlightFacts, snapshot_for}
use Rattle.cluster_model.specs.Cluster.{cluster_after, cluster_over}
use Rattle.cluster_model.specs.State.{Cluster}
use Rattle.commit_actions.specs.Past.{Past, past_after, past_over, sync_after_grant}
use Rattle.commit_actions.specs.States.{State}
use Rattle.commit_book.specs.Flights.{AreCausal, IsSameBook}
use Rattle.commit_book.specs.Keys.{IsSameKeys, sync_key_of}
use Rattle.commit_book.proofs.Groups.{book-by}
use Rattle.commit_book.proofs.Keys.{sync-present}
use Rattle.summary_model.specs.Claims.{KeepMode}
use Rattle.commit_parts.specs.Agents.{AreSynchronous, AsksAreNumbered, IsAskNumbered, TellsMembers}
use Rattle.commit_showing.specs.Order.{NamesMembers}
use Rattle.commit_parts.specs.Modes.{IsSynchronous}
use Rattle.commit_parts.proofs.Flights.{HoldsAsSent, all-after}
use Rattle.commit_parts.proofs.Modes.{synchronous-by}

-- what is sent, or granted, is asked as synchronous mode has it; and what one member
-- asks another has an incarnation and a number that its agents have given in this state
abbrev pub AsksSynchronously : State → ℕ → ℕ → EventKind → Type 0
AsksSynchronously s count quorum (kinds.Message (Sent number message)) = IsSynchronousBody count quorum message.body
    × IsAskNumbered s message.from message.incarnation message.sequence message.body
AsksSynchronously s count quorum (kinds.Store (stores.Granted number by txn standbys)) =
    IsSynchronousTxn count quorum txn
AsksSynchronously s count quorum _ = Unit {0}

-- what each of these events sends, or grants, is asked as synchronous mode has it; and what
-- one member asks another has a run and a number that its agents have given in this state
abbrev pub AskSynchronously : State → ℕ → ℕ → List Event → Type 0
AskSynchronously s count quorum [] = Unit {0}
AskSynchronously s count quorum (event ∷ events) =
    AsksSynchronously s count quorum event.kind × AskSynchronously s count quorum events

-- what the store keeps of synchronous mode, and the messages in
-- flight, of which questions to members are numbered in this state
pub record StoreFits (s : State) (count quorum : ℕ) (past : Past) (cluster : Cluster) : Type 0 where
  pub store : IsSameBook past cluster.facts
  pub mode : IsSynchronous cluster.facts
  pub strict : NamesMembers count quorum past.sync
  pub told : TellsMembers count quorum cluster.facts.flight
  pub requests : AreSynchronous count quorum cluster.facts.flight
  pub asks : AsksAreNumbered s cluster.facts.flight

requests-sent : (s : State) (count quorum : ℕ) (facts : Facts) (kind : EventKind)
    → AsksSynchronously s count quorum kind
    → HoldsAsSent (λ (carried : InFlightFacts). IsSynchronousBody count quorum carried.message.body) facts kind
requests-sent s count quorum facts (kinds.Message (Sent number message)) asks = asks.0
requests-sent s count quorum facts (kinds.Message (Delivered number)) asks = tt
requests-sent s count quorum facts (kinds.Message (Lost number)) asks = tt
requests-sent s count quorum facts _ asks = tt

-- a message in flight is numbered, if it asks another member
abbrev AsksNumbered : State → InFlightFacts → Type 0
AsksNumbered s carried =
    IsAskNumbered s carried.message.from carried.message.incarnation carried.message.sequence carried.message.body

asks-sent : (s : State) (count quorum : ℕ) (facts : Facts) (kind : EventKind)
    → AsksSynchronously s count quorum kind → HoldsAsSent (AsksNumbered s) facts kind
asks-sent s count quorum facts (kinds.Message (Sent number message)) asks = asks.1
asks-sent s count quorum facts (kinds.Message (Delivered number)) asks = tt
asks-sent s count quorum facts (kinds.Message (Lost number)) asks = tt
asks-sent s count quorum facts _ asks = tt

-- a write of the sync key names members, of which at most so many may lack a commit
none-below : (n : ℕ) → 0 ≤ n
none-below n = omega arith

strict-granted : (count quorum by revision : ℕ) (sync : Option SyncKey) (txn : Txn) → IsSynchronousTxn count quorum txn
    → NamesMembers count quorum sync → NamesMembers count quorum (sync_after_grant by revision sync txn)
strict-granted count quorum by revision sync (txns.Sync (sync_txns.Claim leader expected)) on old =
    λ key is. subst (IsOfQuorum count quorum) (some-is _ key is)
    (record { few = none-below quorum; members = λ n named. absurd (both named) })
strict-granted count quorum by revision sync (txns.Sync (sync_txns.SetSync leader expected standbys may_lack)) on old =
    λ key is. subst (IsOfQuorum count quorum) (some-is _ key is) (record { few = on.1; members = on.0 })
strict-granted count quorum by revision sync (txns.Sync (sync_txns.DropSync leader expected)) on old = absurd on
strict-granted count quorum by revision sync _ on old = old

strict-by : (s : State) (count quorum : ℕ) (past : Past) (kind : EventKind) → AsksSynchronously s count quorum kind
    → NamesMembers count quorum past.sync → NamesMembers count quorum (past_after past kind).sync
strict-by s count quorum past (kinds.Store (stores.Granted number by txn standbys)) on old =
    strict-granted count quorum by.id.number (past.lease.revision + 1) past.sync txn on old
strict-by s count quorum past _ on old = old

-- so each front of what is asked so leaves it
pub strict-front : (s : State) (count quorum : ℕ) (past : Past) (front back events : List Event)
    → front ++ back ≡ events → AskSynchronously s count quorum events → NamesMembers count quorum past.sync
    → NamesMembers count quorum (past_over past front).sync
strict-front s count quorum past [] back events e asks old = old
strict-front s count quorum past (x ∷ front) back [] e asks old = absurd (no-cons x (front ++ back) e)
strict-front s count quorum past (x ∷ front) back (y ∷ events) e asks old =
    strict-front s count quorum (past_after past x.kind) front back events (tail-is x y (front ++ back) events e) asks.1
    (strict-by s count quorum past x.kind
    (subst (λ (z : Event). AsksSynchronously s count quorum z.kind) (sym (head-is x y (front ++ back) events e)) asks.0)
    old)

-- a message in flight tells a sync key that names members, or none
abbrev TellsNames : ℕ → ℕ → InFlightFacts → Type 0
TellsNames count quorum carried = NamesMembers count quorum (sync_key_of (find key_cmp keys.Sync carried.snapshot))

-- what is sent tells the sync key of the store, or none
snapshot-names : (count quorum : ℕ) (body : Body) (pairs : List (Key × KeyEntry))
    → NamesMembers count quorum (sync_key_of (find key_cmp keys.Sync pairs))
    → NamesMembers count quorum (sync_key_of (find key_cmp keys.Sync (snapshot_for body pairs)))
snapshot-names count quorum bodies.Snapshot pairs old = old
snapshot-names count quorum (bodies.Granted request leased) pairs old = old
snapshot-names count quorum _ pairs old = λ key is. absurd (none-some key is)

told-sent : (count quorum : ℕ) (past : Past) (facts : Facts) (kind : EventKind) → IsSameKeys past facts
    → NamesMembers count quorum past.sync → HoldsAsSent (TellsNames count quorum) facts kind
told-sent count quorum past facts (kinds.Message (Sent number message)) same strict =
    let present : List (Key × KeyEntry) = present_pairs facts.clock facts.keys.pairs in
    let told : past.sync ≡ sync_key_of (find key_cmp keys.Sync present) = same.sync
    ∙ ap sync_key_of (sym (sync-present facts.clock past facts same)) in
    snapshot-names count quorum message.body present
    (subst (λ (o : Option SyncKey). NamesMembers count quorum o) told strict)
told-sent count quorum past facts _ same strict = tt

pub store-over : (s : State) (count quorum : ℕ) (past : Past) (cluster : Cluster) (events : List Event)
    → AreCausal past cluster.facts events → KeepMode true events → AskSynchronously s count quorum events
    → StoreFits s count quorum past cluster
    → StoreFits s count quorum (past_over past events) (cluster_over cluster events)
store-over s count quorum past cluster [] causal mode asks fits = fits
store-over s count quorum past cluster (event ∷ events) causal mode asks fits =
    store-over s count quorum (past_after past event.kind) (cluster_after cluster event.kind) events
    (causal.0.1.1, causal.1.1) mode.1 asks.1
    (record {
      store = book-by past cluster.facts event.kind causal.0.0 causal.0.1.0 causal.1.0 fits.store;
      mode = synchronous-by cluster.facts event.kind fits.store.flight.lease.order mode.0 fits.mode;
      strict = strict-by s count quorum past event.kind asks.0 fits.strict;
      told = all-after (TellsNames count quorum) cluster.facts fits.store.flight.lease.order fits.told event.kind
          (told-sent count quorum past cluster.facts event.kind fits.store.store fits.strict);
      requests = all-after (λ (carried : InFlightFacts). IsSynchronousBody count quorum carried.message.body)
          cluster.facts fits.store.flight.lease.order fits.requests event.kind
          (requests-sent s count quorum cluster.facts event.kind asks.0);
      asks = all-after (AsksNumbered s) cluster.facts fits.store.flight.lease.order fits.asks event.kind
          (asks-sent s count quorum cluster.facts event.kind asks.0);
    })
