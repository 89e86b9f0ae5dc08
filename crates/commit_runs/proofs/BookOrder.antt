-- Required lists and sync key that the law of commits has in order are so by the book alone.
use Rattle.std.proofs.Common.{ℕ, ◌≡◌, ◌⊎◌, ◌++◌, Bool, true, false, List, [], ◌∷◌, Option, Some, None, slice_get, refl, ◌∙◌, ap, sym, subst}
use Rattle.std.specs.FinMap.{find}
use Rattle.pat_base.specs.declared.lsn.Lsn.{Lsn}
use Rattle.pat_base.specs.declared.member_set.MemberSet.{MemberSet}
use Rattle.pat_base.specs.declared.server_state.Required.{Required}
use Rattle.pat_base.specs.declared.server_state.Required.TheVariants as requireds
use Rattle.lease_store.specs.Keys.{Keys}
use Rattle.lease_store.specs.KeyOrder.{key_cmp}
use Rattle.store_keys.specs.declared.key.Key.TheVariants as keys
use Rattle.store_keys.specs.declared.txn.Expected.{Expected}
use Rattle.store_keys.specs.declared.txn.Expected.TheVariants.{Absent, Revision}
use Rattle.store_keys.specs.declared.txn.Txn.TheVariants as txns
use Rattle.store_keys.specs.declared.txn.SyncTxn.TheVariants as sync_txns
use Rattle.store_keys.specs.declared.value.SyncKey.{SyncKey as StoredSync}
use Rattle.store_keys.specs.declared.value.Value.{Value}
use Rattle.lease_store.proofs.Fences.{kept_first}
use Rattle.script_model.specs.Script.{HeadText}
use Rattle.event_book.specs.declared.event.Event.{Event}
use Rattle.event_book.specs.declared.event.EventKind.TheVariants as kinds
use Rattle.event_book.specs.declared.event.MessageEvent.TheVariants as messages
use Rattle.event_book.specs.declared.event.StoreEvent.TheVariants as stores
use Rattle.event_book.specs.declared.link.LinkEnd.TheVariants as ends
use Rattle.event_book.specs.declared.message.Body.TheVariants as bodies
use Rattle.event_book.specs.Facts.{facts_over}
use Rattle.event_book.specs.Required.{confirmed_over, required_over}
use Rattle.event_book.specs.Functions.{set_members}
use Rattle.lease_model.proofs.Tools.{none-some, some-is}
use Rattle.cluster_model.specs.Cluster.{cluster_after, cluster_over}
use Rattle.cluster_model.specs.Starting.{cluster_of}
use Rattle.cluster_model.specs.State.{Cluster}
use Rattle.commit_actions.specs.Stored.{key_seen}
use Rattle.commit_actions.specs.Carried.{IsLed, NamesMember as NamesOne}
use Rattle.commit_actions.specs.Keys.{SyncKey}
use Rattle.commit_actions.specs.Past.{Past, confirmers_of, past_after, past_over, position_in, position_of, publish_request, revision_in}
use Rattle.commit_actions.specs.States.{Reaches as ReachesSeen}
use Rattle.commit_book.specs.Keys.{sync_key_of, sync_value}
use Rattle.commit_showing.specs.Order.{IsAwaiting, IsConfirmer}
use Rattle.commit_showing.specs.Requests.{PublishesAwaited}
use Rattle.commit_book.proofs.SyncKeys.{IsSameSync, entry-holds, sync-over}
use Rattle.commit_parts.specs.Ordered.{AllInOrder, HappensInOrder, StaysInOrder}
use Rattle.commit_parts.specs.Reading.{past_of}
use Rattle.commit_runs.specs.Runs.{noted_in, start_in}
use Rattle.commit_runs.proofs.Holding.{book-writes}
use Rattle.sync_order.specs.Order.{Awaits, HasConfirmed, HoldsSync, IsInOrder, IsLeader, IsNamed, KeepsOrder, PublishesInOrder, Reaches, confirmed_at, grown_at, has, required_at}
use Rattle.sync_order.specs.Grown.{grown_over}

-- ---- what a book leaves
past-required : (past : Past) (book : List Event) → (past_over past book).required ≡ required_over past.required book
past-required past [] = refl
past-required past (event ∷ book) = past-required (past_after past event.kind) book

past-confirmed : (past : Past) (book : List Event)
    → (past_over past book).confirmed ≡ confirmed_over past.confirmed book
past-confirmed past [] = refl
past-confirmed past (event ∷ book) = past-confirmed (past_after past event.kind) book

past-grown : (past : Past) (book : List Event)
    → (past_over past book).grown ≡ grown_over past.required past.logs past.grown book
past-grown past [] = refl
past-grown past (event ∷ book) = past-grown (past_after past event.kind) book

module _ (head : HeadText) (book : List Event) where
  abbrev P : Past
  P = past_of head book

  abbrev Store : Keys
  Store = (facts_over (start_in head) book).keys

  same : IsSameSync P (facts_over (start_in head) book)
  same = sync-over (past_of head []) (start_in head) book
      (record { revision = refl; sync = refl; kept = kept_first head.config; endless = tt })

  required-same : (server : ℕ) → slice_get P.required server ≡ required_at (start_in head) book server
  required-same server = ap (λ (l : List Required). slice_get l server) (past-required (past_of head []) book)

  confirmed-same : (server : ℕ) → slice_get P.confirmed server ≡ confirmed_at (start_in head) book server
  confirmed-same server =
      ap (λ (l : List (List (Option Lsn))). slice_get l server) (past-confirmed (past_of head []) book)

  grown-same : (server : ℕ) → P.grown server ≡ grown_at (start_in head) book server
  grown-same server = ap (λ (f : ℕ → ℕ). f server) (past-grown (past_of head []) book)

  -- what the law reads of the sync key is what the key store holds
  record Held (key : SyncKey) : Type 0 where
    held : StoredSync
    is : HoldsSync Store held key.revision
    leader : held.leader.number ≡ key.leader
    standbys : set_members held.standbys ≡ key.standbys

  holds : (key : SyncKey) → P.sync ≡ Some key → Held key
  holds key is =
      let of = entry-holds (find key_cmp keys.Sync Store.pairs) key (sym same.sync ∙ is) in
      record {
        held = of.held;
        is = record { stored = of.stored; is = of.is; value = of.value; written = of.revision };
        leader = of.leader;
        standbys = of.standbys;
      }

  reads : (key : StoredSync) (revision : ℕ) → HoldsSync Store key revision → P.sync ≡ Some (key_seen key revision)
  reads key revision holds =
      same.sync ∙ ap sync_key_of holds.is ∙ ap (λ (v : Value). sync_value v holds.stored.revision) holds.value
      ∙ ap (λ (r : ℕ). Some (key_seen key r)) holds.written

  pub leader-by : (server : ℕ) → IsLed P.sync server → IsLeader Store server
  leader-by server led = let h = holds led.key led.is in
      record { key = h.held; revision = led.key.revision; is = h.is; leader = h.leader ∙ led.leader }

  named-as : (sync : Option SyncKey) (n : ℕ) (key : StoredSync) (revision : ℕ) → sync ≡ Some (key_seen key revision)
      → NamesOne sync n → (key.leader.number ≡ n) ⊎ (has key.standbys n ≡ true)
  named-as sync n key revision is named = subst (λ (o : Option SyncKey). NamesOne o n) is named

  pub named-by : (n : ℕ) → NamesOne P.sync n → IsNamed Store n
  named-by n named key revision holds = named-as P.sync n key revision (reads key revision holds) named

-- ---- what is awaited, and confirmed
awaits-by : (required : Option Required) (n : ℕ) → IsConfirmer (confirmers_of required) n → Awaits required n
awaits-by None n awaited = awaited
awaits-by (Some requireds.Nobody) n awaited = awaited
awaits-by (Some requireds.AnyOne) n awaited = awaited
awaits-by (Some (requireds.AtLeast number of)) n awaited = awaited
awaits-by (Some (requireds.All members)) n awaited = awaited

reaches-in : (position : ℕ) (found : Option (Option Lsn)) → ReachesSeen position (position_in found)
    → Reaches position found
reaches-in position None reaches = reaches
reaches-in position (Some None) reaches = reaches
reaches-in position (Some (Some end)) reaches = reaches

reaches-by : (position : ℕ) (positions : Option (List (Option Lsn))) (n : ℕ)
    → ReachesSeen position (position_of positions n) → HasConfirmed position positions n
reaches-by position None n reaches = reaches
reaches-by position (Some positions) n reaches = reaches-in position (slice_get positions n) reaches

compares-by : (sync : Expected) (revision : ℕ) → revision_in sync ≡ Some revision → sync ≡ Revision revision
compares-by Absent revision e = absurd (none-some revision e)
compares-by (Revision r) revision e = ap (λ (n : ℕ). Revision n) (some-is r revision e)

-- ---- at the end of a book, and at its events
ordered-by : (head : HeadText) (book : List Event) → IsAwaiting (past_of head book) → IsInOrder (start_in head) book
ordered-by head book seen = record {
  led = λ server writes. leader-by head book server (seen.led server (book-writes head book server ∙ writes));
  awaited = λ server writes key revision holds standby named.
      subst (λ (r : Option Required). Awaits r standby) (required-same head book server)
      (awaits-by (slice_get (past_of head book).required server) standby
      (seen.awaited server (key_seen key revision) (book-writes head book server ∙ writes)
      (reads head book key revision holds) standby named));
}

publishes-by : (head : HeadText) (book : List Event) (member incarnation sequence leader noted : ℕ)
    (sync : Expected) (standbys : MemberSet) (may_lack : Option ℕ)
    → PublishesAwaited (past_of head book) member noted
    (publish_request member incarnation sequence leader sync standbys may_lack) (set_members standbys)
    → PublishesInOrder (start_in head) book member noted sync standbys
publishes-by head book member incarnation sequence leader noted sync standbys may_lack seen =
    let held = holds head book seen.key seen.is in
    let new = λ (standby : ℕ) (added : has held.held.standbys standby ≡ false).
    ap (λ (f : ℕ → Bool). f standby) (sym held.standbys) ∙ added in
    record {
      key = held.held;
      revision = seen.key.revision;
      is = held.is;
      compares = compares-by sync seen.key.revision seen.compares;
      awaited = λ standby named.
          subst (λ (r : Option Required). Awaits r standby) (required-same head book member)
          (awaits-by (slice_get (past_of head book).required member) standby (seen.awaited standby named));
      confirmed = λ standby named added.
          subst (λ (grown : ℕ). HasConfirmed grown (confirmed_at (start_in head) book member) standby)
          (grown-same head book member)
          (subst (λ (p : Option (List (Option Lsn))). HasConfirmed ((past_of head book).grown member) p standby)
          (confirmed-same head book member)
          (reaches-by ((past_of head book).grown member) (slice_get (past_of head book).confirmed member) standby
          (seen.since standby named (new standby added))));
      noted = λ standby named added.
          subst (λ (p : Option (List (Option Lsn))). HasConfirmed noted p standby) (confirmed-same head book member)
          (reaches-by noted (slice_get (past_of head book).confirmed member) standby
          (seen.confirmed standby named (new standby added)));
    }

happens-at : (past : Past) (cluster : Cluster) (front back : List Event) (event : Event)
    → AllInOrder past cluster (front ++ event ∷ back)
    → HappensInOrder (past_over past front) (cluster_over cluster front) event.kind
happens-at past cluster [] back event all = all.0
happens-at past cluster (x ∷ front) back event all =
    happens-at (past_after past x.kind) (cluster_after cluster x.kind) front back event all.1

at-event : (head : HeadText) (book : List Event) → StaysInOrder head book
    → (front back : List Event) (event : Event) → front ++ event ∷ back ≡ book
    → HappensInOrder (past_of head front) (cluster_over (cluster_of head) front) event.kind
at-event head book seen front back event whole =
    happens-at (past_of head []) (cluster_of head) front back event
    (subst (λ (l : List Event). AllInOrder (past_of head []) (cluster_of head) l) (sym whole) seen.each)

pub order-by-book : (head : HeadText) (book : List Event) → StaysInOrder head book
    → KeepsOrder (start_in head) (noted_in head) book
order-by-book head book seen = record {
  at_end = ordered-by head book seen.now;
  claims = λ front back tick number leader by sync names whole.
      named-by head front by.id.number
      (at-event head book seen front back
      (record {
        tick = tick;
        kind = kinds.Store (stores.Granted number by (txns.Sync (sync_txns.Claim leader sync)) names);
      }) whole);
  publishes = λ front back tick number incarnation sequence leader by to sync standbys may_lack whole.
      publishes-by head front by.id.number incarnation sequence leader
      (noted_in head front by.id.number) sync standbys may_lack
      (at-event head book seen front back
      (record {
        tick = tick;
        kind = kinds.Message (messages.Sent number (record {
          from = ends.Member by;
          to = to;
          incarnation = incarnation;
          sequence = sequence;
          body = bodies.Request (txns.Sync (sync_txns.SetSync leader sync standbys may_lack));
        }));
      }) whole);
}
