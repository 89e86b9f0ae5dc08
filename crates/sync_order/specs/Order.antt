-- The order of required lists and sync key, from the book alone (Patroni, "Replication modes").
use Rattle.std.specs.Prelude.{ℕ, ◌≡◌, ◌⊎◌, ◌≤◌, ◌++◌, ◌==◌, Bool, true, false, List, ◌∷◌, Option, Some, None, slice_get}
use Rattle.std.specs.FinMap.{find}
use Rattle.std.specs.Int.{bit_at}
use Rattle.pat_base.specs.declared.lsn.Lsn.{Lsn}
use Rattle.pat_base.specs.declared.member_set.MemberSet.{MemberSet}
use Rattle.pat_base.specs.declared.server_state.Required.{Required}
use Rattle.pat_base.specs.declared.server_state.Required.TheVariants as requireds
use Rattle.pat_base.specs.declared.ticks.Ticks.{Ticks}
use Rattle.pat_base.specs.declared.name.Name.{Name}
use Rattle.store_keys.specs.declared.key.Key.TheVariants as keys
use Rattle.store_keys.specs.declared.txn.Expected.{Expected}
use Rattle.store_keys.specs.declared.txn.Expected.TheVariants.{Revision}
use Rattle.store_keys.specs.declared.txn.Txn.TheVariants as txns
use Rattle.store_keys.specs.declared.txn.SyncTxn.TheVariants as sync_txns
use Rattle.store_keys.specs.declared.value.KeyEntry.{KeyEntry}
use Rattle.store_keys.specs.declared.value.SyncKey.{SyncKey}
use Rattle.store_keys.specs.declared.value.Value.TheVariants as values
use Rattle.lease_store.specs.KeyOrder.{key_cmp}
use Rattle.lease_store.specs.Keys.{Keys}
use Rattle.event_book.specs.declared.event.Event.{Event}
use Rattle.event_book.specs.declared.event.EventKind.TheVariants as kinds
use Rattle.event_book.specs.declared.event.MessageEvent.TheVariants as messages
use Rattle.event_book.specs.declared.event.StoreEvent.TheVariants as stores
use Rattle.event_book.specs.declared.link.LinkEnd.{LinkEnd}
use Rattle.event_book.specs.declared.link.LinkEnd.TheVariants as ends
use Rattle.event_book.specs.declared.member.Member.{Member}
use Rattle.event_book.specs.declared.message.Body.TheVariants as bodies
use Rattle.event_book.specs.Facts.{Facts, facts_over}
use Rattle.event_book.specs.Logs.{logs_in}
use Rattle.event_book.specs.Required.{confirmed_in, confirmed_over, required_in, required_over}
use Rattle.event_book.specs.Writers.{AcceptsWrites}
use Rattle.sync_order.specs.Grown.{grown_over}

-- the key store holds this sync key, under this revision
pub record HoldsSync (store : Keys) (key : SyncKey) (revision : ℕ) : Type 0 where
  pub stored : KeyEntry
  pub is : find key_cmp keys.Sync store.pairs ≡ Some stored
  pub value : stored.value ≡ values.Sync key
  pub written : stored.revision ≡ revision

-- the set has the member of this number
abbrev pub has : MemberSet → ℕ → Bool
has set n = bit_at set.bits n == 1

-- commits that wait so wait for this member
abbrev pub Awaits : Option Required → ℕ → Type 0
Awaits (Some (requireds.All members)) n = has members n ≡ true
Awaits _ n = ⊥

-- this position of a member, of which a server knows, is at or past that one
abbrev pub Reaches : ℕ → Option (Option Lsn) → Type 0
Reaches position (Some (Some end)) = position ≤ end.position
Reaches position _ = ⊥

-- of these positions, which members confirmed to a server, that of this member is there, and at or past that one
abbrev pub HasConfirmed : ℕ → Option (List (Option Lsn)) → ℕ → Type 0
HasConfirmed position None n = ⊥
HasConfirmed position (Some positions) n = Reaches position (slice_get positions n)

-- the sync key names this member as the leader
pub record IsLeader (store : Keys) (n : ℕ) : Type 0 where
  pub key : SyncKey
  pub revision : ℕ
  pub is : HoldsSync store key revision
  pub leader : key.leader.number ≡ n

-- the sync key, where there is one, names this member, as the leader or as a standby
abbrev pub IsNamed : Keys → ℕ → Type 0
IsNamed store n = (key : SyncKey) (revision : ℕ) → HoldsSync store key revision
    → (key.leader.number ≡ n) ⊎ (has key.standbys n ≡ true)

-- whom the commits of this server wait for, and which positions were
-- confirmed to it since it last began, at the end of this book
abbrev pub required_at : Facts → List Event → ℕ → Option Required
required_at start book server = slice_get (required_over (required_in start.servers) book) server

abbrev pub confirmed_at : Facts → List Event → ℕ → Option (List (Option Lsn))
confirmed_at start book server = slice_get (confirmed_over (confirmed_in start.servers) book) server

-- where the log of this server ended when its required list last grew,
-- at the end of this book: 0 where it has named nobody since
abbrev pub grown_at : Facts → List Event → ℕ → ℕ
grown_at start book = grown_over (required_in start.servers) (logs_in start) (λ n. 0) book

-- at the end of this book the sync key names each server that accepts
-- writes as the leader, and its commits wait for each standby there
pub record IsInOrder (start : Facts) (book : List Event) : Type 0 where
  pub led : (server : ℕ) → AcceptsWrites book server → IsLeader (facts_over start book).keys server
  pub awaited : (server : ℕ) → AcceptsWrites book server → (key : SyncKey) (revision : ℕ)
      → HoldsSync (facts_over start book).keys key revision
      → (standby : ℕ) → has key.standbys standby ≡ true → Awaits (required_at start book server) standby

-- who asks to publish these standbys compares the present sync key; its commits wait for each of them;
-- and each that isn't in that key has confirmed the end that the leader's log had when its required
-- list last grew, and the position that the leader noted then, or when it took over its server since
pub record PublishesInOrder (start : Facts) (book : List Event) (leader position : ℕ) (compared : Expected)
    (standbys : MemberSet) : Type 0 where
  pub key : SyncKey
  pub revision : ℕ
  pub is : HoldsSync (facts_over start book).keys key revision
  pub compares : compared ≡ Revision revision
  pub awaited : (standby : ℕ) → has standbys standby ≡ true → Awaits (required_at start book leader) standby
  pub confirmed : (standby : ℕ) → has standbys standby ≡ true → has key.standbys standby ≡ false
      → HasConfirmed (grown_at start book leader) (confirmed_at start book leader) standby
  pub noted : (standby : ℕ) → has standbys standby ≡ true → has key.standbys standby ≡ false
      → HasConfirmed position (confirmed_at start book leader) standby

-- required lists and sync key were in order throughout this book, where
-- members noted these positions: what each had noted behind a front of it
pub record KeepsOrder (start : Facts) (noted : List Event → ℕ → ℕ) (book : List Event) : Type 0 where
  -- at its end
  pub at_end : IsInOrder start book
  -- a claim of the sync key was granted to whom that named, or where there was none
  pub claims : (front back : List Event) (tick : Ticks) (number leader : ℕ) (by : Member) (sync : Expected)
      (names : List Name)
      → front
      ++ record {
        tick = tick;
        kind = kinds.Store (stores.Granted number by (txns.Sync (sync_txns.Claim leader sync)) names);
      } ∷ back
      ≡ book
      → IsNamed (facts_over start front).keys by.id.number
  -- who asked to publish standbys did so in order
  pub publishes : (front back : List Event) (tick : Ticks) (number incarnation sequence leader : ℕ)
      (by : Member) (to : LinkEnd) (sync : Expected) (standbys : MemberSet) (may_lack : Option ℕ)
      → front ++ record {
        tick = tick;
        kind = kinds.Message (messages.Sent number (record {
          from = ends.Member by;
          to = to;
          incarnation = incarnation;
          sequence = sequence;
          body = bodies.Request (txns.Sync (sync_txns.SetSync leader sync standbys may_lack));
        }));
      } ∷ back
      ≡ book
      → PublishesInOrder start front by.id.number (noted front by.id.number) sync standbys
