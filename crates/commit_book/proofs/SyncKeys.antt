-- The past has the sync key as the key store of the book holds it, whatever happens.
use Rattle.std.proofs.Common.{◌≡◌, ℕ, ◌+◌, List, [], ◌∷◌, Option, Some, None, refl, ◌∙◌, ap, sym, subst}
use Rattle.std.specs.FinMap.{find}
use Rattle.pat_base.specs.declared.name.Name.{Name}
use Rattle.lease_store.specs.Kept.{IsKept}
use Rattle.lease_store.specs.KeyOrder.{key_cmp}
use Rattle.store_keys.specs.declared.key.Key.TheVariants as keys
use Rattle.store_keys.specs.declared.txn.Txn.{Txn}
use Rattle.store_keys.specs.declared.value.KeyEntry.{KeyEntry}
use Rattle.store_keys.specs.declared.value.SyncKey.{SyncKey as StoredSync}
use Rattle.store_keys.specs.declared.value.Value.{Value}
use Rattle.store_keys.specs.declared.value.Value.TheVariants as values
use Rattle.lease_store.proofs.Keeping.{find_present, kept_after, kept_present}
use Rattle.lease_store.proofs.OneKey as one_key
use Rattle.event_book.specs.declared.event.Event.{Event}
use Rattle.event_book.specs.declared.event.EventKind.{EventKind}
use Rattle.event_book.specs.declared.event.EventKind.TheVariants as kinds
use Rattle.event_book.specs.declared.event.StoreEvent.TheVariants as stores
use Rattle.event_book.specs.declared.member.Member.{Member}
use Rattle.event_book.specs.Facts.{Facts, facts_after, facts_over}
use Rattle.lease_model.specs.Stores.{IsEndless}
use Rattle.event_book.specs.Functions.{set_members}
use Rattle.lease_law.proofs.SameStore.{present-endless}
use Rattle.lease_model.proofs.Tools.{none-some, some-is}
use Rattle.commit_actions.specs.Keys.{SyncKey}
use Rattle.commit_actions.specs.Stored.{key_seen}
use Rattle.commit_actions.specs.Past.{Past, past_after, past_over, sync_after_grant}
use Rattle.commit_book.specs.Keys.{sync_key_of, sync_value}
use Rattle.commit_book.proofs.Keys.{granted-endless, granted-sync}

pub record IsSameSync (past : Past) (facts : Facts) : Type 0 where
  pub revision : past.lease.revision ≡ facts.keys.revision
  pub sync : past.sync ≡ sync_key_of (find key_cmp keys.Sync facts.keys.pairs)
  pub kept : IsKept facts.keys.pairs
  pub endless : IsEndless (find key_cmp keys.Sync facts.keys.pairs)

sync-granted : (past : Past) (facts : Facts) (number : ℕ) (by : Member) (txn : Txn) (standbys : List Name) → let kind =
    kinds.Store (stores.Granted number by txn standbys) in
    IsSameSync past facts → IsSameSync (past_after past kind) (facts_after facts kind)
sync-granted past facts number by txn standbys = λ same.
    let found = one_key.find_sync_after facts.keys facts.clock by.id txn in
    record {
      revision = ap (λ (r : ℕ). r + 1) same.revision;
      sync = ap (λ (r : ℕ). sync_after_grant by.id.number (r + 1) past.sync txn) same.revision
          ∙ ap (λ (k : Option SyncKey). sync_after_grant by.id.number (facts.keys.revision + 1) k txn) same.sync
          ∙ granted-sync (facts.keys.revision + 1) by.id txn (find key_cmp keys.Sync facts.keys.pairs)
          ∙ ap sync_key_of (sym found);
      kept = kept_after (facts.keys.revision + 1) facts.clock by.id txn facts.keys.pairs same.kept;
      endless = subst (λ (o : Option KeyEntry). IsEndless o) (sym found)
          (granted-endless (facts.keys.revision + 1) by.id txn (find key_cmp keys.Sync facts.keys.pairs) same.endless);
    }

sync-tick : (past : Past) (facts : Facts) → IsSameSync past facts
    → IsSameSync (past_after past kinds.Tick) (facts_after facts kinds.Tick)
sync-tick past facts same =
    let now : ℕ = facts.clock + 1 in
    let found = find_present now keys.Sync facts.keys.pairs same.kept.order
    ∙ present-endless now (find key_cmp keys.Sync facts.keys.pairs) same.endless in
    record {
      revision = same.revision;
      sync = same.sync ∙ ap sync_key_of (sym found);
      kept = kept_present now facts.keys.pairs same.kept;
      endless = subst (λ (o : Option KeyEntry). IsEndless o) (sym found) same.endless;
    }

sync-by : (past : Past) (facts : Facts) (kind : EventKind) → IsSameSync past facts
    → IsSameSync (past_after past kind) (facts_after facts kind)
sync-by past facts kinds.Tick same = sync-tick past facts same
sync-by past facts (kinds.Store (stores.Granted number by txn standbys)) same =
    sync-granted past facts number by txn standbys same
sync-by past facts (kinds.Store _) same =
    record { revision = same.revision; sync = same.sync; kept = same.kept; endless = same.endless }
sync-by past facts _ same =
    record { revision = same.revision; sync = same.sync; kept = same.kept; endless = same.endless }

pub sync-over : (past : Past) (facts : Facts) (book : List Event) → IsSameSync past facts
    → IsSameSync (past_over past book) (facts_over facts book)
sync-over past facts [] same = same
sync-over past facts (event ∷ book) same =
    sync-over (past_after past event.kind) (facts_after facts event.kind) book (sync-by past facts event.kind same)

-- ---- what is read of an entry
-- a sync key that the law reads is the one that the entry has
pub record IsOfEntry (found : Option KeyEntry) (key : SyncKey) : Type 0 where
  pub stored : KeyEntry
  pub is : found ≡ Some stored
  pub held : StoredSync
  pub value : stored.value ≡ values.Sync held
  pub leader : held.leader.number ≡ key.leader
  pub standbys : set_members held.standbys ≡ key.standbys
  pub revision : stored.revision ≡ key.revision

value-holds : (revision : ℕ) (value : Value) (key : SyncKey) → sync_value value revision ≡ Some key
    → (held : StoredSync) × (value ≡ values.Sync held) × (key_seen held revision ≡ key)
value-holds revision (values.Sync held) key e = (held, refl, some-is _ key e)
value-holds revision _ key e = absurd (none-some key e)

pub entry-holds : (found : Option KeyEntry) (key : SyncKey) → sync_key_of found ≡ Some key → IsOfEntry found key
entry-holds None key e = absurd (none-some key e)
entry-holds (Some stored) key e =
    let holds = value-holds stored.revision stored.value key e in
    record {
      stored = stored;
      is = refl;
      held = holds.0;
      value = holds.1;
      leader = ap (λ (k : SyncKey). k.leader) holds.2;
      standbys = ap (λ (k : SyncKey). k.standbys) holds.2;
      revision = ap (λ (k : SyncKey). k.revision) holds.2;
    }
