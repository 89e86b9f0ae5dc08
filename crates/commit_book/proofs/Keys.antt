-- Each event keeps that the past has the keys as the key store of the book has them.
use Rattle.std.proofs.Common.{◌≡◌, ℕ, ◌+◌, ◌==◌, Bool, false, List, Option, Some, refl, ◌∙◌, ap, sym, subst}
use Rattle.std.proofs.Math.Path.{fun_ext}
use Rattle.std.proofs.lemmas.Nat.Bits.{bit_at-zero}
use Rattle.std.specs.FinMap.{find}
use Rattle.pat_base.specs.declared.lsn.Lsn.{Lsn}
use Rattle.pat_base.specs.declared.member_id.MemberId.{MemberId}
use Rattle.pat_base.specs.declared.name.Name.{Name}
use Rattle.pat_base.specs.declared.server_state.Required.{Required}
use Rattle.lease_store.specs.Answers.{present_pairs}
use Rattle.store_keys.specs.Settings.{Settings}
use Rattle.store_keys.specs.declared.key.Key.TheVariants as keys
use Rattle.store_keys.specs.declared.txn.Txn.{Txn}
use Rattle.store_keys.specs.declared.txn.Txn.TheVariants as txns
use Rattle.store_keys.specs.declared.txn.SyncTxn.TheVariants as sync_txns
use Rattle.store_keys.specs.declared.value.KeyEntry.{KeyEntry}
use Rattle.lease_store.specs.KeyOrder.{key_cmp}
use Rattle.lease_store.specs.Writes.{nobody}
use Rattle.lease_store.proofs.Keeping.{find_present}
use Rattle.lease_store.proofs.OneKey as one_key
use Rattle.event_book.specs.declared.event.EventKind.{EventKind}
use Rattle.event_book.specs.declared.event.EventKind.TheVariants as kinds
use Rattle.event_book.specs.declared.event.StoreEvent.TheVariants as stores
use Rattle.event_book.specs.declared.member.Member.{Member}
use Rattle.event_book.specs.Facts.{Facts, facts_after, start_of}
use Rattle.event_book.specs.Logs.{Logs}
use Rattle.event_book.specs.Functions.{set_members}
use Rattle.lease_model.specs.Stores.{IsEndless, IsSpanned}
use Rattle.lease_law.proofs.SameStore.{present-endless, same-by, same-first}
use Rattle.commit_actions.specs.Keys.{SyncKey, strict_quorum}
use Rattle.commit_actions.specs.Stored.{quorum_of, quorum_written}
use Rattle.commit_actions.specs.Past.{Past, first_past, past_after, sync_after_grant}
use Rattle.commit_book.specs.Keys.{sync_key_of, IsSameKeys}

pub keys-first : (logs : Logs) (required : List Required) (confirmed : List (List (Option Lsn))) (first : Settings)
    (names : List Name) (base : ℕ) → IsSameKeys (first_past logs required confirmed) (start_of first names base)
keys-first logs required confirmed first names base =
    record { lease = same-first first names base; sync = refl; endless = tt }

-- ---- the sync key
nobody-is : ◌≡◌ {A = ℕ → Bool} (λ n. false) (set_members nobody)
nobody-is = fun_ext (λ n. sym (ap (λ (x : ℕ). x == 1) (bit_at-zero n)))

-- and what a granted transaction says of its number the stored key says
pub granted-sync : (revision : ℕ) (by : MemberId) (txn : Txn) (found : Option KeyEntry)
    → sync_after_grant by.number revision (sync_key_of found) txn
    ≡ sync_key_of (one_key.sync_after revision by txn found)
unfolding quorum_of quorum_written
granted-sync revision by (txns.Sync (sync_txns.Claim compared sync)) found = ap
    (λ (s : ℕ → Bool). Some (record { leader = by.number; standbys = s; quorum = strict_quorum; revision = revision }))
    nobody-is
granted-sync revision by (txns.Sync (sync_txns.SetSync compared sync standbys may_lack)) found = refl
granted-sync revision by (txns.Sync (sync_txns.DropSync compared sync)) found = refl
granted-sync revision by _ found = refl

pub granted-endless : (revision : ℕ) (by : MemberId) (txn : Txn) (found : Option KeyEntry) → IsEndless found
    → IsEndless (one_key.sync_after revision by txn found)
granted-endless revision by (txns.Sync (sync_txns.Claim compared sync)) found e = refl
granted-endless revision by (txns.Sync (sync_txns.SetSync compared sync standbys may_lack)) found e = refl
granted-endless revision by (txns.Sync (sync_txns.DropSync compared sync)) found e = tt
granted-endless revision by _ found e = e

keys-granted : (past : Past) (facts : Facts) (number : ℕ) (by : Member) (txn : Txn) (standbys : List Name) → let kind =
    kinds.Store (stores.Granted number by txn standbys) in
    IsSpanned kind → IsSameKeys past facts → IsSameKeys (past_after past kind) (facts_after facts kind)
keys-granted past facts number by txn standbys = λ span same.
    let found = one_key.find_sync_after facts.keys facts.clock by.id txn in
    record {
      lease = same-by past.lease facts (kinds.Store (stores.Granted number by txn standbys)) span same.lease;
      sync = ap (λ (r : ℕ). sync_after_grant by.id.number (r + 1) past.sync txn) same.lease.revision
          ∙ ap (λ (k : Option SyncKey). sync_after_grant by.id.number (facts.keys.revision + 1) k txn) same.sync
          ∙ granted-sync (facts.keys.revision + 1) by.id txn (find key_cmp keys.Sync facts.keys.pairs)
          ∙ ap sync_key_of (sym found);
      endless = subst (λ (o : Option KeyEntry). IsEndless o) (sym found)
          (granted-endless (facts.keys.revision + 1) by.id txn (find key_cmp keys.Sync facts.keys.pairs) same.endless);
    }

-- what is found at the sync key among what is present
pub sync-present : (now : ℕ) (past : Past) (facts : Facts) → IsSameKeys past facts
    → find key_cmp keys.Sync (present_pairs now facts.keys.pairs) ≡ find key_cmp keys.Sync facts.keys.pairs
sync-present now past facts same = find_present now keys.Sync facts.keys.pairs same.lease.kept.order
    ∙ present-endless now (find key_cmp keys.Sync facts.keys.pairs) same.endless

keys-tick : (past : Past) (facts : Facts) → IsSameKeys past facts
    → IsSameKeys (past_after past kinds.Tick) (facts_after facts kinds.Tick)
keys-tick past facts same =
    let found = sync-present (facts.clock + 1) past facts same in
    record {
      lease = same-by past.lease facts kinds.Tick tt same.lease;
      sync = same.sync ∙ ap sync_key_of (sym found);
      endless = subst (λ (o : Option KeyEntry). IsEndless o) (sym found) same.endless;
    }

pub keys-by : (past : Past) (facts : Facts) (kind : EventKind) → IsSpanned kind → IsSameKeys past facts
    → IsSameKeys (past_after past kind) (facts_after facts kind)
keys-by past facts kinds.Tick span same = keys-tick past facts same
keys-by past facts (kinds.Store (stores.Granted number by txn standbys)) span same =
    keys-granted past facts number by txn standbys span same
keys-by past facts kind span same =
    record { lease = same-by past.lease facts kind span same.lease; sync = same.sync; endless = same.endless }
