-- What a granted transaction leaves at one key, without the others.
use Rattle.std.proofs.Common.{◌≡◌, ℕ, ◌+◌, ◌++◌, List, [], ◌∷◌, Option, Some, None, unwrap_or, refl, sym, ap, ◌∙◌, cond, Bool, true, false, not}
use Rattle.std.specs.Ordering.{eq_by_cmp}
use Rattle.std.specs.FinMap.{find}
use Rattle.pat_base.specs.declared.lsn.Lsn.{Lsn}
use Rattle.pat_base.specs.declared.member_id.MemberId.{MemberId}
use Rattle.pat_base.specs.declared.member_set.MemberSet.{MemberSet}
use Rattle.store_keys.specs.declared.key.Key.{Key}
use Rattle.store_keys.specs.declared.key.Key.TheVariants as keys
use Rattle.store_keys.specs.declared.txn.Txn.{Txn}
use Rattle.store_keys.specs.declared.txn.Txn.TheVariants as txns
use Rattle.store_keys.specs.declared.txn.LeaseTxn.TheVariants as lease_txns
use Rattle.store_keys.specs.declared.txn.OperatorTxn.TheVariants as operator_txns
use Rattle.store_keys.specs.declared.txn.SyncTxn.TheVariants as sync_txns
use Rattle.store_keys.specs.declared.value.HistoryRow.{HistoryRow}
use Rattle.store_keys.specs.declared.value.Value.{Value}
use Rattle.store_keys.specs.declared.value.Value.TheVariants as values
use Rattle.lease_store.specs.Keys.{Keys}
use Rattle.store_keys.specs.declared.value.KeyEntry.{KeyEntry}
use Rattle.lease_store.specs.KeyOrder.{key_cmp}
use Rattle.lease_store.specs.Writes.{Write, Sets, Leases, Extends, Deletes, extended_expiry, pairs_extended, pairs_after, pairs_over, writes_of, keys_after_grant, status_writes, row_writes, failsafe_writes, sync_value, nobody}
use Rattle.lease_store.proofs.Keeping.{find_put, find_without, same_key}

-- the same with an extended lease
abbrev pub renewed : ℕ → ℕ → Option KeyEntry → Option KeyEntry
renewed revision until None = None
renewed revision until (Some stored) =
    Some (record stored { revision = revision; expiry = extended_expiry until stored.expiry })

-- what is found at a key after a write
abbrev pub found_after : ℕ → ℕ → Key → Option KeyEntry → Write → Option KeyEntry
found_after revision now q found (Sets key value) =
    cond (eq_by_cmp key_cmp q key) (Some (record { value = value; revision = revision; expiry = None })) found
found_after revision now q found (Leases key value ttl) = cond (eq_by_cmp key_cmp q key)
    (Some (record { value = value; revision = revision; expiry = Some (record { 0 = now + ttl.0 }) })) found
found_after revision now q found (Extends key ttl) =
    cond (eq_by_cmp key_cmp q key) (renewed revision (now + ttl.0) found) found
found_after revision now q found (Deletes key) = cond (not (eq_by_cmp key_cmp key q)) found None

abbrev pub found_after_all : ℕ → ℕ → Key → Option KeyEntry → List Write → Option KeyEntry
found_after_all revision now q found [] = found
found_after_all revision now q found (write ∷ writes) =
    found_after_all revision now q (found_after revision now q found write) writes

pairs_extended-chosen : (b : Bool) (revision until : ℕ) (stored : KeyEntry) (found other : Option KeyEntry)
    → (b ≡ true → found ≡ other) → other ≡ Some stored
    → cond b (Some (record stored { revision = revision; expiry = extended_expiry until stored.expiry })) found
    ≡ cond b (renewed revision until found) found
pairs_extended-chosen true revision until stored found other same is =
    ap (renewed revision until) (sym (same refl ∙ is))
pairs_extended-chosen false revision until stored found other same is = refl

none-chosen : (b : Bool) (revision until : ℕ) (found other : Option KeyEntry) → (b ≡ true → found ≡ other)
    → other ≡ None → found ≡ cond b (renewed revision until found) found
none-chosen true revision until found other same is =
    same refl ∙ is ∙ ap (renewed revision until) (sym (same refl ∙ is))
none-chosen false revision until found other same is = refl

find-pairs_extended : (revision until : ℕ) (q key : Key) (es : List (Key × KeyEntry)) (found : Option KeyEntry)
    → find key_cmp key es ≡ found
    → find key_cmp q (pairs_extended revision until es key found)
    ≡ cond (eq_by_cmp key_cmp q key) (renewed revision until (find key_cmp q es)) (find key_cmp q es)
find-pairs_extended revision until q key es None is = none-chosen (eq_by_cmp key_cmp q key) revision until
    (find key_cmp q es) (find key_cmp key es) (λ same. ap (λ k. find key_cmp k es) (same_key q key same)) is
find-pairs_extended revision until q key es (Some stored) is =
    find_put q key (record stored { revision = revision; expiry = extended_expiry until stored.expiry }) es
    ∙ pairs_extended-chosen (eq_by_cmp key_cmp q key) revision until stored (find key_cmp q es)
    (find key_cmp key es) (λ same. ap (λ k. find key_cmp k es) (same_key q key same)) is

pub find_written : (revision now : ℕ) (q : Key) (es : List (Key × KeyEntry)) (write : Write)
    → find key_cmp q (pairs_after revision now es write) ≡ found_after revision now q (find key_cmp q es) write
find_written revision now q es (Sets key value) =
    find_put q key (record { value = value; revision = revision; expiry = None }) es
find_written revision now q es (Leases key value ttl) =
    find_put q key (record { value = value; revision = revision; expiry = Some (record { 0 = now + ttl.0 }) }) es
find_written revision now q es (Extends key ttl) =
    find-pairs_extended revision (now + ttl.0) q key es (find key_cmp key es) refl
find_written revision now q es (Deletes key) = find_without q key es

-- what is found at a key after all writes of a transaction
pub find_all_written : (revision now : ℕ) (q : Key) (es : List (Key × KeyEntry)) (writes : List Write)
    → find key_cmp q (pairs_over revision now es writes) ≡ found_after_all revision now q (find key_cmp q es) writes
find_all_written revision now q es [] = refl
find_all_written revision now q es (write ∷ writes) =
    find_all_written revision now q (pairs_after revision now es write) writes
    ∙ ap (λ found. found_after_all revision now q found writes) (find_written revision now q es write)

-- ---- the leader key
abbrev pub leader_after : ℕ → ℕ → MemberId → Txn → Option KeyEntry → Option KeyEntry
leader_after revision now by (txns.Lease (lease_txns.Create info ttl failsafe sync)) found =
    Some (record { value = values.Leader by; revision = revision; expiry = Some (record { 0 = now + ttl.0 }) })
leader_after revision now by (txns.Lease (lease_txns.Renew compared info ttl status row failsafe)) found =
    renewed revision (now + ttl.0) found
leader_after revision now by (txns.Lease (lease_txns.Release compared)) found = None
leader_after revision now by _ found = found

set-other : (revision now : ℕ) (q key : Key) (value : Value) (found : Option KeyEntry) (more : List Write)
    → eq_by_cmp key_cmp q key ≡ false
    → found_after_all revision now q found (Sets key value ∷ more) ≡ found_after_all revision now q found more
set-other revision now q key value found more other =
    ap (λ b. found_after_all revision now q
    (cond b (Some (record { value = value; revision = revision; expiry = None })) found) more)
    other

-- what a renewal carries beside its lease leaves a key alone that is none of these
carried : (revision now : ℕ) (q : Key) (found : Option KeyEntry) (status : Option Lsn)
    (row : Option HistoryRow) (failsafe : Option MemberSet) → eq_by_cmp key_cmp q keys.Status ≡ false
    → ((timeline : ℕ) → eq_by_cmp key_cmp q (keys.History timeline) ≡ false)
    → found_after_all revision now q found (status_writes status ++ (row_writes row ++ failsafe_writes failsafe))
    ≡ found_after_all revision now q found (failsafe_writes failsafe)
carried revision now q found None None failsafe status row = refl
carried revision now q found None (Some at) failsafe status row = set-other revision now q
    (keys.History at.timeline) (values.History at) found (failsafe_writes failsafe) (row at.timeline)
carried revision now q found (Some end) None failsafe status row =
    set-other revision now q keys.Status (values.Status end) found (failsafe_writes failsafe) status
carried revision now q found (Some end) (Some at) failsafe status row =
    set-other revision now q keys.Status (values.Status end) found
    (row_writes (Some at) ++ failsafe_writes failsafe) status
    ∙ set-other revision now q (keys.History at.timeline) (values.History at) found (failsafe_writes failsafe)
    (row at.timeline)

leader-carried : (revision now : ℕ) (found : Option KeyEntry) (failsafe : Option MemberSet)
    → found_after_all revision now keys.Leader found (failsafe_writes failsafe) ≡ found
leader-carried revision now found None = refl
leader-carried revision now found (Some members) = refl

leader-pairs_after : (revision now : ℕ) (by : MemberId) (txn : Txn) (found : Option KeyEntry)
    → found_after_all revision now keys.Leader found (writes_of by txn) ≡ leader_after revision now by txn found
leader-pairs_after revision now by (txns.Lease (lease_txns.Renew compared info ttl status row failsafe)) found =
    carried revision now keys.Leader (renewed revision (now + ttl.0) found) status row failsafe refl (λ timeline. refl)
    ∙ leader-carried revision now (renewed revision (now + ttl.0) found) failsafe
leader-pairs_after revision now by (txns.Sync (sync_txns.DropSync compared sync)) found = refl
leader-pairs_after revision now by (txns.Operators (operator_txns.DropFailover compared)) found = refl
leader-pairs_after revision now by _ found = refl

-- what a granted transaction leaves at the leader key
pub find_leader_after : (store : Keys) (now : ℕ) (by : MemberId) (txn : Txn)
    → find key_cmp keys.Leader (keys_after_grant store now by txn).pairs
    ≡ leader_after (store.revision + 1) now by txn (find key_cmp keys.Leader store.pairs)
find_leader_after store now by txn =
    find_all_written (store.revision + 1) now keys.Leader store.pairs (writes_of by txn)
    ∙ leader-pairs_after (store.revision + 1) now by txn (find key_cmp keys.Leader store.pairs)

-- ---- the failsafe key
abbrev pub failsafe_written : ℕ → Option MemberSet → Option KeyEntry → Option KeyEntry
failsafe_written revision None found = found
failsafe_written revision (Some members) found =
    Some (record { value = values.Failsafe members; revision = revision; expiry = None })

abbrev pub failsafe_after : ℕ → Txn → Option KeyEntry → Option KeyEntry
failsafe_after revision (txns.Lease (lease_txns.Renew compared info ttl status row failsafe)) found =
    failsafe_written revision failsafe found
failsafe_after revision _ found = found

failsafe-carried : (revision now : ℕ) (found : Option KeyEntry) (failsafe : Option MemberSet)
    → found_after_all revision now keys.Failsafe found (failsafe_writes failsafe)
    ≡ failsafe_written revision failsafe found
failsafe-carried revision now found None = refl
failsafe-carried revision now found (Some members) = refl

failsafe-pairs_after : (revision now : ℕ) (by : MemberId) (txn : Txn) (found : Option KeyEntry)
    → found_after_all revision now keys.Failsafe found (writes_of by txn) ≡ failsafe_after revision txn found
failsafe-pairs_after revision now by (txns.Lease (lease_txns.Renew compared info ttl status row failsafe)) found =
    carried revision now keys.Failsafe found status row failsafe refl (λ timeline. refl)
    ∙ failsafe-carried revision now found failsafe
failsafe-pairs_after revision now by (txns.Sync (sync_txns.DropSync compared sync)) found = refl
failsafe-pairs_after revision now by (txns.Operators (operator_txns.DropFailover compared)) found = refl
failsafe-pairs_after revision now by _ found = refl

-- what a granted transaction leaves at the failsafe key
pub find_failsafe_after : (store : Keys) (now : ℕ) (by : MemberId) (txn : Txn)
    → find key_cmp keys.Failsafe (keys_after_grant store now by txn).pairs
    ≡ failsafe_after (store.revision + 1) txn (find key_cmp keys.Failsafe store.pairs)
find_failsafe_after store now by txn =
    find_all_written (store.revision + 1) now keys.Failsafe store.pairs (writes_of by txn)
    ∙ failsafe-pairs_after (store.revision + 1) now by txn (find key_cmp keys.Failsafe store.pairs)

-- ---- the sync key
abbrev pub sync_after : ℕ → MemberId → Txn → Option KeyEntry → Option KeyEntry
sync_after revision by (txns.Sync (sync_txns.Claim compared sync)) found =
    Some (record { value = sync_value by nobody 0; revision = revision; expiry = None })
sync_after revision by (txns.Sync (sync_txns.SetSync compared sync standbys quorum)) found =
    Some (record { value = sync_value by standbys (unwrap_or quorum 0); revision = revision; expiry = None })
sync_after revision by (txns.Sync (sync_txns.DropSync compared sync)) found = None
sync_after revision by _ found = found

sync-carried : (revision now : ℕ) (found : Option KeyEntry) (failsafe : Option MemberSet)
    → found_after_all revision now keys.Sync found (failsafe_writes failsafe) ≡ found
sync-carried revision now found None = refl
sync-carried revision now found (Some members) = refl

sync-pairs_after : (revision now : ℕ) (by : MemberId) (txn : Txn) (found : Option KeyEntry)
    → found_after_all revision now keys.Sync found (writes_of by txn) ≡ sync_after revision by txn found
sync-pairs_after revision now by (txns.Lease (lease_txns.Renew compared info ttl status row failsafe)) found =
    carried revision now keys.Sync found status row failsafe refl (λ timeline. refl)
    ∙ sync-carried revision now found failsafe
sync-pairs_after revision now by (txns.Sync (sync_txns.DropSync compared sync)) found = refl
sync-pairs_after revision now by (txns.Operators (operator_txns.DropFailover compared)) found = refl
sync-pairs_after revision now by _ found = refl

-- what a granted transaction leaves at the sync key
pub find_sync_after : (store : Keys) (now : ℕ) (by : MemberId) (txn : Txn)
    → find key_cmp keys.Sync (keys_after_grant store now by txn).pairs
    ≡ sync_after (store.revision + 1) by txn (find key_cmp keys.Sync store.pairs)
find_sync_after store now by txn =
    find_all_written (store.revision + 1) now keys.Sync store.pairs (writes_of by txn)
    ∙ sync-pairs_after (store.revision + 1) now by txn (find key_cmp keys.Sync store.pairs)
