-- What a granted transaction writes.
use Rattle.std.specs.Prelude.{ℕ, ◌+◌, ◌++◌, max, Bool, true, false, List, [], ◌∷◌, Option, Some, None, unwrap_or, not, filter}
use Rattle.std.specs.FinMap.{find, put}
use Rattle.std.specs.Ordering.{eq_by_cmp}
use Rattle.pat_base.specs.declared.ticks.Ticks.{Ticks}
use Rattle.pat_base.specs.declared.lsn.Lsn.{Lsn}
use Rattle.pat_base.specs.declared.member_id.MemberId.{MemberId}
use Rattle.pat_base.specs.declared.member_set.MemberSet.{MemberSet}
use Rattle.store_keys.specs.declared.key.Key.{Key}
use Rattle.store_keys.specs.declared.key.Key.TheVariants as keys
use Rattle.store_keys.specs.declared.value.HistoryRow.{HistoryRow}
use Rattle.store_keys.specs.declared.value.KeyEntry.{KeyEntry}
use Rattle.store_keys.specs.declared.value.Value.{Value}
use Rattle.store_keys.specs.declared.value.Value.TheVariants as values
use Rattle.store_keys.specs.declared.txn.Txn.{Txn}
use Rattle.store_keys.specs.declared.txn.LeaseTxn.{LeaseTxn}
use Rattle.store_keys.specs.declared.txn.OperatorTxn.{OperatorTxn}
use Rattle.store_keys.specs.declared.txn.SyncTxn.{SyncTxn}
use Rattle.store_keys.specs.declared.txn.Txn.TheVariants as txns
use Rattle.store_keys.specs.declared.txn.LeaseTxn.TheVariants as lease_txns
use Rattle.store_keys.specs.declared.txn.OperatorTxn.TheVariants as operator_txns
use Rattle.store_keys.specs.declared.txn.SyncTxn.TheVariants as sync_txns
use Rattle.lease_store.specs.Keys.{Keys}
use Rattle.lease_store.specs.KeyOrder.{key_cmp}

-- one write: of a key without a lease, of a key with a lease, of the lease alone, and a removal
pub data Write : Type 0 where
  Sets : (key : Key) (value : Value) → Write
  Leases : (key : Key) (value : Value) (ttl : Ticks) → Write
  Extends : (key : Key) (ttl : Ticks) → Write
  Deletes : (key : Key) → Write

-- the writes of what a renewal carries: the end of the log, a row of the history, the members to ask
abbrev pub status_writes : Option Lsn → List Write
status_writes None = []
status_writes (Some end) = Sets keys.Status (values.Status end) ∷ []

-- where there is a row
abbrev pub row_writes : Option HistoryRow → List Write
row_writes None = []
row_writes (Some row) = Sets (keys.History row.timeline) (values.History row) ∷ []

-- where there are members
abbrev pub failsafe_writes : Option MemberSet → List Write
failsafe_writes None = []
failsafe_writes (Some members) = Sets keys.Failsafe (values.Failsafe members) ∷ []

-- the sync key of a leader with these standbys, of whom so many may lack a commit
abbrev pub sync_value : MemberId → MemberSet → ℕ → Value
sync_value leader standbys quorum =
    values.Sync (record { leader = leader; standbys = standbys; quorum = quorum })

-- no standby
abbrev pub nobody : MemberSet
nobody = record { bits = 0 }

-- what a transaction of a member on the leader key writes
abbrev pub lease_writes : MemberId → LeaseTxn → List Write
lease_writes by (lease_txns.Create info ttl failsafe sync) =
    Leases keys.Leader (values.Leader by) ttl ∷ Leases (keys.Member by) (values.Member info) ttl ∷ []
lease_writes by (lease_txns.Renew revision info ttl status row failsafe) =
    Extends keys.Leader ttl ∷ Leases (keys.Member by) (values.Member info) ttl
    ∷ (status_writes status ++ (row_writes row ++ failsafe_writes failsafe))
lease_writes by (lease_txns.Release revision) = Deletes keys.Leader ∷ []

-- one on the sync key
abbrev pub sync_writes : MemberId → SyncTxn → List Write
sync_writes by (sync_txns.Claim revision sync) = Sets keys.Sync (sync_value by nobody 0) ∷ []
sync_writes by (sync_txns.SetSync revision sync standbys quorum) =
    Sets keys.Sync (sync_value by standbys (unwrap_or quorum 0)) ∷ []
sync_writes by (sync_txns.DropSync revision sync) = Deletes keys.Sync ∷ []

-- one for operators
abbrev pub operator_writes : OperatorTxn → List Write
operator_writes (operator_txns.SetFailover failover ttl) =
    Leases keys.Failover (values.Failover failover) ttl ∷ []
operator_writes (operator_txns.DropFailover revision) = Deletes keys.Failover ∷ []
operator_writes (operator_txns.SetConfig revision config) = Sets keys.Config (values.Config config) ∷ []
operator_writes (operator_txns.Schedule planned) = Sets keys.Scheduled (values.Scheduled planned) ∷ []
operator_writes (operator_txns.Unschedule scheduled) = Deletes keys.Scheduled ∷ []
operator_writes (operator_txns.Fire revision scheduled failover ttl) =
    Leases keys.Failover (values.Failover failover) ttl ∷ Deletes keys.Scheduled ∷ []

-- what a transaction of a member writes
abbrev pub writes_of : MemberId → Txn → List Write
writes_of by (txns.Touch info ttl) = Leases (keys.Member by) (values.Member info) ttl ∷ []
writes_of by (txns.Lease txn) = lease_writes by txn
writes_of by (txns.Sync txn) = sync_writes by txn
writes_of by (txns.Operators txn) = operator_writes txn

-- whether a transaction gives its sender the lease of the leader key
abbrev pub is_lease : Txn → Bool
is_lease (txns.Lease (lease_txns.Create info ttl failsafe sync)) = true
is_lease (txns.Lease (lease_txns.Renew revision info ttl status row failsafe)) = true
is_lease _ = false

-- the span of the leases that a transaction on the leader key writes, if it writes any
abbrev pub lease_ttl : LeaseTxn → ℕ
lease_ttl (lease_txns.Create info ttl failsafe sync) = ttl.0
lease_ttl (lease_txns.Renew revision info ttl status row failsafe) = ttl.0
lease_ttl (lease_txns.Release revision) = 0

-- of one for operators
abbrev pub operator_ttl : OperatorTxn → ℕ
operator_ttl (operator_txns.SetFailover failover ttl) = ttl.0
operator_ttl (operator_txns.Fire revision scheduled failover ttl) = ttl.0
operator_ttl _ = 0

-- of any
abbrev pub ttl_of : Txn → ℕ
ttl_of (txns.Touch info ttl) = ttl.0
ttl_of (txns.Lease txn) = lease_ttl txn
ttl_of (txns.Sync txn) = 0
ttl_of (txns.Operators txn) = operator_ttl txn

-- the expiry of a lease that is extended until a moment, which is never earlier than it was
abbrev pub extended_expiry : ℕ → Option Ticks → Option Ticks
extended_expiry until None = None
extended_expiry until (Some expiry) = Some (record { 0 = max expiry.0 until })

-- the pairs with the lease of a key extended until a moment, where the key has an entry
abbrev pub pairs_extended : ℕ → ℕ → List (Key × KeyEntry) → Key → Option KeyEntry → List (Key × KeyEntry)
pairs_extended revision until pairs key None = pairs
pairs_extended revision until pairs key (Some stored) =
    put key_cmp key (record stored { revision = revision; expiry = extended_expiry until stored.expiry }) pairs

-- the pairs without a key
abbrev pub without : Key → List (Key × KeyEntry) → List (Key × KeyEntry)
without key pairs = filter (λ pair. not (eq_by_cmp key_cmp key pair.0)) pairs

-- the pairs after a write of this revision at a moment
abbrev pub pairs_after : ℕ → ℕ → List (Key × KeyEntry) → Write → List (Key × KeyEntry)
pairs_after revision now pairs (Sets key value) =
    put key_cmp key (record { value = value; revision = revision; expiry = None }) pairs
pairs_after revision now pairs (Leases key value ttl) =
    put key_cmp key (record { value = value; revision = revision; expiry = Some (record { 0 = now + ttl.0 }) }) pairs
pairs_after revision now pairs (Extends key ttl) =
    pairs_extended revision (now + ttl.0) pairs key (find key_cmp key pairs)
pairs_after revision now pairs (Deletes key) = without key pairs

-- the pairs after these writes, in this order
abbrev pub pairs_over : ℕ → ℕ → List (Key × KeyEntry) → List Write → List (Key × KeyEntry)
pairs_over revision now pairs [] = pairs
pairs_over revision now pairs (write ∷ writes) = pairs_over revision now (pairs_after revision now pairs write) writes

-- the keys after a granted transaction of a member at a moment
abbrev pub keys_after_grant : Keys → ℕ → MemberId → Txn → Keys
keys_after_grant store now by txn = record {
  revision = store.revision + 1;
  pairs = pairs_over (store.revision + 1) now store.pairs (writes_of by txn);
}

-- the key that a transaction takes out, if it takes one out
abbrev pub deleted_key : Txn → Option Key
deleted_key (txns.Lease (lease_txns.Release revision)) = Some keys.Leader
deleted_key (txns.Sync (sync_txns.DropSync revision sync)) = Some keys.Sync
deleted_key (txns.Operators (operator_txns.DropFailover revision)) = Some keys.Failover
deleted_key (txns.Operators (operator_txns.Unschedule scheduled)) = Some keys.Scheduled
deleted_key (txns.Operators (operator_txns.Fire revision scheduled failover ttl)) = Some keys.Scheduled
deleted_key _ = None

-- the pairs without a key, if there is one to take out
abbrev pub without_if : Option Key → List (Key × KeyEntry) → List (Key × KeyEntry)
without_if None pairs = pairs
without_if (Some key) pairs = without key pairs

-- an entry whose lease is extended until a moment, where there is one
abbrev pub extended_put : ℕ → ℕ → Key → Option KeyEntry → List (Key × KeyEntry)
extended_put revision until key None = []
extended_put revision until key (Some stored) =
    (key, record stored { revision = revision; expiry = extended_expiry until stored.expiry }) ∷ []

-- what a write of this revision at a moment puts among the pairs
abbrev pub puts_of : ℕ → ℕ → List (Key × KeyEntry) → Write → List (Key × KeyEntry)
puts_of revision now pairs (Sets key value) = (key, record { value = value; revision = revision; expiry = None }) ∷ []
puts_of revision now pairs (Leases key value ttl) =
    (key, record { value = value; revision = revision; expiry = Some (record { 0 = now + ttl.0 }) }) ∷ []
puts_of revision now pairs (Extends key ttl) = extended_put revision (now + ttl.0) key (find key_cmp key pairs)
puts_of revision now pairs (Deletes key) = []

-- what these writes put among the pairs
abbrev pub puts_of_all : ℕ → ℕ → List (Key × KeyEntry) → List Write → List (Key × KeyEntry)
puts_of_all revision now pairs [] = []
puts_of_all revision now pairs (write ∷ writes) =
    puts_of revision now pairs write ++ puts_of_all revision now pairs writes
