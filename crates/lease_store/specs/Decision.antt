-- The decision on a request.
use Rattle.std.specs.Prelude.{ℕ, ◌==◌, Bool, true, false, List, [], ◌∷◌, ◌++◌, Option, Some, None}
use Rattle.store_keys.specs.declared.key.Key.{Key}
use Rattle.store_keys.specs.declared.key.Key.TheVariants as keys
use Rattle.store_keys.specs.declared.value.KeyEntry.{KeyEntry}
use Rattle.store_keys.specs.declared.txn.Expected.{Expected}
use Rattle.store_keys.specs.declared.txn.Expected.TheVariants.{Absent, Revision}
use Rattle.store_keys.specs.declared.txn.Txn.{Txn}
use Rattle.store_keys.specs.declared.txn.LeaseTxn.{LeaseTxn}
use Rattle.store_keys.specs.declared.txn.OperatorTxn.{OperatorTxn}
use Rattle.store_keys.specs.declared.txn.SyncTxn.{SyncTxn}
use Rattle.store_keys.specs.declared.txn.Txn.TheVariants as txns
use Rattle.store_keys.specs.declared.txn.LeaseTxn.TheVariants as lease_txns
use Rattle.store_keys.specs.declared.txn.OperatorTxn.TheVariants as operator_txns
use Rattle.store_keys.specs.declared.txn.SyncTxn.TheVariants as sync_txns
use Rattle.lease_store.specs.Keys.{Keys, key_in}

-- what is compared of a key, if something is expected of it
abbrev pub compare_if : Key → Option Expected → List (Key × Expected)
compare_if key None = []
compare_if key (Some expected) = (key, expected) ∷ []

-- what a transaction on the leader key compares, in this order
abbrev pub lease_compares : LeaseTxn → List (Key × Expected)
lease_compares (lease_txns.Create info ttl failsafe sync) =
    (keys.Leader, Absent) ∷ (compare_if keys.Failsafe failsafe ++ compare_if keys.Sync sync)
lease_compares (lease_txns.Renew revision info ttl status row failsafe) = (keys.Leader, Revision revision) ∷ []
lease_compares (lease_txns.Release revision) = (keys.Leader, Revision revision) ∷ []

-- a transaction on the sync key, of a leader with the key at this revision
abbrev pub sync_compares : SyncTxn → List (Key × Expected)
sync_compares (sync_txns.Claim revision sync) = (keys.Leader, Revision revision) ∷ (keys.Sync, sync) ∷ []
sync_compares (sync_txns.SetSync revision sync standbys quorum) =
    (keys.Leader, Revision revision) ∷ (keys.Sync, sync) ∷ []
sync_compares (sync_txns.DropSync revision sync) = (keys.Leader, Revision revision) ∷ (keys.Sync, Revision sync) ∷ []

-- one for operators
abbrev pub operator_compares : OperatorTxn → List (Key × Expected)
operator_compares (operator_txns.SetFailover failover ttl) = (keys.Failover, Absent) ∷ []
operator_compares (operator_txns.DropFailover revision) = (keys.Leader, Revision revision) ∷ []
operator_compares (operator_txns.SetConfig revision config) = (keys.Config, Revision revision) ∷ []
operator_compares (operator_txns.Schedule planned) = (keys.Scheduled, Absent) ∷ []
operator_compares (operator_txns.Unschedule scheduled) = (keys.Scheduled, Revision scheduled) ∷ []
operator_compares (operator_txns.Fire revision scheduled failover ttl) =
    (keys.Leader, Revision revision) ∷ (keys.Scheduled, Revision scheduled) ∷ (keys.Failover, Absent) ∷ []

-- what a transaction compares, in this order
abbrev pub compares_of : Txn → List (Key × Expected)
compares_of (txns.Touch info ttl) = []
compares_of (txns.Lease txn) = lease_compares txn
compares_of (txns.Sync txn) = sync_compares txn
compares_of (txns.Operators txn) = operator_compares txn

-- what a compare finds
abbrev pub found_in : Option KeyEntry → Expected
found_in None = Absent
found_in (Some stored) = Revision stored.revision

-- what is found is what was expected
abbrev pub is_as_expected : Expected → Expected → Bool
is_as_expected Absent Absent = true
is_as_expected (Revision a) (Revision b) = a == b
is_as_expected _ _ = false

-- granted, or the first key that differs with what was found there
pub data Decision : Type 0 where
  Grant : Decision
  Refusal : (key : Key) (found : Expected) → Decision

-- what follows decides where the key is as expected
abbrev pub decision_if : Bool → Key → Expected → Decision → Decision
decision_if true key found rest = rest
decision_if false key found rest = Refusal key found

-- the first of these compares that differs decides
abbrev pub decision_by : List (Key × KeyEntry) → ℕ → List (Key × Expected) → Decision
decision_by pairs now [] = Grant
decision_by pairs now (compare ∷ compares) =
    let found = found_in (key_in pairs now compare.0) in
    decision_if (is_as_expected compare.1 found) compare.0 found (decision_by pairs now compares)

-- the decision on a transaction at a moment
abbrev pub decision_on : Keys → ℕ → Txn → Decision
decision_on store now txn = decision_by store.pairs now (compares_of txn)
