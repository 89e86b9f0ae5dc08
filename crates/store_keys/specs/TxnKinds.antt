-- Which kind of transaction a request is.
use Rattle.store_keys.specs.declared.txn.Txn.{Txn}
use Rattle.store_keys.specs.declared.txn.Txn.TheVariants as txns
use Rattle.store_keys.specs.declared.txn.LeaseTxn.TheVariants as lease_txns
use Rattle.store_keys.specs.declared.txn.OperatorTxn.{OperatorTxn}
use Rattle.store_keys.specs.declared.txn.OperatorTxn.TheVariants as operator_txns
use Rattle.store_keys.specs.declared.txn.SyncTxn.TheVariants as sync_txns
use Rattle.store_keys.specs.declared.txn_kind.TxnKind.{TxnKind}
use Rattle.store_keys.specs.declared.txn_kind.TxnKind.TheVariants.{Touch, Create, Renewal, Release, Claim, SyncWrite, FailoverWrite, FailoverRemoval, ConfigurationWrite}

-- the kind of what operators ask for
abbrev pub operator_kind : OperatorTxn → TxnKind
operator_kind (operator_txns.SetFailover failover ttl) = FailoverWrite
operator_kind (operator_txns.DropFailover revision) = FailoverRemoval
operator_kind (operator_txns.SetConfig revision config) = ConfigurationWrite
operator_kind (operator_txns.Schedule planned) = FailoverWrite
operator_kind (operator_txns.Unschedule scheduled) = FailoverRemoval
operator_kind (operator_txns.Fire revision scheduled failover ttl) = FailoverWrite

-- the kind of a transaction
abbrev pub txn_kind_of : Txn → TxnKind
txn_kind_of (txns.Touch info ttl) = Touch
txn_kind_of (txns.Lease (lease_txns.Create info ttl failsafe sync)) = Create
txn_kind_of (txns.Lease (lease_txns.Renew revision info ttl status row failsafe)) = Renewal
txn_kind_of (txns.Lease (lease_txns.Release revision)) = Release
txn_kind_of (txns.Sync (sync_txns.Claim revision sync)) = Claim
txn_kind_of (txns.Sync (sync_txns.SetSync revision sync standbys quorum)) = SyncWrite
txn_kind_of (txns.Sync (sync_txns.DropSync revision sync)) = SyncWrite
txn_kind_of (txns.Operators txn) = operator_kind txn
