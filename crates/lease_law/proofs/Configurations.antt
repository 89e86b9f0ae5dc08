-- What a granted transaction leaves of the configuration.
use Rattle.std.proofs.Common.{◌≡◌, ℕ, ◌++◌, Option, Some, None, refl, sym, subst}
use Rattle.pat_base.specs.declared.lsn.Lsn.{Lsn}
use Rattle.pat_base.specs.declared.member_id.MemberId.{MemberId}
use Rattle.pat_base.specs.declared.member_set.MemberSet.{MemberSet}
use Rattle.store_keys.specs.declared.key.Key.TheVariants as keys
use Rattle.store_keys.specs.declared.txn.Txn.{Txn}
use Rattle.store_keys.specs.declared.txn.Txn.TheVariants as txns
use Rattle.store_keys.specs.declared.txn.LeaseTxn.TheVariants as lease_txns
use Rattle.store_keys.specs.declared.txn.OperatorTxn.TheVariants as operator_txns
use Rattle.store_keys.specs.declared.txn.SyncTxn.TheVariants as sync_txns
use Rattle.store_keys.specs.declared.value.HistoryRow.{HistoryRow}
use Rattle.store_keys.specs.declared.value.KeyEntry.{KeyEntry}
use Rattle.lease_store.specs.Writes.{writes_of, status_writes, row_writes, failsafe_writes}
use Rattle.lease_store.proofs.OneKey.{found_after_all}

carried-config : (revision now : ℕ) (found : Option KeyEntry) (status : Option Lsn) (row : Option HistoryRow)
    (failsafe : Option MemberSet)
    → found_after_all revision now keys.Config found
    (status_writes status ++ (row_writes row ++ failsafe_writes failsafe)) ≡ found
carried-config revision now found None None None = refl
carried-config revision now found None None (Some members) = refl
carried-config revision now found None (Some row) None = refl
carried-config revision now found None (Some row) (Some members) = refl
carried-config revision now found (Some end) None None = refl
carried-config revision now found (Some end) None (Some members) = refl
carried-config revision now found (Some end) (Some row) None = refl
carried-config revision now found (Some end) (Some row) (Some members) = refl

module _ (H : Option KeyEntry → Type 0) (revision now : ℕ) (by : MemberId) where
  -- where a transaction sets the configuration, this holds of what it sets
  abbrev pub SetsConfig : Option KeyEntry → Txn → Type 0
  SetsConfig found (txns.Operators (operator_txns.SetConfig compared config)) =
      H (found_after_all revision now keys.Config found
      (writes_of by (txns.Operators (operator_txns.SetConfig compared config))))
  SetsConfig found _ = Unit {0}

  -- then it holds of the configuration that the transaction leaves, where it held of the one before
  pub config-after : (txn : Txn) (found : Option KeyEntry) → SetsConfig found txn → H found
      → H (found_after_all revision now keys.Config found (writes_of by txn))
  config-after (txns.Lease (lease_txns.Renew compared info ttl status row failsafe)) found is old =
      subst H (sym (carried-config revision now found status row failsafe)) old
  config-after (txns.Sync (sync_txns.DropSync compared sync)) found is old = old
  config-after (txns.Operators (operator_txns.SetConfig compared config)) found is old = is
  config-after _ found is old = old
