use Rattle.std.proofs.Common.{◌∙◌, ap, sym, subst, List}
use Rattle.store_keys.specs.declared.key.Key.{Key}
use Rattle.store_keys.specs.declared.value.KeyEntry.{KeyEntry}
use Rattle.lease_store.proofs.InOrder.{in_key_order-sorted}
use Rattle.cluster_view.specs.Snapshots.{IsRead}
use Rattle.cluster_view.proofs.SnapshotLaws.{read-in_key_order}
use Rattle.cluster_view.proofs.snapshot.Snapshot.read.Goals as goal

pub returns-in_err-from_slice-clause-in_order : goal.returns-in_err-from_slice-clause-in_order
returns-in_err-from_slice-clause-in_order c = in_key_order-sorted c.args.entries.items

pub returns-in_err-in_key_order-clause-in_order : goal.returns-in_err-in_key_order-clause-in_order
returns-in_err-in_key_order-clause-in_order c = in_key_order-sorted c.args.entries.items

pub returns-in_err-new-clause-in_order : goal.returns-in_err-new-clause-in_order
returns-in_err-new-clause-in_order c = in_key_order-sorted c.args.entries.items

pub returns-in_err-new-2-clause-in_order : goal.returns-in_err-new-2-clause-in_order
returns-in_err-new-2-clause-in_order c = in_key_order-sorted c.args.entries.items

pub returns-clause-in_order : goal.returns-clause-in_order
returns-clause-in_order c = in_key_order-sorted c.args.entries.items

pub invariant_of-result : goal.invariant_of-result
invariant_of-result c =
    subst (λ (entries : List (Key × KeyEntry)). IsRead entries)
    (sym (ap (λ v. v.items) c.in_ok-new-2.ensures ∙ c.in_ok-in_key_order.ensures))
    (read-in_key_order c.args.entries.items c.requires.kinds c.requires.config)
