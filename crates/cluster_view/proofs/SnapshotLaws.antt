-- What is put in the order of its keys is as a read gives it.
use Rattle.std.proofs.Common.{List, IsSome, Option, sym, subst}
use Rattle.std.specs.FinMap.{find}
use Rattle.store_keys.specs.declared.key.Key.{Key}
use Rattle.store_keys.specs.declared.key.Key.TheVariants as keys
use Rattle.store_keys.specs.declared.value.KeyEntry.{KeyEntry}
use Rattle.lease_store.specs.InKeyOrder.{in_key_order}
use Rattle.lease_store.specs.KeyOrder.{key_cmp}
use Rattle.lease_store.specs.Kept.{AreOfKind}
use Rattle.lease_store.proofs.InOrder.{is_sorted-in_key_order, kinds-in_key_order, find-in_key_order}
use Rattle.cluster_view.specs.Snapshots.{IsRead}

pub read-in_key_order : (entries : List (Key × KeyEntry)) → AreOfKind entries
    → IsSome (find key_cmp keys.Config entries) → IsRead (in_key_order entries)
read-in_key_order entries kinds config = record {
  order = is_sorted-in_key_order entries;
  kinds = kinds-in_key_order entries kinds;
  config = subst (λ (found : Option KeyEntry). IsSome found) (sym (find-in_key_order keys.Config entries)) config;
}
