use Rattle.std.proofs.Common.{◌∙◌, ap, sym, List}
use Rattle.std.specs.FinMap.{put}
use Rattle.store_keys.specs.declared.key.Key.{Key}
use Rattle.store_keys.specs.declared.value.KeyEntry.{KeyEntry}
use Rattle.lease_store.specs.KeyOrder.{key_cmp}
use Rattle.lease_store.proofs.InOrder.{put_all, put_all-last}
use Rattle.lease_store.proofs.sorting.sorted.Goals as goal

pub loop-key-preserved : goal.loop-key-preserved
loop-key-preserved c =
    ap (λ (ordered : List (Key × KeyEntry)). put_all ordered c.pop.new.self.items)
    (c.put.ensures.pairs ∙ ap (put key_cmp c.in-Some.key c.in-Some.stored) c.in_ok-reserve.ensures.items)
    ∙ sym (put_all-last c.loop-key.ordered.items c.pop.new.self.items (c.in-Some.key, c.in-Some.stored))
    ∙ ap (put_all c.loop-key.ordered.items) (sym c.in-Some.ensures.items)
    ∙ c.loop-key.invariant
