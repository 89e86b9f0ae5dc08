use Rattle.std.proofs.Common.{◌∙◌, ap, sym, None}
use Rattle.lease_store.specs.InKeyOrder.{rises_behind}
use Rattle.lease_store.proofs.InOrder.{in_key_order-risen}
use Rattle.lease_store.proofs.sorting.in_key_order.Goals as goal

pub returns-then-rises : goal.returns-then-rises
returns-then-rises c =
    sym (in_key_order-risen c.args.pairs.items
    (ap (rises_behind None) (sym c.deref.ensures.value) ∙ sym c.rises.ensures ∙ c.if-rises.true))
