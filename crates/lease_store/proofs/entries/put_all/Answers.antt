use Rattle.std.proofs.Common.{rules, subst}
use Rattle.store_keys.specs.declared.value.KeyEntry.{KeyEntry}
use Rattle.lease_store.specs.Expiries.{IsExchanged}
use Rattle.lease_store.proofs.Expiring.{each-once, expiries-put}
use Rattle.lease_store.proofs.entries.put_all.Goals as goal

pub exchange-requires-clause-once : goal.exchange-requires-clause-once
exchange-requires-clause-once c = each-once _ _ c.loop-key.invariant.3

pub loop-key-preserved : goal.loop-key-preserved
loop-key-preserved c = (
  search rules,
  search rules,
  search rules,
  expiries-put c.in-Some.key c.in-Some.stored c.loop-key.entries.items _ c.loop-key.expiries.items _
      c.loop-key.invariant.3
      (subst (λ (stored : KeyEntry).
      IsExchanged c.in-Some.key stored.expiry c.loop-key.expiries.items c.exchange.new.expiries.items)
      c.get.ensures c.exchange.ensures.exchanged)
      c.put.ensures.pairs,
  search rules,
)
