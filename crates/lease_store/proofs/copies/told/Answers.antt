use Rattle.std.proofs.Common.{◌≡◌, ◌∙◌, sym, subst, List, IfOk}
use Rattle.store_keys.specs.declared.key.Key.{Key}
use Rattle.store_keys.specs.declared.value.KeyEntry.{KeyEntry}
use Rattle.lease_store.proofs.Expiring.{Pairs, all-present}
use Rattle.lease_store.proofs.copies.told.Goals as goal

pub returns-clause-told : goal.returns-clause-told
returns-clause-told c =
    let all = all-present c.args.now.0 c.args.entries.now c.args.expiries.now c.requires.order c.requires.expiries
    (sym c.has_come.ensures ∙ c.if-has_come.false) in
    subst (λ (t : Pairs). IfOk c.told_again.result (λ told. told.items ≡ t)) (sym all) c.told_again.ensures.told
