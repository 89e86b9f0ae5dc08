use Rattle.std.proofs.Common.{ap, ◌∙◌, sym, subst, List, [], ◌≢◌}
use Rattle.store_keys.specs.declared.key.Key.{Key}
use Rattle.store_keys.specs.declared.value.KeyEntry.{KeyEntry}
use Rattle.lease_store.specs.Answers.{absent_keys}
use Rattle.lease_store.specs.Expiries.{first_of}
use Rattle.lease_store.specs.Keys.{Keys}
use Rattle.lease_store.proofs.Expiring.{none-before, some-at}
use Rattle.lease_store.proofs.store.Store.next_expiry.Goals as goal

pub returns-clause-before : goal.returns-clause-before
returns-clause-before c now h =
    ap (absent_keys now) (sym (ap (λ (k : Keys). k.pairs) c.self.view_is))
    ∙ none-before now c.args.most _ c.self.inside.entries.items c.self.inside.expiries.items
    c.self.invariant.0.order c.self.invariant.1
    (c.first_expiry.ensures ∙ ap (first_of c.args.most) c.deref.ensures.value) h

pub returns-clause-least : goal.returns-clause-least
returns-clause-least c h =
    subst (λ (es : List (Key × KeyEntry)). absent_keys c.first_expiry.result.0 es ≢ [])
    (ap (λ (k : Keys). k.pairs) c.self.view_is)
    (some-at c.args.most c.first_expiry.result c.self.inside.entries.items c.self.inside.expiries.items
    c.self.invariant.1 (c.first_expiry.ensures ∙ ap (first_of c.args.most) c.deref.ensures.value) h)
