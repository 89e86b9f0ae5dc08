use Rattle.std.proofs.Common.{ap, ◌∙◌, sym}
use Rattle.lease_store.specs.Answers.{absent_keys}
use Rattle.lease_store.specs.Expiries.{has_come}
use Rattle.lease_store.specs.Keys.{Keys}
use Rattle.lease_store.proofs.Expiring.{none-come}
use Rattle.lease_store.proofs.store.Store.expired.Goals as goal

pub returns : goal.returns
returns c =
    c.new.ensures.items
    ∙ sym (ap (absent_keys c.args.now.0) (sym (ap (λ (k : Keys). k.pairs) c.self.view_is))
    ∙ none-come c.args.now.0 c.self.inside.entries.items c.self.inside.expiries.items c.self.invariant.0.order
    c.self.invariant.1
    (ap (has_come c.args.now.0) (sym c.deref.ensures.value) ∙ sym c.has_come.ensures ∙ c.if-has_come.false))
