use Rattle.std.proofs.Common.{ap}
use Rattle.lease_store.specs.Keys.{Keys}
use Rattle.lease_store.proofs.Answering.{copied_each, copied_found, copied_order, copied_kinds, copied_config}
use Rattle.lease_store.proofs.store.Store.entries.Goals as goal

pub returns-clause-found : goal.returns-clause-found
returns-clause-found c =
    copied_found _ c.self.inside.entries.items c.args.self.now _ (ap (λ (s : Keys). s.pairs) c.self.view_is)
    (copied_each _ _ c.self.inside.entries.items _ c.deref.ensures.value c.self.invariant.0 c.copies_of_present.ensures)

pub returns-clause-order : goal.returns-clause-order
returns-clause-order c =
    copied_order c.args.now.0 c.self.inside.entries.items _
    (copied_each _ _ c.self.inside.entries.items _ c.deref.ensures.value c.self.invariant.0 c.copies_of_present.ensures)

pub returns-clause-kinds : goal.returns-clause-kinds
returns-clause-kinds c =
    copied_kinds c.args.now.0 c.self.inside.entries.items _
    (copied_each _ _ c.self.inside.entries.items _ c.deref.ensures.value c.self.invariant.0 c.copies_of_present.ensures)

pub returns-clause-config : goal.returns-clause-config
returns-clause-config c =
    copied_config c.args.now.0 c.self.inside.entries.items _
    (copied_each _ _ c.self.inside.entries.items _ c.deref.ensures.value c.self.invariant.0 c.copies_of_present.ensures)
