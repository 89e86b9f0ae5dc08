use Rattle.lease_store.proofs.Answering.{copied_each, copied_order, copied_kinds, copied_config}
use Rattle.lease_store.proofs.store.Store.share_entries.Goals as goal

pub returns-clause-order : goal.returns-clause-order
returns-clause-order c =
    copied_order c.args.now.0 c.self.inside.entries.items _
    (copied_each _ _ c.self.inside.entries.items _ c.deref.ensures.value c.self.invariant.0 c.told.ensures.told)

pub returns-clause-kinds : goal.returns-clause-kinds
returns-clause-kinds c =
    copied_kinds c.args.now.0 c.self.inside.entries.items _
    (copied_each _ _ c.self.inside.entries.items _ c.deref.ensures.value c.self.invariant.0 c.told.ensures.told)

pub returns-clause-config : goal.returns-clause-config
returns-clause-config c =
    copied_config c.args.now.0 c.self.inside.entries.items _
    (copied_each _ _ c.self.inside.entries.items _ c.deref.ensures.value c.self.invariant.0 c.told.ensures.told)
