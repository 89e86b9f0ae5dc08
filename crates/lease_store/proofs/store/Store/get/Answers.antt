use Rattle.lease_store.proofs.Answering.{kind_got}
use Rattle.lease_store.proofs.store.Store.get.Goals as goal

pub returns-clause-kind : goal.returns-clause-kind
returns-clause-kind c =
    kind_got _ _ _ c.self.inside.entries.items _ c.deref.ensures.value c.self.invariant.0.kinds c.present_at.ensures
