use Rattle.std.proofs.Common.{ap, sym, subst, List, ◌∙◌, cond, None}
use Rattle.pat_base.specs.declared.ticks.Ticks.{Ticks}
use Rattle.store_keys.specs.declared.key.Key.{Key}
use Rattle.store_keys.specs.declared.value.KeyEntry.{KeyEntry}
use Rattle.lease_store.specs.Copied.{AreCopies}
use Rattle.lease_store.specs.Expiries.{has_come}
use Rattle.lease_store.specs.Keys.{Keys}
use Rattle.lease_store.proofs.Answering.{kept_dropped, lost_where, same_later}
use Rattle.lease_store.proofs.Expiring.{copies-kept}
use Rattle.lease_store.proofs.store.Store.drop_expired.Goals as goal

pub invariant_of-self : goal.invariant_of-self
invariant_of-self c = (
  kept_dropped _ _ _ c.drop_absent.ensures.entries c.self.invariant.0,
  c.drop_absent.ensures.expiries,
  subst (λ (pairs : List (Key × KeyEntry)). AreCopies pairs c.forget_ended.new.copies)
      (sym c.drop_absent.ensures.entries)
      (copies-kept c.args.now.0 c.self.inside.entries.items c.self.inside.expiries.items c.self.inside.copies _
      c.self.invariant.0.order c.self.invariant.1 c.self.invariant.2
      (c.forget_ended.ensures
      ∙ ap (λ (es : List (Ticks × Key)). cond (has_come c.args.now.0 es) None c.self.inside.copies)
      c.deref-2.ensures.value)),
)

pub returns-clause-dropped : goal.returns-clause-dropped
returns-clause-dropped c =
    lost_where _ _ c.self.inside.entries.items c.args.self.now _ c.deref.ensures.value
    (ap (λ (s : Keys). s.pairs) c.self.view_is) c.self.invariant.0.kinds c.expired_holder-holder.ensures

pub returns-clause-same : goal.returns-clause-same
returns-clause-same c later key le =
    same_later c.args.now.0 later key c.self.inside.entries.items _ c.args.self.now c.drop_absent.ensures.entries
    c.self.invariant.0 (ap (λ (s : Keys). s.pairs) c.self.view_is) le
