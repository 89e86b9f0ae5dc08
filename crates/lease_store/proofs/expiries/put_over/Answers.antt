use Rattle.std.proofs.Common.{refl, sym, ap, ◌∙◌}
use Rattle.std.specs.Ordering.{is_lt}
use Rattle.lease_store.proofs.Renewing.{gap-filled, gap-filled_last}
use Rattle.lease_store.proofs.expiries.put_over.Goals as goal
use Rattle.lease_store.proofs.expiries.put_over.Goals.{else-loop-gap-test, then-loop-gap-test+then-is_lt}

pub returns : goal.returns
returns c = elim c.loop-gap-test.branch [
  | else-loop-gap-test w ↦ gap-filled_last c.args.added c.args.at c.loop-gap.gap c.args.expiries.now
      c.loop-gap.expiries _ c.loop-gap.invariant w.loop-gap-test.false refl
  | then-loop-gap-test+then-is_lt w ↦ gap-filled c.args.added w.index-expiries-gap.result c.args.at c.loop-gap.gap
      c.args.expiries.now c.loop-gap.expiries _ c.loop-gap.invariant w.loop-gap-test.true w.index-expiries-gap.is
      (ap is_lt (sym w.compare_expiries.ensures) ∙ sym w.is_lt.ensures ∙ w.if-is_lt.true) refl
]
