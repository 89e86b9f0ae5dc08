use Rattle.std.proofs.Common.{◌-◌, length}
use Rattle.lease_store.proofs.Renewing.{HasGap}
use Rattle.lease_store.proofs.expiries.put_over.Given as goal

abbrev pub invariant-loop-gap : goal.invariant-loop-gap
invariant-loop-gap l = HasGap l.added l.fn.at l.fn.expiries l.expiries l.gap

abbrev pub decreases-loop-gap : goal.decreases-loop-gap
decreases-loop-gap l = length l.expiries - l.gap
