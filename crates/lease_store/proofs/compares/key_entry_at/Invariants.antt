use Rattle.std.proofs.Common.{◌≡◌, drop}
use Rattle.std.specs.FinMap.{find}
use Rattle.lease_store.specs.KeyOrder.{key_cmp}
use Rattle.lease_store.proofs.compares.key_entry_at.Given as goal

-- what is left has at the key what all have
abbrev pub invariant-loop-other : goal.invariant-loop-other
invariant-loop-other l = find key_cmp l.key (drop l.other-index l.pairs) ≡ find key_cmp l.key l.pairs
