use Rattle.std.proofs.Common.{◌≡◌, vec_len}
use Rattle.lease_store.proofs.InOrder.{put_all}
use Rattle.lease_store.specs.InKeyOrder.{in_key_order}
use Rattle.lease_store.proofs.sorting.sorted.Given as goal

-- what is left, put into the ordered ones, gives all in order
abbrev pub invariant-loop-key : goal.invariant-loop-key
invariant-loop-key l = put_all l.ordered.items l.pairs.items ≡ in_key_order l.fn.pairs.items

abbrev pub decreases-loop-key : goal.decreases-loop-key
decreases-loop-key l = vec_len l.pairs
