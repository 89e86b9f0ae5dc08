use Rattle.std.proofs.Common.{◌≡◌, take}
use Rattle.lease_store.proofs.walks.copies_of.Given as goal

-- the copies so far
abbrev pub invariant-loop-key : goal.invariant-loop-key
invariant-loop-key l = l.copies.items ≡ take l.key-index l.entries
