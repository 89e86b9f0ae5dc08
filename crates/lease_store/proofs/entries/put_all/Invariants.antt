use Rattle.std.proofs.Common.{◌≡◌, ◌≤◌, ◌+◌, length, vec_len, vec_capacity}
use Rattle.std.specs.Vec.Iter.{into_iter_items, into_iter_len}
use Rattle.lease_store.specs.Expiries.{AreExpiriesOf}
use Rattle.lease_store.specs.Puts.{puts_over}
use Rattle.lease_store.proofs.entries.put_all.Given as goal

-- the pairs that are left are still to be put, and there is room for them and for their expiries
abbrev pub invariant-loop-key : goal.invariant-loop-key
invariant-loop-key l =
    (puts_over l.entries.items (into_iter_items l.key-iterator) ≡ puts_over l.fn.entries.items l.fn.puts.items)
    × (vec_len l.entries + length (into_iter_items l.key-iterator) ≤ vec_capacity l.entries)
    × (vec_len l.expiries + length (into_iter_items l.key-iterator) ≤ vec_capacity l.expiries)
    × AreExpiriesOf l.entries.items l.expiries.items
    × (into_iter_len l.key-iterator ≡ length (into_iter_items l.key-iterator))
