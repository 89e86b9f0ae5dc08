use Rattle.std.proofs.Common.{◌≡◌, ◌++◌, drop}
use Rattle.lease_store.specs.Answers.{present_pairs}
use Rattle.lease_store.proofs.walks.copies_of_present.Given as goal

-- the copies so far, and those of what is left, are all
abbrev pub invariant-loop-key : goal.invariant-loop-key
invariant-loop-key l =
    l.copies.items ++ present_pairs l.now.0 (drop l.key-index l.entries) ≡ present_pairs l.now.0 l.entries
