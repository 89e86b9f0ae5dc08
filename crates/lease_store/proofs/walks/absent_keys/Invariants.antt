use Rattle.std.proofs.Common.{◌≡◌, ◌++◌, drop}
use Rattle.lease_store.specs.Answers.{absent_keys}
use Rattle.lease_store.proofs.walks.absent_keys.Given as goal

-- the keys so far, and those of what is left, are all
abbrev pub invariant-loop-key : goal.invariant-loop-key
invariant-loop-key l = l.keys.items ++ absent_keys l.now.0 (drop l.key-index l.entries) ≡ absent_keys l.now.0 l.entries
