use Rattle.std.proofs.Common.{arith, ◌≡◌, ℕ, ◌≤◌, ◌⊎◌, min, length}
use Rattle.wal_model.proofs.Entries.{common-end}
use Rattle.wal_model.proofs.run.common_len.Goals as goal

ends : (m n k : ℕ) → k ≡ min m n → (m ≤ k) ⊎ (n ≤ k)
ends m n k e = grind arith

pub returns-clause-common : goal.returns-clause-common
returns-clause-common c =
    let at : c.loop-place.place ≡ c.min-most.result = omega arith in
    rw (← at)
    (common-end _ _ _ c.loop-place.place
    (ends (length c.args.mine.now) (length c.args.theirs.now) c.loop-place.place
    (omega (arith, at, c.min-most.ensures)))
    c.loop-place.invariant)
