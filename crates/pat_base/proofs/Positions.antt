-- A log position is given by its bytes.
use Rattle.std.proofs.Common.{◌≡◌, ℕ, ◌≤◌, ◌^◌, min, ap, subst, arith}
use Rattle.std.proofs.Math.Nat.{min-le_right}
use Rattle.std.proofs.Math.Bridge.{le_prop}
use Rattle.pat_base.specs.declared.lsn.Lsn.{Lsn}
use Rattle.pat_base.specs.Lsn.{lsn_at}

same-position : (p q : ℕ) → p ≡ q → (a : p ≤ 2 ^ 63) (b : q ≤ 2 ^ 63)
    → ◌≡◌ {A = Lsn} (record { position = p; within = a }) (record { position = q; within = b })
same-position p q e =
    subst
    (λ (q : ℕ). (a : p ≤ 2 ^ 63) (b : q ≤ 2 ^ 63) →
    ◌≡◌ {A = Lsn} (record { position = p; within = a }) (record { position = q; within = b }))
    e
    (λ a b. ap (λ (x : p ≤ 2 ^ 63). record { position = p; within = x }) (le_prop a b))

-- positions of the same bytes are one
pub lsn-injective : (a b : Lsn) → a.position ≡ b.position → a ≡ b
lsn-injective a b e = same-position a.position b.position e a.within b.within

pub lsn_is : (l : Lsn) (bytes : ℕ) → l.position ≡ bytes → l ≡ lsn_at bytes
unfolding lsn_at
lsn_is l bytes e =
    same-position l.position (min bytes (2 ^ 63)) (omega (arith, e, l.within)) l.within (min-le_right bytes (2 ^ 63))

pub lsn_at-position : (bytes : ℕ) → bytes ≤ 2 ^ 63 → (lsn_at bytes).position ≡ bytes
unfolding lsn_at
lsn_at-position bytes h = omega (arith, h)
