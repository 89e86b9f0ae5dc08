-- Laws of the order of keys.
use Rattle.std.proofs.Common.{◌≡◌, ℕ, ◌<◌, refl, ap, subst, arith}
use Rattle.std.proofs.Math.Bridge.{le_prop}
use Rattle.std.specs.Ordering.{nat_cmp}
use Rattle.std.specs.Cmp.{IsTotalOrder, nat_cmp_total}
use Rattle.std.proofs.lemmas.Cmp.{on_total, then_total}
use Rattle.std.proofs.lemmas.Map.Lookups.{CmpEqualImpliesEq, exact_pairs, exact_unsigned}
use Rattle.pat_base.specs.declared.member_id.MemberId.{MemberId}
use Rattle.store_keys.specs.declared.key.Key.{Key}
use Rattle.store_keys.specs.declared.key.Key.TheVariants.{Leader, Config, Member, Failover, Sync, Status, History, Failsafe, Scheduled}
use Rattle.lease_store.specs.KeyOrder.{key_rank_of, key_number_of, key_cmp}
use Rattle.pat_base.specs.declared.member_id.TheConstants.{MOST_MEMBERS}

alike : (k : ℕ) (p q : k < MOST_MEMBERS)
    → ◌≡◌ {A = MemberId} (record { number = k; below = p }) (record { number = k; below = q })
alike k p q = ap (λ (x : k < MOST_MEMBERS). record { number = k; below = x }) (le_prop p q)

-- members of one number are one
pub same_member : (m n : MemberId) → m.number ≡ n.number → m ≡ n
same_member m n e = subst (λ (k : ℕ). (q : k < MOST_MEMBERS) → ◌≡◌ {A = MemberId} m (record { number = k; below = q }))
    e (λ q. alike m.number m.below q) n.below

same_parts : (a b : Key) → key_rank_of a ≡ key_rank_of b → key_number_of a ≡ key_number_of b → a ≡ b
same_parts Leader Leader p q = refl
same_parts Config Config p q = refl
same_parts (Member m) (Member n) p q = ap Member (same_member m n q)
same_parts Failover Failover p q = refl
same_parts Sync Sync p q = refl
same_parts Status Status p q = refl
same_parts (History m) (History n) p q = ap History q
same_parts Failsafe Failsafe p q = refl
same_parts Scheduled Scheduled p q = refl
same_parts _ _ p q = absurd (omega (arith, p))

pub keys_total : IsTotalOrder key_cmp
keys_total = then_total (on_total key_rank_of nat_cmp_total) (on_total key_number_of nat_cmp_total)

-- keys that compare alike are one
pub keys_exact : CmpEqualImpliesEq key_cmp
keys_exact a b h =
    let e = exact_pairs nat_cmp nat_cmp exact_unsigned exact_unsigned (key_rank_of a, key_number_of a)
    (key_rank_of b, key_number_of b) h in
    same_parts a b (ap (λ (p : ℕ × ℕ). p.0) e) (ap (λ (p : ℕ × ℕ). p.1) e)
