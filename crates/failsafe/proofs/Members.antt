-- Sets of members, with one more.
use Rattle.std.proofs.Common.{◌≡◌, ◌≢◌, ◌==◌, ◌&&◌, ◌||◌, ℕ, ◌≤◌, ◌<◌, ◌^◌, max, bit_and, bit_or, Bool, true, false, ◌⊎◌, inl, inr, refl, sym, ap, ◌∙◌, arith, ◌↔◌, IsTrue}
use Rattle.std.specs.Int.{bit_at}
use Rattle.std.proofs.lemmas.Bool.{cases_eq}
use Rattle.std.proofs.lemmas.Bool.Decides.{nat_tests}
use Rattle.std.proofs.lemmas.Nat.Bits.{bit_at_or, bit_at-lt, bit_at-zero, bit_at-pow_same, bit_at-pow_other, same_from_bits}
use Rattle.pat_base.specs.declared.member_id.MemberId.{MemberId}
use Rattle.pat_base.specs.declared.member_set.MemberSet.{MemberSet}
use Rattle.pat_base.proofs.MemberBits.{within_both, both_within}
use Rattle.failsafe.specs.Asks.{has, with_member, is_within}

pub same-set : (one other : MemberSet) → ((k : ℕ) → bit_at one.bits k ≡ bit_at other.bits k) → one ≡ other
same-set one other h = ap (λ (n : ℕ). record { bits = n }) (same_from_bits one.bits other.bits h)

here : (set : MemberSet) (m : MemberId) → bit_at (with_member set m).bits m.number ≡ 1
here set m =
    omega (arith, bit_at_or set.bits (2 ^ m.number) m.number, bit_at-pow_same m.number, bit_at-lt set.bits m.number)

there : (set : MemberSet) (m : MemberId) (k : ℕ) → k ≢ m.number → bit_at (with_member set m).bits k ≡ bit_at set.bits k
there set m k other = omega (arith, bit_at_or set.bits (2 ^ m.number) k, bit_at-pow_other m.number k other)

-- a set with one more is told by its bits
pub with-is : (set result : MemberSet) (m : MemberId) → bit_at result.bits m.number ≡ 1
    → ((k : ℕ) → k ≢ m.number → bit_at result.bits k ≡ bit_at set.bits k) → result ≡ with_member set m
with-is set result m same others = same-set result (with_member set m) (λ k. by k (cases_eq k m.number))
  where
    by : (k : ℕ) → (k ≡ m.number) ⊎ (k ≢ m.number) → bit_at result.bits k ≡ bit_at (with_member set m).bits k
    by k (inl e) = ap (bit_at result.bits) e ∙ same ∙ sym (here set m) ∙ ap (bit_at (with_member set m).bits) (sym e)
    by k (inr ne) = others k ne ∙ sym (there set m k ne)

pub numbers-same : (m n : ℕ) → (m == n) ≡ true → m ≡ n
numbers-same m n e = grind (arith, nat_tests)

pub same-numbers : (m n : ℕ) → m ≡ n → (m == n) ≡ true
same-numbers m n e = grind (arith, nat_tests)

pub differ : (m n : ℕ) → m ≢ n → (m == n) ≡ false
differ m n e = grind (arith, nat_tests)

-- who is in a set with one more
pub has-with : (set : MemberSet) (m : MemberId) (k : ℕ) → has (with_member set m) k ≡ (has set k || (m.number == k))
has-with set m k = by (cases_eq k m.number)
  where
    or-true : (b : Bool) → (b || true) ≡ true
    or-true true = refl
    or-true false = refl

    or-false : (b : Bool) → (b || false) ≡ b
    or-false true = refl
    or-false false = refl

    by : (k ≡ m.number) ⊎ (k ≢ m.number) → has (with_member set m) k ≡ (has set k || (m.number == k))
    by (inl e) =
        same-numbers (bit_at (with_member set m).bits k) 1 (ap (bit_at (with_member set m).bits) e ∙ here set m)
        ∙ sym (ap (λ b. has set k || b) (same-numbers m.number k (sym e)) ∙ or-true (has set k))
    by (inr ne) = ap (λ n. n == 1) (there set m k ne)
        ∙ sym (ap (λ b. has set k || b) (differ m.number k (λ e. ne (sym e))) ∙ or-false (has set k))

-- nobody is in the set of nobody
pub has-nobody : (k : ℕ) → has (record { bits = 0 }) k ≡ false
has-nobody k = differ (bit_at 0 k) 1 (λ e. omega (arith, bit_at-zero k, e))

same-tests : (x y : Bool) → (x ≡ true → y ≡ true) → (y ≡ true → x ≡ true) → x ≡ y
same-tests true y to back = sym (to refl)
same-tests false true to back = back refl
same-tests false false to back = refl

pub within-is : (one other : MemberSet) (result : Bool)
    → (IsTrue result ↔ ((k : ℕ) → bit_at one.bits k ≤ bit_at other.bits k)) → result ≡ is_within one other
within-is one other result h =
    same-tests result (is_within one other)
    (λ is. same-numbers (bit_and one.bits other.bits) one.bits (both_within one.bits other.bits (h.0 is)))
    (λ is. h.1 (within_both one.bits other.bits (numbers-same (bit_and one.bits other.bits) one.bits is)))

-- each member of a set that is within another is in that too
pub within-has : (one other : MemberSet) → is_within one other ≡ true → (k : ℕ) → has one k ≡ true → has other k ≡ true
within-has one other h k is =
    let below = within_both one.bits other.bits (numbers-same (bit_and one.bits other.bits) one.bits h) k in
    let least = bit_at-lt other.bits k in
    let one-is = numbers-same (bit_at one.bits k) 1 is in
    same-numbers (bit_at other.bits k) 1 (omega (arith, below, least, one-is))

-- a set is within another whose members are in that too
pub has-within : (one other : MemberSet) → ((k : ℕ) → has one k ≡ true → has other k ≡ true)
    → is_within one other ≡ true
has-within one other h = same-numbers (bit_and one.bits other.bits) one.bits
    (both_within one.bits other.bits (λ k. by k (cases_eq (bit_at one.bits k) 1)))
  where
    by : (k : ℕ) → (bit_at one.bits k ≡ 1) ⊎ (bit_at one.bits k ≢ 1) → bit_at one.bits k ≤ bit_at other.bits k
    by k (inl e) = omega (arith, e, numbers-same (bit_at other.bits k) 1 (h k (same-numbers (bit_at one.bits k) 1 e)))
    by k (inr ne) = omega (arith, ne, bit_at-lt one.bits k)
