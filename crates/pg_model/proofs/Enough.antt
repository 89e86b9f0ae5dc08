-- So many members of a set have confirmed the end of a commit: by their number, and as a set of them.
use Rattle.std.proofs.Common.{◌≡◌, ℕ, zero, suc, ◌+◌, ◌*◌, ◌/◌, ◌%◌, ◌≤◌, ◌<◌, ◌==◌, ◌&&◌, Bool, true, false, cond, List, [], ◌∷◌, get_or, Option, Some, None, count_ones, refl, sym, ap, ◌∙◌, subst, arith}
use Rattle.std.specs.Int.{bit_at}
use lib.Count.{ones_step}
use Rattle.std.proofs.lemmas.Bool.{and_parts, and_from}
use Rattle.std.proofs.lemmas.Bool.Decides.{nat_tests}
use Rattle.std.proofs.lemmas.Nat.{ones_le_self}
use Rattle.std.proofs.lemmas.Nat.Bits.{bit_at-lt, bit_at-zero, bit_at-suc, bit_at_lowest}
use Rattle.pat_base.specs.declared.lsn.Lsn.{Lsn}
use Rattle.pat_base.specs.declared.member_set.MemberSet.{MemberSet}
use Rattle.pg_model.specs.Replication.{reaches, is_sure, sure_count, Reaches, EnoughReach}
use Rattle.pg_model.proofs.Reaching.{reaches-to, reaches-from}

-- ---- a lowest bit, and all above it
half : (b rest : ℕ) → b < 2 → (b + 2 * rest) / 2 ≡ rest
half b rest small = omega (arith, small)

ones-on : (b rest : ℕ) → b < 2 → count_ones (b + 2 * rest) ≡ b + count_ones rest
ones-on b rest small = omega (arith, ones_step (b + 2 * rest), ap count_ones (half b rest small), small)

bit-first : (b rest : ℕ) → b < 2 → bit_at (b + 2 * rest) 0 ≡ b
bit-first b rest small = omega (arith, bit_at_lowest (b + 2 * rest), small)

bit-next : (b rest k : ℕ) → b < 2 → bit_at (b + 2 * rest) (suc k) ≡ bit_at rest k
bit-next b rest k small = bit_at-suc (b + 2 * rest) k ∙ ap (λ (h : ℕ). bit_at h k) (half b rest small)

-- a number each of whose bits another has has at most as many
ones-within : (d a u : ℕ) → a ≤ d → ((k : ℕ) → bit_at a k ≤ bit_at u k) → count_ones a ≤ count_ones u
ones-within zero a u small h = omega (arith, small, ones_le_self a)
ones-within (suc d) a u small h =
    omega (
      arith,
      ones_step a,
      ones_step u,
      h 0,
      bit_at_lowest a,
      bit_at_lowest u,
      ones-within d (a / 2) (u / 2) (omega (arith, small))
          (λ k. omega (arith, h (suc k), bit_at-suc a k, bit_at-suc u k)),
    )

-- ---- who has confirmed, as bits, of those from this number on
abbrev one_if : Bool → ℕ
one_if b = cond b 1 0

abbrev sure_bits : ℕ → MemberSet → Lsn → List (Option Lsn) → ℕ
sure_bits number of end [] = 0
sure_bits number of end (c ∷ cs) = one_if (is_sure of number end c) + 2 * sure_bits (number + 1) of end cs

one-small : (b : Bool) → one_if b < 2
one-small true = omega arith
one-small false = omega arith

sure-counted : (number : ℕ) (of : MemberSet) (end : Lsn) (cs : List (Option Lsn))
    → count_ones (sure_bits number of end cs) ≡ sure_count number of end cs
sure-counted number of end [] = omega (arith, ones_le_self 0)
sure-counted number of end (c ∷ cs) =
    ones-on (one_if (is_sure of number end c)) (sure_bits (number + 1) of end cs) (one-small (is_sure of number end c))
    ∙ ap (λ (n : ℕ). one_if (is_sure of number end c) + n) (sure-counted (number + 1) of end cs)

one-true : (b : Bool) → one_if b ≡ 1 → b ≡ true
one-true true e = refl
one-true false e = absurd (omega (arith, e))

true-one : (b : Bool) → b ≡ true → one_if b ≡ 1
true-one true e = refl
true-one false e = cc

sure-each : (number : ℕ) (of : MemberSet) (end : Lsn) (cs : List (Option Lsn)) (k : ℕ)
    → bit_at (sure_bits number of end cs) k ≡ 1 → is_sure of (number + k) end (get_or cs k None) ≡ true
sure-each number of end [] k is = absurd (omega (arith, is, bit_at-zero k))
sure-each number of end (c ∷ cs) zero is =
    subst (λ (n : ℕ). is_sure of n end c ≡ true) (omega arith)
    (one-true (is_sure of number end c)
    (sym (bit-first (one_if (is_sure of number end c)) (sure_bits (number + 1) of end cs)
    (one-small (is_sure of number end c))) ∙ is))
sure-each number of end (c ∷ cs) (suc k) is =
    subst (λ (n : ℕ). is_sure of n end (get_or cs k None) ≡ true) (omega arith)
    (sure-each (number + 1) of end cs k
    (sym (bit-next (one_if (is_sure of number end c)) (sure_bits (number + 1) of end cs) k
    (one-small (is_sure of number end c))) ∙ is))

none-sure : (b : Bool) → (b && false) ≡ true → ⊥
none-sure true e = cc
none-sure false e = cc

each-sure : (number : ℕ) (of : MemberSet) (end : Lsn) (cs : List (Option Lsn)) (k : ℕ)
    → is_sure of (number + k) end (get_or cs k None) ≡ true → bit_at (sure_bits number of end cs) k ≡ 1
each-sure number of end [] k is = absurd (none-sure (bit_at of.bits (number + k) == 1) is)
each-sure number of end (c ∷ cs) zero is =
    bit-first (one_if (is_sure of number end c)) (sure_bits (number + 1) of end cs)
    (one-small (is_sure of number end c))
    ∙ true-one (is_sure of number end c) (subst (λ (n : ℕ). is_sure of n end c ≡ true) (omega arith) is)
each-sure number of end (c ∷ cs) (suc k) is =
    bit-next (one_if (is_sure of number end c)) (sure_bits (number + 1) of end cs) k
    (one-small (is_sure of number end c))
    ∙ each-sure (number + 1) of end cs k
    (subst (λ (n : ℕ). is_sure of n end (get_or cs k None) ≡ true) (omega arith) is)

-- ---- whom a commit waits for
is-one : (bit : ℕ) → bit ≡ 1 → (bit == 1) ≡ true
is-one bit e = grind (arith, nat_tests)

one-is : (bit : ℕ) → (bit == 1) ≡ true → bit ≡ 1
one-is bit e = grind (arith, nat_tests)

pub enough-to : (number : ℕ) (of : MemberSet) (end : Lsn) (cs : List (Option Lsn))
    → number ≤ sure_count 0 of end cs → EnoughReach number of end cs
enough-to number of end cs many =
    let parts = λ (k : ℕ) (is : bit_at (sure_bits 0 of end cs) k ≡ 1).
    and_parts (bit_at of.bits k == 1) (reaches end (get_or cs k None))
    (subst (λ (n : ℕ). is_sure of n end (get_or cs k None) ≡ true) (omega arith) (sure-each 0 of end cs k is)) in
    record {
      members = record { bits = sure_bits 0 of end cs };
      enough = omega (arith, many, sure-counted 0 of end cs);
      within = λ k is. one-is (bit_at of.bits k) (parts k is).0;
      each = λ k is. reaches-to end (get_or cs k None) (parts k is).1;
    }

below : (a u : ℕ) → a < 2 → (a ≡ 1 → u ≡ 1) → a ≤ u
below zero u small one = omega arith
below (suc zero) u small one = omega (arith, one refl)
below (suc (suc a)) u small one = absurd (omega (arith, small))

itself : (n : ℕ) → n ≤ n
itself n = omega arith

chosen-sure : (number : ℕ) (of : MemberSet) (end : Lsn) (cs : List (Option Lsn)) (found : EnoughReach number of end cs)
    (k : ℕ) → bit_at found.members.bits k ≡ 1 → is_sure of (0 + k) end (get_or cs k None) ≡ true
chosen-sure number of end cs found k is =
    subst (λ (n : ℕ). is_sure of n end (get_or cs k None) ≡ true) (omega arith)
    (and_from (bit_at of.bits k == 1) (reaches end (get_or cs k None)) (is-one (bit_at of.bits k) (found.within k is))
    (reaches-from end (get_or cs k None) (found.each k is)))

pub enough-from : (number : ℕ) (of : MemberSet) (end : Lsn) (cs : List (Option Lsn))
    → EnoughReach number of end cs → number ≤ sure_count 0 of end cs
enough-from number of end cs found =
    let within = ones-within found.members.bits found.members.bits (sure_bits 0 of end cs) (itself found.members.bits)
    (λ k. below (bit_at found.members.bits k) (bit_at (sure_bits 0 of end cs) k) (bit_at-lt found.members.bits k)
    (λ is. each-sure 0 of end cs k (chosen-sure number of end cs found k is))) in
    omega (arith, found.enough, sure-counted 0 of end cs, within)
