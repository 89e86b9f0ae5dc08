-- Sets by their bits, and sets that are put together member by member.
use Rattle.std.proofs.Common.{◌≡◌, ◌≢◌, ◌==◌, ℕ, ◌+◌, ◌<◌, ◌≤◌, min, max, Bool, true, false, cond, List, length, get_or, take, set, map, ◌⊎◌, inl, inr, refl, sym, ap, ◌∙◌, arith, bit_and, ◌↔◌, IsTrue}
use Rattle.std.specs.Int.{bit_at}
use Rattle.std.proofs.lemmas.Bool.{cases_lt, cases_eq}
use Rattle.std.proofs.lemmas.Bool.Decides.{nat_tests}
use Rattle.std.proofs.lemmas.List.{get_or-take, get_or_past, get_or-map, length-map, length-take, take_all}
use Rattle.std.proofs.lemmas.List.Edits.{fill_by_more}
use Rattle.std.proofs.lemmas.Nat.Bits.{bit_at_and, bit_at_or, bit_at-lt, bit_at-zero, same_from_bits}
use Rattle.std.proofs.lemmas.Simd.{bit_mask_l}
use Rattle.pat_base.specs.declared.member_set.MemberSet.{MemberSet}
use Rattle.pat_base.proofs.MemberBits.{within_both, both_within}
use Rattle.sync_state.specs.Laws.{IsWithin, IsBoth, IsEither}
use Rattle.sync_state.specs.Sets.{nobody, set_of, both, either, is_within}

-- sets with the same bits are one
pub same-set : (one other : MemberSet) → ((k : ℕ) → bit_at one.bits k ≡ bit_at other.bits k) → one ≡ other
same-set one other h = ap (λ (n : ℕ). record { bits = n }) (same_from_bits one.bits other.bits h)

pub both-is : (one other result : MemberSet)
    → ((k : ℕ) → bit_at result.bits k ≡ min (bit_at one.bits k) (bit_at other.bits k)) → result ≡ both one other
both-is one other result h = same-set result (both one other) (λ k. h k ∙ sym (bit_at_and one.bits other.bits k))

pub either-is : (one other result : MemberSet)
    → ((k : ℕ) → bit_at result.bits k ≡ max (bit_at one.bits k) (bit_at other.bits k)) → result ≡ either one other
either-is one other result h = same-set result (either one other) (λ k. h k ∙ sym (bit_at_or one.bits other.bits k))

pub same-numbers : (m n : ℕ) → m ≡ n → (m == n) ≡ true
same-numbers m n e = grind (arith, nat_tests)

pub numbers-same : (m n : ℕ) → (m == n) ≡ true → m ≡ n
numbers-same m n e = grind (arith, nat_tests)

pub same-tests : (x y : Bool) → (x ≡ true → y ≡ true) → (y ≡ true → x ≡ true) → x ≡ y
same-tests true y there back = sym (there refl)
same-tests false true there back = back refl
same-tests false false there back = refl

pub within-is : (one other : MemberSet) (result : Bool)
    → (IsTrue result ↔ ((k : ℕ) → bit_at one.bits k ≤ bit_at other.bits k)) → result ≡ is_within one other
within-is one other result h =
    same-tests result (is_within one other)
    (λ is. same-numbers (bit_and one.bits other.bits) one.bits (both_within one.bits other.bits (h.0 is)))
    (λ is. h.1 (within_both one.bits other.bits (numbers-same (bit_and one.bits other.bits) one.bits is)))

-- ---- a set from a list
abbrev pub bit_where : Bool → ℕ
bit_where chosen = cond chosen 1 0

pub bit-set_of : (chosen : List Bool) (k : ℕ) → bit_at (set_of chosen).bits k ≡ bit_where (get_or chosen k false)
bit-set_of chosen k = bit_mask_l chosen k

one-bit : (t : Bool) → bit_where t ≡ 1 → t ≡ true
one-bit true e = refl
one-bit false e = absurd (omega (arith, e))

-- who is in the set of those that are chosen
pub chosen-from : {X : Type 0} (chosen : X → Bool) (xs : List X) (k : ℕ) (d : X)
    → bit_at (set_of (map chosen xs)).bits k ≡ 1 → (k < length xs) × (chosen (get_or xs k d) ≡ true)
chosen-from chosen xs k d is =
    let there : get_or (map chosen xs) k false ≡ true =
    one-bit (get_or (map chosen xs) k false) (sym (bit-set_of (map chosen xs) k) ∙ is) in
    elim (cases_lt k (length xs)) [
      | inl lt ↦ (lt, sym (get_or-map chosen xs k d false lt) ∙ there)
      | inr ge ↦
          absurd (not-both (sym (get_or_past (map chosen xs) k false (omega (arith, length-map xs chosen))) ∙ there))
    ]
  where
    not-both : false ≡ true → ⊥
    not-both e = cc

pub chosen-to : {X : Type 0} (chosen : X → Bool) (xs : List X) (k : ℕ) (d : X) → k < length xs
    → chosen (get_or xs k d) ≡ true → bit_at (set_of (map chosen xs)).bits k ≡ 1
chosen-to chosen xs k d within is =
    bit-set_of (map chosen xs) k ∙ ap bit_where (get_or-map chosen xs k d false within ∙ is)

-- ---- sets within sets
pub none-within : (set : MemberSet) → IsWithin nobody set
none-within set k is = absurd (omega (arith, bit_at-zero k, is))

pub is-within : (one other : MemberSet) → is_within one other ≡ true → IsWithin one other
is-within one other h k is =
    let below = within_both one.bits other.bits (numbers-same (bit_and one.bits other.bits) one.bits h) k in
    let least = bit_at-lt other.bits k in
    omega (arith, below, least, is)

pub both-members : (one other : MemberSet) → IsBoth one other (both one other)
both-members one other = record {
  first = λ k is. first k is;
  second = λ k is. second k is;
  whole = λ k is is'. whole k is is';
}
  where
    bit : (k : ℕ) → bit_at (both one other).bits k ≡ min (bit_at one.bits k) (bit_at other.bits k)
    bit k = bit_at_and one.bits other.bits k

    first : (k : ℕ) → bit_at (both one other).bits k ≡ 1 → bit_at one.bits k ≡ 1
    first k is = omega (arith, bit k, is, bit_at-lt one.bits k)

    second : (k : ℕ) → bit_at (both one other).bits k ≡ 1 → bit_at other.bits k ≡ 1
    second k is = omega (arith, bit k, is, bit_at-lt other.bits k)

    whole : (k : ℕ) → bit_at one.bits k ≡ 1 → bit_at other.bits k ≡ 1 → bit_at (both one other).bits k ≡ 1
    whole k is is' = omega (arith, bit k, is, is')

pub either-members : (one other : MemberSet) → IsEither one other (either one other)
either-members one other = record {
  first = λ k is. first k is;
  second = λ k is. second k is;
  whole = λ k is. whole k is (cases_eq (bit_at one.bits k) 1);
}
  where
    bit : (k : ℕ) → bit_at (either one other).bits k ≡ max (bit_at one.bits k) (bit_at other.bits k)
    bit k = bit_at_or one.bits other.bits k

    first : (k : ℕ) → bit_at one.bits k ≡ 1 → bit_at (either one other).bits k ≡ 1
    first k is = omega (arith, bit k, is, bit_at-lt other.bits k)

    second : (k : ℕ) → bit_at other.bits k ≡ 1 → bit_at (either one other).bits k ≡ 1
    second k is = omega (arith, bit k, is, bit_at-lt one.bits k)

    whole : (k : ℕ) → bit_at (either one other).bits k ≡ 1 → (bit_at one.bits k ≡ 1) ⊎ (bit_at one.bits k ≡ 1 → ⊥)
        → (bit_at one.bits k ≡ 1) ⊎ (bit_at other.bits k ≡ 1)
    whole k is (inl here) = inl here
    whole k is (inr out) = inr (omega (arith, bit k, is, out, bit_at-lt one.bits k, bit_at-lt other.bits k))

at-take : (chosen : List Bool) (n k : ℕ) → n < length chosen → k ≢ n
    → get_or (take (n + 1) chosen) k false ≡ get_or (take n chosen) k false
at-take chosen n k within other =
    elim (cases_lt k n) [
      | inl lt ↦ get_or-take (n + 1) chosen k false (omega arith) ∙ sym (get_or-take n chosen k false lt)
      | inr ge ↦ get_or_past (take (n + 1) chosen) k false (omega (arith, length-take {A = Bool}))
          ∙ sym (get_or_past (take n chosen) k false (omega (arith, length-take {A = Bool})))
    ]

next-bit : (chosen : List Bool) (n : ℕ) (set next : MemberSet) → n < length chosen
    → set ≡ set_of (take n chosen) → bit_at next.bits n ≡ bit_where (get_or chosen n false)
    → ((k : ℕ) → k ≢ n → bit_at next.bits k ≡ bit_at set.bits k) → (k : ℕ)
    → bit_at next.bits k ≡ bit_at (set_of (take (n + 1) chosen)).bits k
next-bit chosen n set next within so_far here others k =
    elim (cases_eq k n) [
      | inl e ↦ ap (bit_at next.bits) e ∙ here
          ∙ ap bit_where
          (sym (get_or-take (n + 1) chosen n false (omega arith))
          ∙ ap (λ i. get_or (take (n + 1) chosen) i false) (sym e))
          ∙ sym (bit-set_of (take (n + 1) chosen) k)
      | inr ne ↦ others k ne ∙ ap (λ (s : MemberSet). bit_at s.bits k) so_far ∙ bit-set_of (take n chosen) k
          ∙ ap bit_where (sym (at-take chosen n k within ne)) ∙ sym (bit-set_of (take (n + 1) chosen) k)
    ]

-- one more member of the list, which is chosen
pub set-in : {X : Type 0} (chosen : X → Bool) (xs : List X) (n : ℕ) (d : X) (set next : MemberSet) → n < length xs
    → set ≡ set_of (take n (map chosen xs)) → chosen (get_or xs n d) ≡ true → bit_at next.bits n ≡ 1
    → ((k : ℕ) → k ≢ n → bit_at next.bits k ≡ bit_at set.bits k) → next ≡ set_of (take (n + 1) (map chosen xs))
set-in chosen xs n d set next within so_far is here others =
    same-set next (set_of (take (n + 1) (map chosen xs)))
    (next-bit (map chosen xs) n set next (omega (arith, length-map xs chosen)) so_far
    (here ∙ ap bit_where (sym (get_or-map chosen xs n d false within ∙ is))) others)

-- one more, which isn't
pub set-out : {X : Type 0} (chosen : X → Bool) (xs : List X) (n : ℕ) (d : X) (set : MemberSet) → n < length xs
    → set ≡ set_of (take n (map chosen xs)) → chosen (get_or xs n d) ≡ false
    → set ≡ set_of (take (n + 1) (map chosen xs))
set-out chosen xs n d set within so_far is =
    let past : get_or (take n (map chosen xs)) n false ≡ false =
    get_or_past (take n (map chosen xs)) n false (omega (arith, length-take n (map chosen xs))) in
    same-set set (set_of (take (n + 1) (map chosen xs)))
    (next-bit (map chosen xs) n set set (omega (arith, length-map xs chosen)) so_far
    (ap (λ (s : MemberSet). bit_at s.bits n) so_far ∙ bit-set_of (take n (map chosen xs)) n
    ∙ ap bit_where (past ∙ sym (get_or-map chosen xs n d false within ∙ is)))
    (λ k other. refl))

-- the whole list
pub set-all : {X : Type 0} (chosen : X → Bool) (xs : List X) (n : ℕ) (set : MemberSet) → length xs ≡ n
    → set ≡ set_of (take n (map chosen xs)) → set ≡ set_of (map chosen xs)
set-all chosen xs n set end so_far =
    so_far ∙ ap set_of (take_all n (map chosen xs) (omega (arith, length-map xs chosen)))

-- ---- a list that is written item by item
pub fill-more : {X : Type 0} (f : ℕ → X) (xs : List X) (n : ℕ) (y d : X) → n < length xs → y ≡ f n
    → ((k : ℕ) → k < n → get_or xs k d ≡ f k) → (k : ℕ) → k < n + 1 → get_or (set xs n y) k d ≡ f k
fill-more f xs n y d within is so_far k below =
    ap (λ z. get_or (set xs n z) k d) is ∙ fill_by_more f xs n d within so_far k below
