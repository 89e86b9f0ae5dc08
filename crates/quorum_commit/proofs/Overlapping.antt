-- What overlap comes to: members that answer and members that confirm have one in common.
use Rattle.std.proofs.Common.{◌≡◌, ℕ, zero, suc, ◌+◌, ◌-◌, ◌/◌, ◌≤◌, ◌<◌, ◌⊎◌, inl, inr, min, nat_le, nat_lt, ◌&&◌, ◌||◌, Bool, true, false, refl, sym, ◌∙◌, ap, arith, bit_and, bit_or}
use Rattle.std.specs.Int.{bit_at}
use Rattle.std.proofs.lemmas.Bool.Decides.{nat_tests}
use Rattle.std.proofs.lemmas.Nat.Bits.{bit_at_and, bit_at_or, bit_at-lt, bit_at_lowest, bit_at-suc, bit_at-zero}
use Rattle.std.proofs.lemmas.Nat.{and_le_l, ones_le_self}
use lib.Bits.{and_step}
use Rattle.pat_base.specs.declared.member_set.MemberSet.{MemberSet}
use Rattle.sync_state.specs.Laws.{IsWithin}
use Rattle.sync_state.specs.Sets.{either}
use Rattle.quorum_commit.specs.declared.quorums.Need.{Need}
use Rattle.quorum_commit.specs.declared.quorums.Quorum.{Quorum}
use Rattle.quorum_commit.specs.Laws.{Answers, EnoughHave, FewLack, Meet, Share}
use Rattle.quorum_commit.specs.Quorums.{adds_counted, difference, may_publish, overlap, size}
use Rattle.quorum_commit.proofs.Counting.{HasBit, covered, disjoint, some-bit}

-- ---- bits
pub bit-le : (n k : ℕ) → bit_at n k ≤ 1
bit-le n k = omega (arith, bit_at-lt n k)

-- the bits of a number without those of another
pub bit-without : (k a b : ℕ) → bit_at (a - bit_and a b) k ≡ bit_at a k - min (bit_at a k) (bit_at b k)
bit-without zero a b = omega (
  arith,
  bit_at_lowest (a - bit_and a b),
  bit_at_lowest a,
  bit_at_lowest b,
  bit_at_lowest (bit_and a b),
  bit_at_and a b 0,
  and_le_l a b,
)
bit-without (suc k) a b =
    let half : (a - bit_and a b) / 2 ≡ a / 2 - bit_and (a / 2) (b / 2) =
    omega (arith, and_step a b, and_le_l a b, and_le_l (a / 2) (b / 2)) in
    bit_at-suc (a - bit_and a b) k ∙ ap (λ n. bit_at n k) half ∙ bit-without k (a / 2) (b / 2)
    ∙ omega (arith, bit_at-suc a k, bit_at-suc b k)

-- ---- sets
-- two sets have a member in common, or none
common : (one other : MemberSet) → Share one other ⊎ ((k : ℕ) → bit_at one.bits k + bit_at other.bits k ≤ 1)
common one other = by (bit_and one.bits other.bits) refl
  where
    shared : (n : ℕ) → n ≡ bit_and one.bits other.bits → HasBit n → Share one other
    shared n e bit = record {
      member = bit.at;
      first = omega (
        arith,
        bit.is,
        ap (λ m. bit_at m bit.at) e,
        bit_at_and one.bits other.bits bit.at,
        bit-le one.bits bit.at,
        bit-le other.bits bit.at,
      );
      second = omega (
        arith,
        bit.is,
        ap (λ m. bit_at m bit.at) e,
        bit_at_and one.bits other.bits bit.at,
        bit-le one.bits bit.at,
        bit-le other.bits bit.at,
      );
    }

    by : (n : ℕ) → n ≡ bit_and one.bits other.bits
        → Share one other ⊎ ((k : ℕ) → bit_at one.bits k + bit_at other.bits k ≤ 1)
    by zero e = inr (λ k. omega (
      arith,
      bit_at_and one.bits other.bits k,
      ap (λ m. bit_at m k) (sym e),
      bit-le one.bits k,
      bit-le other.bits k,
      bit_at-zero k,
    ))
    by (suc n) e = inl (shared (suc n) e (some-bit (suc n) (omega arith)))

within-bit : (one other : MemberSet) → IsWithin one other → (k : ℕ) → bit_at one.bits k ≤ bit_at other.bits k
within-bit one other within k = by (bit_at one.bits k) refl
  where
    by : (n : ℕ) → bit_at one.bits k ≡ n → bit_at one.bits k ≤ bit_at other.bits k
    by zero e = omega (arith, e)
    by (suc n) e = omega (arith, e, bit-le one.bits k, within k (omega (arith, e, bit-le one.bits k)))

-- sets without a common member, in two others, have together at most as many members as these
apart : (one other first second : MemberSet) → IsWithin one first → IsWithin other second
    → ((k : ℕ) → bit_at one.bits k + bit_at other.bits k ≤ 1) → size one + size other ≤ size (either first second)
apart one other first second in_first in_second none =
    disjoint one.bits other.bits (bit_or first.bits second.bits)
    (λ k. omega (
      arith,
      none k,
      within-bit one first in_first k,
      within-bit other second in_second k,
      bit_at_or first.bits second.bits k,
    ))

pub less-from : (a b : ℕ) → nat_lt a b ≡ true → a < b
less-from a b e = grind (arith, nat_tests)

pub le-from : (a b : ℕ) → nat_le a b ≡ true → a ≤ b
le-from a b e = grind (arith, nat_tests)

pub meet : (key : Quorum) (need : Need) → overlap key need ≡ true → Meet key need
meet key need over answering confirming answers acknowledges = elim (common answering confirming) [
  | inl share ↦ share
  | inr none ↦ absurd (omega (
    arith,
    less-from (size (either key.standbys need.of)) (need.number + key.number + 1) over,
    answers.enough,
    acknowledges.enough,
    apart answering confirming key.standbys need.of answers.standbys acknowledges.needed none,
  ))
]

-- ---- who lacks a commit
out-or-in : (n m : ℕ) → n ≡ 1 → m ≤ 1 → (n - min n m ≡ 1) ⊎ (m ≡ 1)
out-or-in n zero e le = inl (omega (arith, e))
out-or-in n (suc m) e le = inr (omega (arith, le))

out-within : (one other : MemberSet) → IsWithin (difference one other) one
out-within one other k is = omega (arith, is, bit-without k one.bits other.bits, bit-le one.bits k)

pub few : (key : Quorum) (need : Need) (having : MemberSet) → overlap key need ≡ true → EnoughHave need having
    → FewLack key having
few key need having over enough = record {
  spared = difference key.standbys enough.members;
  few = omega (
    arith,
    less-from (size (either key.standbys need.of)) (need.number + key.number + 1) over,
    enough.acknowledges.enough,
    apart (difference key.standbys enough.members) enough.members key.standbys need.of
        (out-within key.standbys enough.members) enough.acknowledges.needed
        (λ k. omega (
          arith,
          bit-without k key.standbys.bits enough.members.bits,
          bit-le key.standbys.bits k,
          bit-le enough.members.bits k,
        )),
  );
  others = λ k is.
      elim (out-or-in (bit_at key.standbys.bits k) (bit_at enough.members.bits k) is (bit-le enough.members.bits k)) [
        | inl out ↦ inl (bit-without k key.standbys.bits enough.members.bits ∙ out)
        | inr has ↦ inr (enough.have k has)
      ];
}

pub found : (key : Quorum) (having answering : MemberSet) → FewLack key having → Answers key answering
    → Share answering having
found key having answering lack answers = elim (common answering having) [
  | inl share ↦ share
  | inr none ↦ absurd (omega (arith, lack.few, answers.enough, inside none))
]
  where
    spares : ((k : ℕ) → bit_at answering.bits k + bit_at having.bits k ≤ 1) → IsWithin answering lack.spared
    spares none k is = elim (lack.others k (answers.standbys k is)) [
      | inl spared ↦ spared
      | inr has ↦ absurd (omega (arith, none k, is, has))
    ]

    inside : ((k : ℕ) → bit_at answering.bits k + bit_at having.bits k ≤ 1) → size answering ≤ size lack.spared
    inside none = omega (
      arith,
      ones_le_self 0,
      covered lack.spared.bits 0 answering.bits (λ k. omega (arith, within-bit answering lack.spared (spares none) k)),
    )

or-cases : (x y : Bool) → (x || y) ≡ true → (x ≡ true) ⊎ (y ≡ true)
or-cases true y e = inl refl
or-cases false y e = inr e

and-cases : (x y : Bool) → (x && y) ≡ true → (x ≡ true) × (y ≡ true)
and-cases true y e = (refl, e)
and-cases false y e = absurd (no-way e)
  where
    no-way : false ≡ true → ⊥
    no-way e = cc

-- the members that are added are counted
counted : (old new : Quorum) (having : MemberSet) → adds_counted old new ≡ true → FewLack old having
    → FewLack new having
counted old new having adds lack = record {
  spared = either (difference new.standbys old.standbys) lack.spared;
  few = omega (
    arith,
    le-from (size (difference new.standbys old.standbys) + old.number) new.number adds,
    lack.few,
    covered (difference new.standbys old.standbys).bits lack.spared.bits
        (bit_or (difference new.standbys old.standbys).bits lack.spared.bits)
        (λ k. omega (arith, bit_at_or (difference new.standbys old.standbys).bits lack.spared.bits k)),
  );
  others = λ k is.
      elim (out-or-in (bit_at new.standbys.bits k) (bit_at old.standbys.bits k) is (bit-le old.standbys.bits k)) [
        | inl out ↦ inl (omega (
          arith,
          bit_at_or (difference new.standbys old.standbys).bits lack.spared.bits k,
          bit-without k new.standbys.bits old.standbys.bits,
          out,
          bit-le lack.spared.bits k,
        ))
        | inr was ↦ elim (lack.others k was) [
          | inl spared ↦ inl (omega (
            arith,
            bit_at_or (difference new.standbys old.standbys).bits lack.spared.bits k,
            spared,
            bit-le (difference new.standbys old.standbys).bits k,
          ))
          | inr has ↦ inr has
        ]
      ];
}

pub published : (old new : Quorum) (need : Need) (confirmed : Bool) (having : MemberSet)
    → may_publish old new need confirmed ≡ true → FewLack old having
    → (confirmed ≡ true → EnoughHave need having) → FewLack new having
published old new need confirmed having may lack enough =
    let both = and-cases (overlap new need) (adds_counted old new || confirmed) may in
    elim (or-cases (adds_counted old new) confirmed both.1) [
      | inl adds ↦ counted old new having adds lack
      | inr is ↦ few new need having both.0 (enough is)
    ]
