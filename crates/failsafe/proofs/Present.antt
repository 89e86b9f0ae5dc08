-- Who is in the sets that a leader lists and asks.
use Rattle.std.proofs.Common.{◌≡◌, ◌≢◌, ◌==◌, ◌&&◌, ◌||◌, not, ℕ, zero, suc, ◌<◌, ◌≤◌, ◌^◌, bit_xor, Bool, true, false, Option, Some, None, ◌⊎◌, inl, inr, refl, sym, ap, ◌∙◌, arith}
use Rattle.std.specs.Int.{bit_at}
use Rattle.std.specs.Prelude.{if◌then◌else◌}
use Rattle.std.proofs.lemmas.Bool.{cases_eq, cases_lt}
use Rattle.std.proofs.lemmas.Bool.Decides.{nat_tests}
use Rattle.std.proofs.lemmas.Nat.Bits.{bit_at_xor, bit_at-lt, bit_at-pow_same, bit_at-pow_other, same_from_bits}
use Rattle.pat_base.specs.MemberId.{member_of}
use Rattle.pat_base.specs.declared.member_id.MemberId.{MemberId}
use Rattle.pat_base.specs.declared.member_id.TheConstants.{MOST_MEMBERS}
use Rattle.pat_base.specs.declared.member_set.MemberSet.{MemberSet}
use Rattle.pat_base.proofs.Members.{member_of-number, number-member_of}
use Rattle.cluster_view.specs.Snapshots.{SnapshotFacts}
use Rattle.failsafe.specs.Asks.{has, with_member}
use Rattle.failsafe.specs.Listing.{without_member, is_present, with_present, present_below, present_in}
use Rattle.failsafe.proofs.Members.{same-set, numbers-same, same-numbers, differ, has-with, has-nobody}

no : true ≡ false → ⊥
no e = cc

-- ---- the members that have a member key
-- a member that isn't among those below a number has yet to be looked at; one that is stands as its key says
abbrev IsLookedAt : SnapshotFacts → MemberId → ℕ → Type 0
IsLookedAt seen m n = (m.number < n → has (present_below seen n) m.number ≡ is_present seen m)
    × (n ≤ m.number → has (present_below seen n) m.number ≡ false)

or-false : (b : Bool) → (b || false) ≡ b
or-false true = refl
or-false false = refl

or-true : (b : Bool) → (b || true) ≡ true
or-true true = refl
or-true false = refl

-- another member changes nothing of it
with-other : (seen : SnapshotFacts) (found : Option MemberId) (set : MemberSet) (k : ℕ)
    → ((other : MemberId) → found ≡ Some other → (other.number == k) ≡ false)
    → has (with_present seen found set) k ≡ has set k
with-other seen None set k apart = refl
with-other seen (Some other) set k apart = by (is_present seen other)
  where
    by : (t : Bool) → has (if t then with_member set other else set) k ≡ has set k
    by true = has-with set other k ∙ ap (λ b. has set k || b) (apart other refl) ∙ or-false (has set k)
    by false = refl

-- the member itself comes in where it has a member key
with-own : (seen : SnapshotFacts) (m : MemberId) (set : MemberSet) → has set m.number ≡ false
    → has (with_present seen (Some m) set) m.number ≡ is_present seen m
with-own seen m set out = by (is_present seen m)
  where
    by : (t : Bool) → has (if t then with_member set m else set) m.number ≡ t
    by true = has-with set m m.number ∙ ap (λ b. has set m.number || b) (same-numbers m.number m.number refl)
        ∙ or-true (has set m.number)
    by false = out

looked-at : (seen : SnapshotFacts) (m : MemberId) (n : ℕ) → IsLookedAt seen m n
looked-at seen m zero = ((λ below. absurd (omega (arith, below))), (λ above. has-nobody m.number))
looked-at seen m (suc n) = next (looked-at seen m n) (cases_eq n m.number)
  where
    apart : n ≢ m.number → (other : MemberId) → member_of n ≡ Some other → (other.number == m.number) ≡ false
    apart ne other is = differ other.number m.number (λ e. ne (sym (number-member_of n other is) ∙ e))

    own : n ≡ m.number → member_of n ≡ Some m
    own e = ap member_of e ∙ member_of-number m

    next : IsLookedAt seen m n → (n ≡ m.number) ⊎ (n ≢ m.number) → IsLookedAt seen m (suc n)
    next before (inl e) = (
      (λ below. ap (λ found. has (with_present seen found (present_below seen n)) m.number) (own e)
          ∙ with-own seen m (present_below seen n) (before.1 (omega (arith, e)))),
      (λ above. absurd (omega (arith, e, above))),
    )
    next before (inr ne) = (
      (λ below. with-other seen (member_of n) (present_below seen n) m.number (apart ne)
          ∙ before.0 (omega (arith, below, ne))),
      (λ above. with-other seen (member_of n) (present_below seen n) m.number (apart ne)
          ∙ before.1 (omega (arith, above))),
    )

pub present-has : (seen : SnapshotFacts) (m : MemberId) → has (present_in seen) m.number ≡ is_present seen m
present-has seen m = (looked-at seen m MOST_MEMBERS).0 m.below

-- ---- all but one
bits-without : (set : MemberSet) (m : MemberId) (k : ℕ) → k ≢ m.number
    → bit_at (bit_xor set.bits (2 ^ m.number)) k ≡ bit_at set.bits k
bits-without set m k other =
    omega (arith, bit_at_xor set.bits (2 ^ m.number) k, bit_at-pow_other m.number k other, bit_at-lt set.bits k)

gone : (set : MemberSet) (m : MemberId) → bit_at set.bits m.number ≡ 1
    → bit_at (bit_xor set.bits (2 ^ m.number)) m.number ≡ 0
gone set m is = omega (arith, bit_at_xor set.bits (2 ^ m.number) m.number, bit_at-pow_same m.number, is)

none : (set : MemberSet) (k : ℕ) → has set k ≡ false → bit_at set.bits k ≡ 0
none set k out = by (cases_eq (bit_at set.bits k) 1)
  where
    by : (bit_at set.bits k ≡ 1) ⊎ (bit_at set.bits k ≢ 1) → bit_at set.bits k ≡ 0
    by (inl e) = absurd (no (sym (same-numbers (bit_at set.bits k) 1 e) ∙ out))
    by (inr ne) = omega (arith, ne, bit_at-lt set.bits k)

-- the set without a member by its bits
bits-of : (set : MemberSet) (m : MemberId) (k : ℕ)
    → (k ≡ m.number → bit_at (without_member set m).bits k ≡ 0)
    × (k ≢ m.number → bit_at (without_member set m).bits k ≡ bit_at set.bits k)
bits-of set m k = by (has set m.number) refl
  where
    by : (t : Bool) → has set m.number ≡ t
        → (k ≡ m.number → bit_at (if t then record { bits = bit_xor set.bits (2 ^ m.number) } else set).bits k ≡ 0)
        × (k ≢ m.number →
        bit_at (if t then record { bits = bit_xor set.bits (2 ^ m.number) } else set).bits k ≡ bit_at set.bits k)
    by true is = (
      (λ e. ap (bit_at (bit_xor set.bits (2 ^ m.number))) e
          ∙ gone set m (numbers-same (bit_at set.bits m.number) 1 is)),
      (λ ne. bits-without set m k ne),
    )
    by false is = ((λ e. ap (bit_at set.bits) e ∙ none set m.number is), (λ ne. refl))

-- a set without a member is told by its bits
pub without-is : (set result : MemberSet) (m : MemberId) → bit_at result.bits m.number ≡ 0
    → ((k : ℕ) → k ≢ m.number → bit_at result.bits k ≡ bit_at set.bits k) → result ≡ without_member set m
without-is set result m same others = same-set result (without_member set m) (λ k. by k (cases_eq k m.number))
  where
    by : (k : ℕ) → (k ≡ m.number) ⊎ (k ≢ m.number) → bit_at result.bits k ≡ bit_at (without_member set m).bits k
    by k (inl e) = ap (bit_at result.bits) e ∙ same ∙ sym ((bits-of set m k).0 e)
    by k (inr ne) = others k ne ∙ sym ((bits-of set m k).1 ne)

pub without-has : (set : MemberSet) (m : MemberId) (k : ℕ)
    → has (without_member set m) k ≡ (has set k && not (k == m.number))
without-has set m k = by (cases_eq k m.number)
  where
    and-false : (b : Bool) → (b && false) ≡ false
    and-false true = refl
    and-false false = refl

    and-true : (b : Bool) → (b && true) ≡ b
    and-true true = refl
    and-true false = refl

    by : (k ≡ m.number) ⊎ (k ≢ m.number) → has (without_member set m) k ≡ (has set k && not (k == m.number))
    by (inl e) = differ (bit_at (without_member set m).bits k) 1 (λ one. omega (arith, one, (bits-of set m k).0 e))
        ∙ sym (ap (λ b. has set k && not b) (same-numbers k m.number e) ∙ and-false (has set k))
    by (inr ne) = ap (λ n. n == 1) ((bits-of set m k).1 ne)
        ∙ sym (ap (λ b. has set k && not b) (differ k m.number ne) ∙ and-true (has set k))
