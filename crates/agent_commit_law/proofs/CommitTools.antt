-- Sets of members, required lists and confirmed positions, as kept commits see them.
use Rattle.std.proofs.Common.{◌≡◌, ℕ, ◌<◌, ◌≤◌, ◌==◌, min, max, Bool, true, false, List, length, get_or, map, Option, Some, None, slice_get, refl, sym, ap, ◌∙◌, subst, arith, bit_and, inl, inr, ◌⊎◌}
use Rattle.std.specs.Int.{bit_at}
use Rattle.std.specs.Int.Bits.{bit_or}
use Rattle.std.proofs.lemmas.Bool.{cases_lt, false_from_ne_true}
use Rattle.std.proofs.lemmas.Bool.Decides.{nat_tests}
use Rattle.std.proofs.lemmas.List.{get_or-map, get_or_past, length-map}
use Rattle.std.proofs.lemmas.Nat.Bits.{bit_at_and, bit_at_or, bit_at-zero, same_from_bits}
use Rattle.std.proofs.lemmas.Option.{slice_get-get_or}
use Rattle.pat_base.specs.declared.lsn.Lsn.{Lsn}
use Rattle.pat_base.specs.declared.member_set.MemberSet.{MemberSet}
use Rattle.pat_base.specs.declared.server_state.Required.{Required}
use Rattle.pat_base.specs.declared.server_state.Required.TheVariants as requireds
use Rattle.pat_base.proofs.MemberBits.{within_both}
use Rattle.store_keys.specs.declared.config.Config.{Config}
use Rattle.cluster_view.specs.declared.view.LeaderView.{LeaderView}
use Rattle.lease_model.proofs.Tools.{both as no-both, not-false, le-from}
use Rattle.event_book.specs.Functions.{set_members}
use Rattle.sync_state.specs.Sets.{nobody, both, either, is_within, set_of}
use Rattle.sync_state.specs.Standbys.{required_members, noted_position, has_confirmed, confirmed_in}
use Rattle.sync_state.proofs.SetBits.{bit_where, bit-set_of}
use Rattle.commit_actions.specs.Keys.{Confirmers, Nobody, All, count, Overlaps, Narrows, strict_quorum}
use Rattle.commit_actions.specs.Past.{confirmers_in}
use Rattle.commit_actions.proofs.Counting.{none-of, count-empty}
use Rattle.agent_model.specs.Synchronous.{is_strict, unnamed, waiting_for}
use Rattle.agent_cases.proofs.Rows.{if-cases}

-- one set is within another
abbrev pub IsWithin : (ℕ → Bool) → (ℕ → Bool) → Type 0
IsWithin a b = (n : ℕ) → a n ≡ true → b n ≡ true

pub is-one : (n : ℕ) → (n == 1) ≡ true → n ≡ 1
is-one n e = grind (arith, nat_tests)

one-is : (n : ℕ) → n ≡ 1 → (n == 1) ≡ true
one-is n e = grind (arith, nat_tests)

same-numbers : (m n : ℕ) → (m == n) ≡ true → m ≡ n
same-numbers m n e = grind (arith, nat_tests)

-- a bit is 0 or 1
bit-small : (n i : ℕ) → bit_at n i ≤ 1
bit-small n i = omega arith

more-one : (a b : ℕ) → a ≤ b → b ≤ 1 → a ≡ 1 → b ≡ 1
more-one a b less small is = omega arith

pub within-set : (one other : MemberSet) → is_within one other ≡ true → IsWithin (set_members one) (set_members other)
within-set one other e n is = one-is (bit_at other.bits n)
    (more-one (bit_at one.bits n) (bit_at other.bits n)
    (within_both one.bits other.bits (same-numbers (bit_and one.bits other.bits) one.bits e) n)
    (bit-small other.bits n) (is-one (bit_at one.bits n) is))

min-first : (a b : ℕ) → a ≤ 1 → min a b ≡ 1 → a ≡ 1
min-first a b small is = omega arith

pub both-first : (one other : MemberSet) → IsWithin (set_members (both one other)) (set_members one)
both-first one other n is = one-is (bit_at one.bits n)
    (min-first (bit_at one.bits n) (bit_at other.bits n) (bit-small one.bits n)
    (sym (bit_at_and one.bits other.bits n) ∙ is-one (bit_at (bit_and one.bits other.bits) n) is))

max-first : (a b : ℕ) → b ≤ 1 → a ≡ 1 → max a b ≡ 1
max-first a b small is = omega arith

pub either-first : (one other : MemberSet) → IsWithin (set_members one) (set_members (either one other))
either-first one other n is = one-is (bit_at (bit_or one.bits other.bits) n)
    (bit_at_or one.bits other.bits n
    ∙ max-first (bit_at one.bits n) (bit_at other.bits n) (bit-small other.bits n) (is-one (bit_at one.bits n) is))

max-cases : (a b : ℕ) → a ≤ 1 → b ≤ 1 → max a b ≡ 1 → (a ≡ 1) ⊎ (b ≡ 1)
max-cases a b first second is = grind arith

-- who is of either set is of one of them
pub either-one : (one other : MemberSet) (n : ℕ) → set_members (either one other) n ≡ true
    → (set_members one n ≡ true) ⊎ (set_members other n ≡ true)
either-one one other n is =
    elim (max-cases (bit_at one.bits n) (bit_at other.bits n) (bit-small one.bits n) (bit-small other.bits n)
    (sym (bit_at_or one.bits other.bits n) ∙ is-one (bit_at (bit_or one.bits other.bits) n) is)) [
      | inl a ↦ inl (one-is (bit_at one.bits n) a)
      | inr b ↦ inr (one-is (bit_at other.bits n) b)
    ]

-- what holds of each of two sets holds of either
pub either-within : (one other : MemberSet) (set : ℕ → Bool) → IsWithin (set_members one) set
    → IsWithin (set_members other) set → IsWithin (set_members (either one other)) set
either-within one other set first second n is =
    elim (either-one one other n is) [ inl a ↦ first n a | inr b ↦ second n b ]

zero-out : (n : ℕ) → n ≡ 0 → (n == 1) ≡ false
zero-out n e = grind (arith, nat_tests)

out-zero : (n : ℕ) → n ≤ 1 → (n == 1) ≡ false → n ≡ 0
out-zero n small e = grind (arith, nat_tests)

-- a set without bits has no members, and one without members has no bits
pub no-members : (set : MemberSet) → set.bits ≡ 0 → (n : ℕ) → set_members set n ≡ false
no-members set none n = zero-out (bit_at set.bits n) (ap (λ (b : ℕ). bit_at b n) none ∙ bit_at-zero n)

pub no-bits : (set : MemberSet) → ((n : ℕ) → set_members set n ≡ false) → set.bits ≡ 0
no-bits set none =
    same_from_bits set.bits 0 (λ n. out-zero (bit_at set.bits n) (bit-small set.bits n) (none n) ∙ sym (bit_at-zero n))

-- what is within nobody is empty
within-nobody : (set : ℕ → Bool) → IsWithin set (set_members nobody) → (n : ℕ) → set n ≡ false
within-nobody set within n =
    false_from_ne_true (set n) (λ is. not-false (set_members nobody n) (no-members nobody refl n) (within n is))

-- published standbys, each a member of the cluster, that a required
-- list covers by the law are required, where none may lack a commit
pub required-covers : (member_count : ℕ) (published : ℕ → Bool) (required : Required)
    → ((n : ℕ) → published n ≡ true → n < member_count)
    → Overlaps member_count published strict_quorum (confirmers_in required)
    → IsWithin published (set_members (required_members required))
required-covers member_count published requireds.Nobody range over n is =
    absurd (not-false (published n) (none-of member_count published (omega (arith, over)) n (range n is)) is)
required-covers member_count published requireds.AnyOne range over n is =
    absurd (not-false (published n) (none-of member_count published (omega (arith, over)) n (range n is)) is)
required-covers member_count published (requireds.All members) range over n is = over n is
required-covers member_count published (requireds.AtLeast number of) range over n is =
    absurd (not-false (published n) (none-of member_count published (omega (arith, over)) n (range n is)) is)

count-no : (member_count quorum : ℕ) (set : ℕ → Bool) → ((n : ℕ) → set n ≡ false) → count member_count set ≤ quorum
count-no member_count quorum set none = omega (arith, count-empty member_count set none)

-- and the other way round, however many may
pub covers-required : (member_count quorum : ℕ) (published : ℕ → Bool) (required : Required)
    → IsWithin published (set_members (required_members required))
    → Overlaps member_count published quorum (confirmers_in required)
covers-required member_count quorum published requireds.Nobody within =
    count-no member_count quorum published (within-nobody published within)
covers-required member_count quorum published requireds.AnyOne within =
    count-no member_count quorum published (within-nobody published within)
covers-required member_count quorum published (requireds.All members) within = within
covers-required member_count quorum published (requireds.AtLeast number of) within =
    count-no member_count quorum published (within-nobody published within)

-- where nobody is named, the law has commits wait for nobody
pub unnamed-confirmers : (settings : Config) → confirmers_in (unnamed settings) ≡ Nobody
unnamed-confirmers settings = if-cases (λ (r : Required). confirmers_in r ≡ Nobody)
    (is_strict settings) requireds.AnyOne requireds.Nobody (λ _. refl) (λ _. refl)

-- whom commits wait for where these standbys are named
waiting-by : (P : Confirmers → Type 0) (settings : Config) (set : MemberSet) → (set.bits ≡ 0 → P Nobody)
    → ((set.bits == 0) ≡ false → P (All (set_members set))) → P (confirmers_in (waiting_for settings set))
waiting-by P settings set none some =
    if-cases (λ (r : Required). P (confirmers_in r)) (set.bits == 0) (unnamed settings) (requireds.All set)
    (λ e. subst P (sym (unnamed-confirmers settings)) (none (same-numbers set.bits 0 e))) (λ e. some e)

pub waiting-covers : (member_count quorum : ℕ) (published : ℕ → Bool) (settings : Config) (set : MemberSet)
    → IsWithin published (set_members set)
    → Overlaps member_count published quorum (confirmers_in (waiting_for settings set))
waiting-covers member_count quorum published settings set within =
    waiting-by (Overlaps member_count published quorum) settings set
    (λ none. count-no member_count quorum published
    (λ n. false_from_ne_true (published n) (λ is. not-false (set_members set n) (no-members set none n) (within n is))))
    (λ _. within)

some-bits : (n : ℕ) → (n == 0) ≡ false → n ≡ 0 → ⊥
some-bits n e none = grind (arith, nat_tests)

narrows-all : (required : Required) (set : MemberSet) → (set.bits == 0) ≡ false
    → IsWithin (set_members set) (set_members (required_members required))
    → Narrows (confirmers_in required) (All (set_members set))
narrows-all requireds.Nobody set some within =
    absurd (some-bits set.bits some (no-bits set (within-nobody (set_members set) within)))
narrows-all requireds.AnyOne set some within =
    absurd (some-bits set.bits some (no-bits set (within-nobody (set_members set) within)))
narrows-all (requireds.All members) set some within = within
narrows-all (requireds.AtLeast number of) set some within =
    absurd (some-bits set.bits some (no-bits set (within-nobody (set_members set) within)))

-- a required list shrinks to members that it has
pub waiting-narrows : (required : Required) (settings : Config) (set : MemberSet)
    → IsWithin (set_members set) (set_members (required_members required))
    → Narrows (confirmers_in required) (confirmers_in (waiting_for settings set))
waiting-narrows required settings set within =
    waiting-by (Narrows (confirmers_in required)) settings set (λ _. tt) (λ some. narrows-all required set some within)

-- a connected member whose position is at or past another
pub record HasReached (connected : List (Option Lsn)) (position n : ℕ) : Type 0 where
  pub end : Lsn
  pub is : slice_get connected n ≡ Some (Some end)
  pub reached : position ≤ end.position

reached-as : (connected : List (Option Lsn)) (noted : Option Lsn) (n : ℕ) (found : Option Lsn)
    → slice_get connected n ≡ Some found → has_confirmed noted found ≡ true
    → HasReached connected (noted_position noted) n
reached-as connected noted n None is has = absurd (no-both has)
reached-as connected noted n (Some end) is has =
    record { end = end; is = is; reached = le-from (noted_position noted) end.position has }

pub where-one : (b : Bool) → bit_where b ≡ 1 → b ≡ true
where-one true e = refl
where-one false e = absurd (omega (arith, e))

found-in : (connected : List (Option Lsn)) (noted : Option Lsn) (n : ℕ)
    → get_or (map (has_confirmed noted) connected) n false ≡ true → HasReached connected (noted_position noted) n
found-in connected noted n e = elim (cases_lt n (length connected)) [
  | inl lt ↦ reached-as connected noted n (get_or connected n None) (slice_get-get_or connected n None lt)
      (sym (get_or-map (has_confirmed noted) connected n None false lt) ∙ e)
  | inr ge ↦
      absurd (not-false (get_or (map (has_confirmed noted) connected) n false)
      (get_or_past (map (has_confirmed noted) connected) n false
      (subst (λ (k : ℕ). k ≤ n) (sym (length-map connected (has_confirmed noted))) ge))
      e)
]

-- who has confirmed the noted position is connected, and its position is past that
pub confirmed-reached : (view : LeaderView) (n : ℕ) → set_members (confirmed_in view) n ≡ true
    → HasReached view.confirmed_positions (noted_position view.noted) n
confirmed-reached view n is = let chosen : List Bool = map (has_confirmed view.noted) view.confirmed_positions in
    found-in view.confirmed_positions view.noted n
    (where-one (get_or chosen n false) (sym (bit-set_of chosen n) ∙ is-one (bit_at (set_of chosen).bits n) is))
