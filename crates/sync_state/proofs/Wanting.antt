-- Who is wanted.
use Rattle.std.proofs.Common.{◌≡◌, ◌==◌, ℕ, zero, suc, ◌<◌, ◌≤◌, nat_lt, Bool, true, false, List, length, get_or, count_by, Option, Some, None, IsSome, ◌⊎◌, inl, inr, refl, sym, ap, ◌∙◌, arith, count_ones}
use Rattle.std.specs.Int.{bit_at}
use Rattle.std.specs.Option.{option_and_then}
use Rattle.std.specs.Ordering.{bool_cmp, ordering_then, ordering_reverse, is_lt}
use Rattle.std.specs.declared.cmp.Ordering.{Ordering}
use Rattle.std.specs.declared.cmp.Ordering.TheVariants.{Less, Equal, Greater}
use Rattle.std.proofs.lemmas.Bool.{cases_lt}
use Rattle.std.proofs.lemmas.Bool.Decides.{nat_tests}
use Rattle.std.proofs.lemmas.List.FromFn.{get_or-map-range_with_len, length-map-range_with_len}
use Rattle.std.proofs.lemmas.Simd.{ones-mask_l}
use Rattle.pat_base.specs.declared.lsn.Lsn.{Lsn}
use Rattle.pat_base.specs.declared.member_id.MemberId.{MemberId}
use Rattle.pat_base.specs.declared.name.Name.{Name}
use Rattle.pat_base.specs.MemberId.{member_of}
use Rattle.pat_base.proofs.Members.{member_of-number, number-member_of}
use Rattle.cluster_view.specs.declared.view.LeaderView.{LeaderView}
use Rattle.cluster_view.specs.KeyValues.{config_in}
use Rattle.cluster_view.specs.Naming.{is_one_of}
use Rattle.cluster_view.specs.Snapshots.{SnapshotFacts}
use Rattle.sync_state.specs.declared.candidates.Candidate.{Candidate}
use Rattle.sync_state.specs.Candidates.{may_sync, name_in, connected_end, candidate_by, candidate_where, candidate_in, candidate_numbered, candidates_in, candidate_cmp, comes_before, candidates_before, is_wanted, wanted_in}
use Rattle.sync_state.specs.Laws.{HaveOwnNames}
use Rattle.sync_state.specs.Published.{published_in}
use Rattle.sync_state.proofs.Ordering.{candidates-total, before-before, before-itself, tied-names}
use Rattle.sync_state.proofs.Ranking.{count-lt, count-either, count-none, count-single}
use Rattle.sync_state.proofs.SetBits.{same-numbers, numbers-same, chosen-from, chosen-to}
use Rattle.pat_base.specs.declared.member_id.TheConstants.{MOST_MEMBERS}

no-candidate : {X : Type 0} (x : X) → None ≡ Some x → ⊥
no-candidate x e = cc

same-candidate : {X : Type 0} (x y : X) → Some x ≡ Some y → x ≡ y
same-candidate x y e = cc

no : false ≡ true → ⊥
no e = cc

-- ---- what makes a candidate
pub record Made (may published : Bool) (end : Option Lsn) (name : Option Name) (candidate : Candidate) : Type 0 where
  pub allowed : may ≡ true
  pub listed : candidate.published ≡ published
  pub confirmed : end ≡ Some candidate.end
  pub named : name ≡ Some candidate.name

made : (may published : Bool) (end : Option Lsn) (name : Option Name) (candidate : Candidate)
    → candidate_where may (candidate_by published end name) ≡ Some candidate → Made may published end name candidate
made false published end name candidate e = absurd (no-candidate candidate e)
made true published None name candidate e = absurd (no-candidate candidate e)
made true published (Some end) None candidate e = absurd (no-candidate candidate e)
made true published (Some end) (Some name) candidate e =
    let same : record { published = published; end = end; name = name } ≡ candidate = same-candidate _ candidate e in
    record {
      allowed = refl;
      listed = ap (λ (c : Candidate). c.published) (sym same);
      confirmed = ap (λ (c : Candidate). Some c.end) same;
      named = ap (λ (c : Candidate). Some c.name) same;
    }

pub candidate-made : (view : LeaderView) (seen : SnapshotFacts) (member : MemberId) (candidate : Candidate)
    → candidate_in view seen member ≡ Some candidate
    → Made (may_sync member seen) (is_one_of member (published_in seen)) (connected_end member view)
    (name_in member seen) candidate
candidate-made view seen member candidate e = made (may_sync member seen)
    (is_one_of member (published_in seen)) (connected_end member view) (name_in member seen) candidate e

-- ---- candidates by their numbers
pub length-candidates : (view : LeaderView) (seen : SnapshotFacts) → length (candidates_in view seen) ≡ MOST_MEMBERS
unfolding candidates_in
length-candidates view seen = length-map-range_with_len (candidate_numbered view seen) 0 MOST_MEMBERS

candidate-at : (view : LeaderView) (seen : SnapshotFacts) (k : ℕ) → k < MOST_MEMBERS
    → get_or (candidates_in view seen) k None ≡ candidate_numbered view seen k
unfolding candidates_in
candidate-at view seen k below =
    get_or-map-range_with_len (candidate_numbered view seen) 0 MOST_MEMBERS k k None below (omega arith)

pub candidate-of : (view : LeaderView) (seen : SnapshotFacts) (member : MemberId)
    → get_or (candidates_in view seen) member.number None ≡ candidate_in view seen member
candidate-of view seen member = candidate-at view seen member.number member.below
    ∙ ap (option_and_then (candidate_in view seen)) (member_of-number member)

record Numbered (view : LeaderView) (seen : SnapshotFacts) (k : ℕ) (candidate : Candidate) : Type 0 where
  member : MemberId
  number : member.number ≡ k
  is : candidate_in view seen member ≡ Some candidate

numbered-by : (view : LeaderView) (seen : SnapshotFacts) (k : ℕ) (candidate : Candidate) (o : Option MemberId)
    → member_of k ≡ o → option_and_then (candidate_in view seen) o ≡ Some candidate → Numbered view seen k candidate
numbered-by view seen k candidate None is e = absurd (no-candidate candidate e)
numbered-by view seen k candidate (Some member) is e =
    record { member = member; number = number-member_of k member is; is = e }

numbered : (view : LeaderView) (seen : SnapshotFacts) (k : ℕ) (candidate : Candidate) → k < MOST_MEMBERS
    → get_or (candidates_in view seen) k None ≡ Some candidate → Numbered view seen k candidate
numbered view seen k candidate below e =
    numbered-by view seen k candidate (member_of k) refl (sym (candidate-at view seen k below) ∙ e)

-- ---- ranks
before-all : (other : Option Candidate) (a b : Candidate) → is_lt (candidate_cmp a b) ≡ true
    → comes_before other a ≡ true → comes_before other b ≡ true
before-all None a b first second = absurd (no second)
before-all (Some other) a b first second = before-before other a b second first

-- who comes before another one has fewer before it
rank-lt : (candidates : List (Option Candidate)) (i : ℕ) (a b : Candidate) → i < length candidates
    → get_or candidates i None ≡ Some a → candidate_cmp a b ≡ Less
    → candidates_before candidates a < candidates_before candidates b
rank-lt candidates i a b within is first =
    count-lt (λ other. comes_before other a) (λ other. comes_before other b) candidates i None
    (λ other second. before-all other a b (ap is_lt first) second) within
    (ap (λ o. comes_before o a) is ∙ before-itself a) (ap (λ o. comes_before o b) is ∙ ap is_lt first)

-- so many come before it
abbrev is_at : ℕ → List (Option Candidate) → Option Candidate → Bool
is_at n candidates None = false
is_at n candidates (Some candidate) = candidates_before candidates candidate == n

-- no two candidates tie
abbrev AreApart : List (Option Candidate) → Type 0
AreApart candidates = (i j : ℕ) (a b : Candidate) → i < length candidates → j < length candidates
    → get_or candidates i None ≡ Some a → get_or candidates j None ≡ Some b → candidate_cmp a b ≡ Equal → i ≡ j

apart-members : (view : LeaderView) (seen : SnapshotFacts) (i j : ℕ) (a b : Candidate) → HaveOwnNames seen
    → candidate_cmp a b ≡ Equal → Numbered view seen i a → Numbered view seen j b → i ≡ j
apart-members view seen i j a b own tied x y =
    let first = (candidate-made view seen x.member a x.is).named in
    let second = (candidate-made view seen y.member b y.is).named in
    sym x.number ∙ own x.member y.member a.name first (second ∙ ap (λ n. Some n) (sym (tied-names a b tied))) ∙ y.number

candidates-apart : (view : LeaderView) (seen : SnapshotFacts) → HaveOwnNames seen → AreApart (candidates_in view seen)
candidates-apart view seen own i j a b within within' first second tied =
    apart-members view seen i j a b own tied
    (numbered view seen i a (omega (arith, within, length-candidates view seen)) first)
    (numbered view seen j b (omega (arith, within', length-candidates view seen)) second)

never-below : (m n k : ℕ) → m < n → (m == k) ≡ true → (n == k) ≡ true → ⊥
never-below m n k lt e f = omega (arith, lt, numbers-same m k e, numbers-same n k f)

reversed : (a b : Candidate) → candidate_cmp a b ≡ Greater → candidate_cmp b a ≡ Less
reversed a b e = candidates-total.antisymm b a ∙ ap ordering_reverse e

same-rank : (candidates : List (Option Candidate)) (n i j : ℕ) (a b : Candidate) (o : Ordering)
    → AreApart candidates → candidate_cmp a b ≡ o → i < length candidates → j < length candidates
    → get_or candidates i None ≡ Some a → get_or candidates j None ≡ Some b
    → (candidates_before candidates a == n) ≡ true → (candidates_before candidates b == n) ≡ true → i ≡ j
same-rank candidates n i j a b Less apart e within within' first second p q =
    absurd (never-below (candidates_before candidates a) (candidates_before candidates b) n
    (rank-lt candidates i a b within first e) p q)
same-rank candidates n i j a b Equal apart e within within' first second p q =
    apart i j a b within within' first second e
same-rank candidates n i j a b Greater apart e within within' first second p q =
    absurd (never-below (candidates_before candidates b) (candidates_before candidates a) n
    (rank-lt candidates j b a within' second (reversed a b e)) q p)

at-single : (candidates : List (Option Candidate)) (n i j : ℕ) (x y : Option Candidate) → AreApart candidates
    → i < length candidates → j < length candidates → get_or candidates i None ≡ x
    → get_or candidates j None ≡ y → is_at n candidates x ≡ true → is_at n candidates y ≡ true → i ≡ j
at-single candidates n i j None y apart within within' first second p q = absurd (no p)
at-single candidates n i j (Some a) None apart within within' first second p q = absurd (no q)
at-single candidates n i j (Some a) (Some b) apart within within' first second p q =
    same-rank candidates n i j a b (candidate_cmp a b) apart refl within within' first second p q

-- at most one candidate has so many before it
count-at : (candidates : List (Option Candidate)) (n : ℕ) → AreApart candidates
    → count_by (is_at n candidates) candidates ≤ 1
count-at candidates n apart =
    count-single (is_at n candidates) candidates None
    (λ i j within within' p q.
    at-single candidates n i j (get_or candidates i None) (get_or candidates j None) apart within within' refl refl p q)

one-fewer : (m n : ℕ) → nat_lt m (suc n) ≡ true → (nat_lt m n ≡ true) ⊎ ((m == n) ≡ true)
one-fewer m n h =
    elim (cases_lt m n) [
      | inl lt ↦ inl (grind (arith, nat_tests))
      | inr ge ↦ inr (grind (arith, nat_tests))
    ]

wanted-or-next : (n : ℕ) (candidates : List (Option Candidate)) (x : Option Candidate)
    → is_wanted (suc n) candidates x ≡ true → (is_wanted n candidates x ≡ true) ⊎ (is_at n candidates x ≡ true)
wanted-or-next n candidates None h = absurd (no h)
wanted-or-next n candidates (Some candidate) h = one-fewer (candidates_before candidates candidate) n h

none-below : (n : ℕ) → nat_lt n 0 ≡ false
none-below n = grind (arith, nat_tests)

nobody-wanted : (candidates : List (Option Candidate)) (x : Option Candidate) → is_wanted 0 candidates x ≡ false
nobody-wanted candidates None = refl
nobody-wanted candidates (Some candidate) = none-below (candidates_before candidates candidate)

count-wanted : (n : ℕ) (candidates : List (Option Candidate)) → AreApart candidates
    → count_by (is_wanted n candidates) candidates ≤ n
count-wanted zero candidates apart =
    let none = count-none (is_wanted 0 candidates) candidates None
    (λ i within. nobody-wanted candidates (get_or candidates i None)) in
    omega (arith, none)
count-wanted (suc n) candidates apart =
    let fewer = count-wanted n candidates apart in
    let one = count-at candidates n apart in
    let all = count-either (is_wanted (suc n) candidates) (is_wanted n candidates)
    (is_at n candidates) candidates (wanted-or-next n candidates) in
    omega (arith, fewer, one, all)

-- ---- the laws
pub wanted-most : (view : LeaderView) (seen : SnapshotFacts) → HaveOwnNames seen
    → count_ones (wanted_in view seen).bits ≤ (config_in seen).synchronous_node_count
wanted-most view seen own =
    let most : ℕ = (config_in seen).synchronous_node_count in
    let candidates : List (Option Candidate) = candidates_in view seen in
    let count = count-wanted most candidates (candidates-apart view seen own) in
    let ones = ones-mask_l (is_wanted most candidates) candidates in
    omega (arith, count, ones)

-- a wanted member is one by the definition
pub wanted-is : (view : LeaderView) (seen : SnapshotFacts) (member : MemberId)
    → bit_at (wanted_in view seen).bits member.number ≡ 1
    → is_wanted (config_in seen).synchronous_node_count (candidates_in view seen) (candidate_in view seen member) ≡ true
wanted-is view seen member is =
    let most : ℕ = (config_in seen).synchronous_node_count in
    ap (is_wanted most (candidates_in view seen)) (sym (candidate-of view seen member))
    ∙ (chosen-from (is_wanted most (candidates_in view seen)) (candidates_in view seen) member.number None is).1

pub wanted-to : (view : LeaderView) (seen : SnapshotFacts) (member : MemberId)
    → is_wanted (config_in seen).synchronous_node_count (candidates_in view seen) (candidate_in view seen member) ≡ true
    → bit_at (wanted_in view seen).bits member.number ≡ 1
wanted-to view seen member is =
    let most : ℕ = (config_in seen).synchronous_node_count in
    chosen-to (is_wanted most (candidates_in view seen)) (candidates_in view seen) member.number None
    (omega (arith, length-candidates view seen, member.below))
    (ap (is_wanted most (candidates_in view seen)) (candidate-of view seen member) ∙ is)

wanted-some : (most : ℕ) (candidates : List (Option Candidate)) (x : Option Candidate)
    → is_wanted most candidates x ≡ true → IsSome x
wanted-some most candidates None h = absurd (no h)
wanted-some most candidates (Some candidate) h = refl

pub wanted-candidate : (view : LeaderView) (seen : SnapshotFacts) (member : MemberId)
    → bit_at (wanted_in view seen).bits member.number ≡ 1 → IsSome (candidate_in view seen member)
wanted-candidate view seen member is = wanted-some (config_in seen).synchronous_node_count
    (candidates_in view seen) (candidate_in view seen member) (wanted-is view seen member is)

still-below : (m n k : ℕ) → m < n → nat_lt n k ≡ true → nat_lt m k ≡ true
still-below m n k lt h = grind (arith, nat_tests)

pub wanted-first : (view : LeaderView) (seen : SnapshotFacts) (member other : MemberId) (candidate rival : Candidate)
    → candidate_in view seen member ≡ Some candidate → candidate_in view seen other ≡ Some rival
    → candidate_cmp candidate rival ≡ Less → bit_at (wanted_in view seen).bits other.number ≡ 1
    → bit_at (wanted_in view seen).bits member.number ≡ 1
wanted-first view seen member other candidate rival first second less is =
    let most : ℕ = (config_in seen).synchronous_node_count in
    let candidates : List (Option Candidate) = candidates_in view seen in
    let below : nat_lt (candidates_before candidates rival) most ≡ true =
    ap (is_wanted most candidates) (sym second) ∙ wanted-is view seen other is in
    let rank = rank-lt candidates member.number candidate rival
    (omega (arith, length-candidates view seen, member.below)) (candidate-of view seen member ∙ first) less in
    wanted-to view seen member
    (ap (is_wanted most candidates) first
    ∙ still-below (candidates_before candidates candidate) (candidates_before candidates rival) most rank below)

published-less : (p q : Bool) (x y : Ordering) → p ≡ true → q ≡ false
    → ordering_then (ordering_then (bool_cmp q p) x) y ≡ Less
published-less true true x y e f = absurd (no (sym f))
published-less true false x y e f = refl
published-less false q x y e f = absurd (no e)

published-first : (view : LeaderView) (seen : SnapshotFacts) (member other : MemberId) (x y : Option Candidate)
    → candidate_in view seen member ≡ x → candidate_in view seen other ≡ y → IsSome x → IsSome y
    → is_one_of member (published_in seen) ≡ true → is_one_of other (published_in seen) ≡ false
    → bit_at (wanted_in view seen).bits other.number ≡ 1 → bit_at (wanted_in view seen).bits member.number ≡ 1
published-first view seen member other None y first second there there' is out wanted = absurd (no there)
published-first view seen member other (Some candidate) None first second there there' is out wanted =
    absurd (no there')
published-first view seen member other (Some candidate) (Some rival) first second there there' is out wanted =
    let mine = (candidate-made view seen member candidate first).listed in
    let theirs = (candidate-made view seen other rival second).listed in
    wanted-first view seen member other candidate rival first second
    (published-less candidate.published rival.published _ _ (mine ∙ is) (theirs ∙ out)) wanted

not-one : (n : ℕ) → n ≡ 0 → (n == 1) ≡ false
not-one n e = grind (arith, nat_tests)

pub wanted-published : (view : LeaderView) (seen : SnapshotFacts) (member other : MemberId)
    → IsSome (candidate_in view seen member) → bit_at (published_in seen).bits member.number ≡ 1
    → bit_at (published_in seen).bits other.number ≡ 0 → bit_at (wanted_in view seen).bits other.number ≡ 1
    → bit_at (wanted_in view seen).bits member.number ≡ 1
wanted-published view seen member other there is out wanted =
    published-first view seen member other (candidate_in view seen member)
    (candidate_in view seen other) refl refl there (wanted-candidate view seen other wanted)
    (same-numbers (bit_at (published_in seen).bits member.number) 1 is)
    (not-one (bit_at (published_in seen).bits other.number) out) wanted

-- ---- what a wanted member is
may-sync-by : (view : LeaderView) (seen : SnapshotFacts) (member : MemberId) (x : Option Candidate)
    → candidate_in view seen member ≡ x → IsSome x → may_sync member seen ≡ true
may-sync-by view seen member None e there = absurd (no there)
may-sync-by view seen member (Some candidate) e there = (candidate-made view seen member candidate e).allowed

pub wanted-tags : (view : LeaderView) (seen : SnapshotFacts) (member : MemberId)
    → bit_at (wanted_in view seen).bits member.number ≡ 1 → may_sync member seen ≡ true
wanted-tags view seen member is =
    may-sync-by view seen member (candidate_in view seen member) refl (wanted-candidate view seen member is)
