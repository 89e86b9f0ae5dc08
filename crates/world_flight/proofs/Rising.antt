-- Lists whose numbers rise.
use Rattle.std.proofs.Common.{◌≡◌, ◌≢◌, ℕ, ◌+◌, ◌≤◌, ◌<◌, inl, inr, Bool, true, false, cond, List, [], ◌∷◌, ◌++◌, take, drop, length, not, position, get_or, Option, Some, None, append-nil, zero, suc, arith, refl, ap, sym, subst, ◌∙◌}
use Rattle.std.specs.BTreeMap.{insert_entry, is_at}
use Rattle.std.specs.List.{position_or_len}
use Rattle.std.specs.List.Sorted.{IsStrictlyIncreasing, IsStrictlySortedBy}
use Rattle.std.specs.Map.{keys_of, lookup, remove_entry}
use Rattle.std.specs.Ordering.{nat_cmp, is_eq, MatchOrdering, match_ordering}
use Rattle.std.specs.declared.cmp.Ordering.{Ordering}
use Rattle.std.specs.declared.cmp.Ordering.TheVariants.{Less, Equal, Greater}
use Rattle.std.proofs.lemmas.Bool.{cases_eq}
use Rattle.std.proofs.lemmas.Cmp.{ranked}
use Rattle.std.proofs.lemmas.Grind.{common_steps}
use Rattle.std.proofs.lemmas.List.Quantifiers.{position-Some}
use Rattle.std.proofs.lemmas.Map.Keys.{sorted_from_strictly_increasing}
use Rattle.std.proofs.lemmas.Option.{none-some}
use Rattle.world_flight.specs.Rising.{RiseTo}
use Rattle.world_flight.proofs.Indexing.{same-number}

-- ---- numbers that are compared
cmp-above : (n k : ℕ) → k < n → nat_cmp n k ≡ Greater
cmp-above n k above = by_order (nat_cmp n k) (ranked n k (nat_cmp n k) refl)
  where
    by_order : (o : Ordering) → MatchOrdering o (n < k) (n ≡ k) (k < n) → o ≡ Greater
    by_order Less m = absurd (omega (arith, m, above))
    by_order Equal m = absurd (omega (arith, m, above))
    by_order Greater m = refl

cmp-self : (n k : ℕ) → n ≡ k → nat_cmp n k ≡ Equal
cmp-self n k same = by_order (nat_cmp n k) (ranked n k (nat_cmp n k) refl)
  where
    by_order : (o : Ordering) → MatchOrdering o (n < k) (n ≡ k) (k < n) → o ≡ Equal
    by_order Less m = absurd (omega (arith, m, same))
    by_order Equal m = refl
    by_order Greater m = absurd (omega (arith, m, same))

at-other : (n k : ℕ) → n ≢ k → is_at (nat_cmp n) k ≡ false
at-other n k other = by_order (nat_cmp n k) (ranked n k (nat_cmp n k) refl)
  where
    by_order : (o : Ordering) → MatchOrdering o (n < k) (n ≡ k) (k < n) → is_eq o ≡ false
    by_order Less m = refl
    by_order Equal m = absurd (other m)
    by_order Greater m = refl

at-same : (n k : ℕ) → is_at (nat_cmp n) k ≡ true → n ≡ k
at-same n k is = same-number n k true is refl

at-self : (n k : ℕ) → n ≡ k → is_at (nat_cmp n) k ≡ true
at-self n k same = ap is_eq (cmp-self n k same)

pub at-itself : (n : ℕ) → is_at (nat_cmp n) n ≡ true
at-itself n = at-self n n refl

-- ---- any list
pub first-rest : {Y : Type 0} (ys : List Y) (y : Y) → 0 < length ys → y ≡ get_or ys 0 y
    → ys ≡ y ∷ (take 0 ys ++ drop 1 ys)
first-rest [] y within is = absurd (omega (arith, within))
first-rest (z ∷ zs) y within is = ap (λ x. x ∷ zs) (sym is)

module _ {X : Type 0} where
  -- ---- bounds
  pub rise-bounds : (low : ℕ) (es : List (ℕ × X)) (high : ℕ) → RiseTo low es high → low ≤ high
  rise-bounds low [] high rise = rise
  rise-bounds low (e ∷ es) high rise = let more = rise-bounds (e.0 + 1) es high rise.1 in omega (arith, rise.0, more)

  rise-lower : (lower low : ℕ) (es : List (ℕ × X)) (high : ℕ) → lower ≤ low → RiseTo low es high → RiseTo lower es high
  rise-lower lower low [] high less rise = omega (arith, less, rise)
  rise-lower lower low (e ∷ es) high less rise = (omega (arith, less, rise.0), rise.1)

  pub rise-append : (low middle high : ℕ) (es fs : List (ℕ × X)) → RiseTo low es middle
      → RiseTo middle fs high → RiseTo low (es ++ fs) high
  rise-append low middle high [] fs first second = rise-lower low middle fs high first second
  rise-append low middle high (e ∷ es) fs first second =
      (first.0, rise-append (e.0 + 1) middle high es fs first.1 second)

  -- where two lists meet
  pub rise-parts : (low high : ℕ) (es fs : List (ℕ × X)) → RiseTo low (es ++ fs) high
      → (middle : ℕ) × (RiseTo low es middle × RiseTo middle fs high)
  rise-parts low high [] fs rise = (low, (omega arith, rise))
  rise-parts low high (e ∷ es) fs rise =
      let more = rise-parts (e.0 + 1) high es fs rise.1 in
      (more.0, ((rise.0, more.1.0), more.1.1))

  -- ---- what isn't there
  pub none-below : (n low high : ℕ) (es : List (ℕ × X)) → RiseTo low es high → n < low
      → lookup (is_at (nat_cmp n)) es ≡ None
  none-below n low high [] rise below = refl
  none-below n low high (e ∷ es) rise below =
      ap (λ (b : Bool). cond b (Some e.1) (lookup (is_at (nat_cmp n)) es))
      (at-other n e.0 (λ same. omega (arith, same, rise.0, below)))
      ∙ none-below n (e.0 + 1) high es rise.1 (omega (arith, rise.0, below))

  pub without-none : (test : ℕ → Bool) (es : List (ℕ × X)) → lookup test es ≡ None → remove_entry test es ≡ es
  without-none test [] none = refl
  without-none test (e ∷ es) none = by_test (test e.0) none (without-none test es)
    where
      by_test : (b : Bool) → cond b (Some e.1) (lookup test es) ≡ None
          → (lookup test es ≡ None → remove_entry test es ≡ es) → cond b es (e ∷ remove_entry test es) ≡ e ∷ es
      by_test true is more = absurd (none-some e.1 (sym is))
      by_test false is more = ap (λ (rest : List (ℕ × X)). e ∷ rest) (more is)

  -- ---- in front of what is looked for
  pub lookup-behind : (n low high : ℕ) (es fs : List (ℕ × X)) → RiseTo low es high → high ≤ n
      → lookup (is_at (nat_cmp n)) (es ++ fs) ≡ lookup (is_at (nat_cmp n)) fs
  lookup-behind n low high [] fs rise above = refl
  lookup-behind n low high (e ∷ es) fs rise above =
      let more = rise-bounds (e.0 + 1) es high rise.1 in
      ap (λ (b : Bool). cond b (Some e.1) (lookup (is_at (nat_cmp n)) (es ++ fs)))
      (at-other n e.0 (λ same. omega (arith, same, more, above)))
      ∙ lookup-behind n (e.0 + 1) high es fs rise.1 above

  pub without-behind : (n low high : ℕ) (es fs : List (ℕ × X)) → RiseTo low es high → high ≤ n
      → remove_entry (is_at (nat_cmp n)) (es ++ fs) ≡ es ++ remove_entry (is_at (nat_cmp n)) fs
  without-behind n low high [] fs rise above = refl
  without-behind n low high (e ∷ es) fs rise above =
      let more = rise-bounds (e.0 + 1) es high rise.1 in
      ap (λ (b : Bool). cond b (es ++ fs) (e ∷ remove_entry (is_at (nat_cmp n)) (es ++ fs)))
      (at-other n e.0 (λ same. omega (arith, same, more, above)))
      ∙ ap (λ (rest : List (ℕ × X)). e ∷ rest) (without-behind n (e.0 + 1) high es fs rise.1 above)

  pub insert-behind : (n low high : ℕ) (x : X) (es : List (ℕ × X)) → RiseTo low es high → high ≤ n
      → insert_entry nat_cmp es n x ≡ es ++ (n, x) ∷ []
  insert-behind n low high x [] rise above = refl
  insert-behind n low high x (e ∷ es) rise above =
      let more = rise-bounds (e.0 + 1) es high rise.1 in
      ap (λ (o : Ordering). match_ordering o ((n, x) ∷ e ∷ es) ((e.0, x) ∷ es) (e ∷ insert_entry nat_cmp es n x))
      (cmp-above n e.0 (omega (arith, more, above)))
      ∙ ap (λ (rest : List (ℕ × X)). e ∷ rest) (insert-behind n (e.0 + 1) high x es rise.1 above)

  -- behind what is looked for, where that isn't
  pub lookup-before : (test : ℕ → Bool) (es fs : List (ℕ × X)) → lookup test fs ≡ None
      → lookup test (es ++ fs) ≡ lookup test es
  lookup-before test [] fs none = none
  lookup-before test (e ∷ es) fs none =
      ap (λ (rest : Option X). cond (test e.0) (Some e.1) rest) (lookup-before test es fs none)

  pub without-before : (test : ℕ → Bool) (es fs : List (ℕ × X)) → lookup test fs ≡ None
      → remove_entry test (es ++ fs) ≡ remove_entry test es ++ fs
  without-before test [] fs none = without-none test fs none
  without-before test (e ∷ es) fs none = by_test (test e.0) (without-before test es fs none)
    where
      by_test : (b : Bool) → remove_entry test (es ++ fs) ≡ remove_entry test es ++ fs
          → cond b (es ++ fs) (e ∷ remove_entry test (es ++ fs)) ≡ cond b es (e ∷ remove_entry test es) ++ fs
      by_test true more = refl
      by_test false more = ap (λ (rest : List (ℕ × X)). e ∷ rest) more

  -- ---- one that is taken out
  pub rise-without : (test : ℕ → Bool) (low high : ℕ) (es : List (ℕ × X)) → RiseTo low es high
      → RiseTo low (remove_entry test es) high
  rise-without test low high [] rise = rise
  rise-without test low high (e ∷ es) rise = by_test (test e.0) (rise-without test (e.0 + 1) high es rise.1)
    where
      by_test : (b : Bool) → RiseTo (e.0 + 1) (remove_entry test es) high
          → RiseTo low (cond b es (e ∷ remove_entry test es)) high
      by_test true more = rise-lower low (e.0 + 1) es high (omega (arith, rise.0)) rise.1
      by_test false more = (rise.0, more)

  pub without-gone : (n low high : ℕ) (es : List (ℕ × X)) → RiseTo low es high
      → lookup (is_at (nat_cmp n)) (remove_entry (is_at (nat_cmp n)) es) ≡ None
  without-gone n low high [] rise = refl
  without-gone n low high (e ∷ es) rise = elim (cases_eq n e.0) [
    | inl same ↦
        ap (λ (b : Bool). lookup (is_at (nat_cmp n)) (cond b es (e ∷ remove_entry (is_at (nat_cmp n)) es)))
        (at-self n e.0 same)
        ∙ none-below n (e.0 + 1) high es rise.1 (omega (arith, same))
    | inr other ↦
        ap (λ (b : Bool). lookup (is_at (nat_cmp n)) (cond b es (e ∷ remove_entry (is_at (nat_cmp n)) es)))
        (at-other n e.0 other)
        ∙ ap (λ (b : Bool). cond b (Some e.1) (lookup (is_at (nat_cmp n)) (remove_entry (is_at (nat_cmp n)) es)))
        (at-other n e.0 other)
        ∙ without-gone n (e.0 + 1) high es rise.1
  ]

  -- the others are those before
  pub without-others : (n k low high : ℕ) (x : X) (es : List (ℕ × X)) → RiseTo low es high
      → lookup (is_at (nat_cmp k)) (remove_entry (is_at (nat_cmp n)) es) ≡ Some x
      → lookup (is_at (nat_cmp k)) es ≡ Some x
  without-others n k low high x [] rise is = is
  without-others n k low high x (e ∷ es) rise is = elim (cases_eq n e.0) [
    | inl same ↦
        let there : lookup (is_at (nat_cmp k)) es ≡ Some x =
        ap (λ (b : Bool). lookup (is_at (nat_cmp k)) (cond b es (e ∷ remove_entry (is_at (nat_cmp n)) es)))
        (sym (at-self n e.0 same)) ∙ is in
        elim (cases_eq k e.0) [
          | inl here ↦ absurd (none-some x (sym (none-below k (e.0 + 1) high es rise.1 (omega (arith, here))) ∙ there))
          | inr other ↦
              ap (λ (b : Bool). cond b (Some e.1) (lookup (is_at (nat_cmp k)) es)) (at-other k e.0 other) ∙ there
        ]
    | inr apart ↦
        let there = ap (λ (b : Bool). lookup (is_at (nat_cmp k)) (cond b es (e ∷ remove_entry (is_at (nat_cmp n)) es)))
        (sym (at-other n e.0 apart)) ∙ is in
        elim (cases_eq k e.0) [
          | inl here ↦
              ap (λ (b : Bool). cond b (Some e.1) (lookup (is_at (nat_cmp k)) es)) (at-self k e.0 here)
              ∙ ap (λ (b : Bool). cond b (Some e.1) (lookup (is_at (nat_cmp k)) (remove_entry (is_at (nat_cmp n)) es)))
              (sym (at-self k e.0 here))
              ∙ there
          | inr other ↦
              ap (λ (b : Bool). cond b (Some e.1) (lookup (is_at (nat_cmp k)) es)) (at-other k e.0 other)
              ∙ without-others n k (e.0 + 1) high x es rise.1
              (ap (λ (b : Bool). cond b (Some e.1) (lookup (is_at (nat_cmp k)) (remove_entry (is_at (nat_cmp n)) es)))
              (sym (at-other k e.0 other)) ∙ there)
        ]
  ]

  -- ---- one that is found
  pub place-found : (test : ℕ → Bool) (es : List (ℕ × X)) (i : ℕ) (d : ℕ × X) → i < length es
      → test (get_or es i d).0 ≡ true → ((k : ℕ) → k < i → test (get_or es k d).0 ≡ false)
      → (lookup test es ≡ Some (get_or es i d).1) × (remove_entry test es ≡ take i es ++ drop (suc i) es)
  place-found test [] i d within here before = absurd (omega (arith, within))
  place-found test (e ∷ es) zero d within here before = (
    ap (λ (b : Bool). cond b (Some e.1) (lookup test es)) here,
    ap (λ (b : Bool). cond b es (e ∷ remove_entry test es)) here,
  )
  place-found test (e ∷ es) (suc i) d within here before =
      let not_first = before zero (omega arith) in
      let more =
      place-found test es i d (omega (arith, within)) here (λ k below. before (suc k) (omega (arith, below))) in (
        ap (λ (b : Bool). cond b (Some e.1) (lookup test es)) not_first ∙ more.0,
        ap (λ (b : Bool). cond b es (e ∷ remove_entry test es)) not_first
            ∙ ap (λ (rest : List (ℕ × X)). e ∷ rest) more.1,
      )

  unplaced : (test : ℕ → Bool) (es : List (ℕ × X)) → length es ≤ position_or_len (λ e. test e.0) es
      → lookup test es ≡ None
  unplaced test [] long = refl
  unplaced test (e ∷ es) long = by_test (test e.0) long (unplaced test es)
    where
      by_test : (b : Bool) → length (e ∷ es) ≤ cond (not b) (1 + position_or_len (λ f. test f.0) es) 0
          → (length es ≤ position_or_len (λ f. test f.0) es → lookup test es ≡ None)
          → cond b (Some e.1) (lookup test es) ≡ None
      by_test true long more = absurd (omega (arith, long))
      by_test false long more = more (omega (arith, long))

  pub position-none : (test : ℕ → Bool) (es : List (ℕ × X)) → position (λ e. test e.0) es ≡ None → lookup test es ≡ None
  position-none test es none =
      let long : length es ≤ position_or_len (λ e. test e.0) es = grind (arith, common_steps) in
      unplaced test es long

  rise-place : (low high : ℕ) (es : List (ℕ × X)) (i : ℕ) (d : ℕ × X) → RiseTo low es high → i < length es
      → low ≤ (get_or es i d).0
  rise-place low high [] i d rise within = absurd (omega (arith, within))
  rise-place low high (e ∷ es) zero d rise within = rise.0
  rise-place low high (e ∷ es) (suc i) d rise within =
      let more = rise-place (e.0 + 1) high es i d rise.1 (omega (arith, within)) in omega (arith, rise.0, more)

  -- what stands at a place of the second of two lists
  pub placed : (n low high : ℕ) (es fs : List (ℕ × X)) (i : ℕ) (d : ℕ × X) → RiseTo low (es ++ fs) high
      → position (λ e. is_at (nat_cmp n) e.0) fs ≡ Some i
      → (lookup (is_at (nat_cmp n)) (es ++ fs) ≡ Some (get_or fs i d).1)
      × (remove_entry (is_at (nat_cmp n)) (es ++ fs) ≡ es ++ (take i fs ++ drop (suc i) fs))
  placed n low high es fs i d rise is =
      let at = position-Some (λ e. is_at (nat_cmp n) e.0) fs i d is in
      let parts = rise-parts low high es fs rise in
      let found = place-found (is_at (nat_cmp n)) fs i d at.0 at.1 at.2 in
      let least = rise-place parts.0 high fs i d parts.1.1 at.0 in
      let above : parts.0 ≤ n = omega (arith, least, at-same n (get_or fs i d).0 at.1) in (
        lookup-behind n low parts.0 es fs parts.1.0 above ∙ found.0,
        without-behind n low parts.0 es fs parts.1.0 above ∙ ap (λ (rest : List (ℕ × X)). es ++ rest) found.1,
      )

  -- ---- one more behind all
  pub rise-below : (low high number : ℕ) (es : List (ℕ × X)) → RiseTo low es high → low ≤ number
      → ((k : ℕ) (x : X) → lookup (is_at (nat_cmp k)) es ≡ Some x → k < number) → RiseTo low es number
  rise-below low high number [] rise under newest = under
  rise-below low high number (e ∷ es) rise under newest =
      let first : e.0 < number = newest e.0 e.1
      (ap (λ (b : Bool). cond b (Some e.1) (lookup (is_at (nat_cmp e.0)) es)) (at-self e.0 e.0 refl)) in (
        rise.0,
        rise-below (e.0 + 1) high number es rise.1 (omega (arith, first)) (λ k x is. elim (cases_eq k e.0) [
          | inl here ↦ omega (arith, here, first)
          | inr other ↦ newest k x
              (ap (λ (b : Bool). cond b (Some e.1) (lookup (is_at (nat_cmp k)) es)) (at-other k e.0 other) ∙ is)
        ]),
      )

  pub lookup-others : (n k : ℕ) (x : X) (es : List (ℕ × X)) → k ≢ n
      → lookup (is_at (nat_cmp k)) (es ++ (n, x) ∷ []) ≡ lookup (is_at (nat_cmp k)) es
  lookup-others n k x es other =
      lookup-before (is_at (nat_cmp k)) es ((n, x) ∷ []) (ap (λ (b : Bool). cond b (Some x) None) (at-other k n other))

  pub without-last : (n low : ℕ) (x : X) (es : List (ℕ × X)) → RiseTo low es n
      → remove_entry (is_at (nat_cmp n)) (es ++ (n, x) ∷ []) ≡ es
  without-last n low x es rise =
      without-behind n low n es ((n, x) ∷ []) rise (omega arith)
      ∙ ap (λ (b : Bool). es ++ cond b [] ((n, x) ∷ [])) (at-self n n refl) ∙ append-nil es

  -- ---- the order of their numbers
  increasing : (low high : ℕ) (es : List (ℕ × X)) → RiseTo low es high → IsStrictlyIncreasing (keys_of es)
  increasing low high [] rise = λ k within. absurd (omega (arith, within))
  increasing low high (e ∷ []) rise = λ k within. absurd (omega (arith, within))
  increasing low high (e ∷ (f ∷ es)) rise = λ k within. by_place k within (increasing (e.0 + 1) high (f ∷ es) rise.1)
    where
      by_place : (k : ℕ) → k + 1 < length (keys_of (e ∷ (f ∷ es))) → IsStrictlyIncreasing (keys_of (f ∷ es))
          → get_or (keys_of (e ∷ (f ∷ es))) k 0 < get_or (keys_of (e ∷ (f ∷ es))) (k + 1) 0
      by_place zero within more = omega (arith, rise.1.0)
      by_place (suc k) within more =
          let next : suc (k + 1) ≡ suc k + 1 = omega arith in
          subst (λ (n : ℕ). get_or (keys_of (f ∷ es)) k 0 < get_or (keys_of (e ∷ (f ∷ es))) n 0) next
          (more k (omega (arith, within)))

  pub rise-sorted : (low high : ℕ) (es : List (ℕ × X)) → RiseTo low es high → IsStrictlySortedBy nat_cmp (keys_of es)
  rise-sorted low high es rise = sorted_from_strictly_increasing (keys_of es) (increasing low high es rise)
