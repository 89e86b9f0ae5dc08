-- What a patch leaves, name by name.
use Rattle.std.proofs.Common.{◌≡◌, ℕ, List, [], ◌∷◌, ◌⊎◌, inl, inr, Option, Some, None, Bool, true, false, option_and_then, Ordering, Less, Equal, Greater, is_eq, nat_cmp, bytes_eq, true≢false, refl, sym, ap, subst, ◌∙◌}
use Rattle.std.proofs.lemmas.Cmp.{nat_list_cmp_total, tied_itself}
use Rattle.std.proofs.lemmas.Map.Text.{is_eq-slice_cmp}
use Rattle.std.proofs.lemmas.Slice.Eq.{bytes_eq-Decides}
use Rattle.std.specs.Cmp.Lexicographic.{slice_cmp}
use Rattle.std.specs.Ordering.{match_ordering}
use Rattle.serde_json.specs.Data.{Data, object, Members, no_members, member, put}
use Rattle.serde_json.specs.Find.{get_member}
use Rattle.serde_json.proofs.Views.{get_member-put, get_member-put_other}
use Rattle.cluster_config.specs.ConfigLaws.{IsDistinct, found_along, LeavesAlone}
use Rattle.cluster_config.specs.ConfigMerging.{without, with_at, merged, patched}

decided_by : (q k : List ℕ) (b : Bool) → bytes_eq q k ≡ b
    → (q ≡ k) ⊎ ((q ≡ k → ⊥) × (is_eq (slice_cmp nat_cmp q k) ≡ false))
decided_by q k true e = inl ((bytes_eq-Decides q k).0 e)
decided_by q k false e = inr (λ is. true≢false (sym ((bytes_eq-Decides q k).1 is) ∙ e), is_eq-slice_cmp q k ∙ e)

-- two names are one, or their order tells them apart
decided : (q k : List ℕ) → (q ≡ k) ⊎ ((q ≡ k → ⊥) × (is_eq (slice_cmp nat_cmp q k) ≡ false))
decided q k = decided_by q k (bytes_eq q k) refl

unlike : (q k : List ℕ) → (q ≡ k → ⊥) → is_eq (slice_cmp nat_cmp q k) ≡ false
unlike q k other = elim (decided q k) [ inl is ↦ absurd (other is) | inr p ↦ p.1 ]

alike : (q k : List ℕ) → q ≡ k → slice_cmp nat_cmp q k ≡ Equal
alike q k is = ap (slice_cmp nat_cmp q) (sym is) ∙ tied_itself nat_list_cmp_total q

outer : {A : Type 0} (o : Ordering) (a b : A) → is_eq o ≡ false → match_ordering o a b a ≡ a
outer Less a b e = refl
outer Equal a b e = absurd (true≢false e)
outer Greater a b e = refl

some-not-none : (d : Data) → Some d ≡ None → ⊥
some-not-none d e = cc

same-some : (c d : Data) → Some c ≡ Some d → c ≡ d
same-some c d e = cc

skipped : (q k : List ℕ) (d : Data) (ms : Members) → is_eq (slice_cmp nat_cmp q k) ≡ false
    → get_member q (member k d ms) ≡ get_member q ms
skipped q k d ms other = outer (slice_cmp nat_cmp q k) (get_member q ms) (Some d) other

here : (q k : List ℕ) (d : Data) (ms : Members) → q ≡ k → get_member q (member k d ms) ≡ Some d
here q k d ms is = ap (λ (o : Ordering). match_ordering o (get_member q ms) (Some d) (get_member q ms)) (alike q k is)

named-not : (q k : List ℕ) (d : Data) (ms : Members) → get_member q (member k d ms) ≡ None
    → (q ≡ k → ⊥) × (get_member q ms ≡ None)
named-not q k d ms e = elim (decided q k) [
  | inl is ↦ absurd (some-not-none d (sym (here q k d ms is) ∙ e))
  | inr p ↦ (p.0, sym (skipped q k d ms p.1) ∙ e)
]

gone : (k l : List ℕ) (e : Data) (ms : Members) → k ≡ l → without k (member l e ms) ≡ ms
gone k l e ms is =
    ap (λ (o : Ordering). match_ordering o (member l e (without k ms)) ms (member l e (without k ms))) (alike k l is)

kept : (k l : List ℕ) (e : Data) (ms : Members) → is_eq (slice_cmp nat_cmp k l) ≡ false
    → without k (member l e ms) ≡ member l e (without k ms)
kept k l e ms other = outer (slice_cmp nat_cmp k l) (member l e (without k ms)) ms other

get_member-without_other : (q k : List ℕ) (ms : Members) → (q ≡ k → ⊥) → get_member q (without k ms) ≡ get_member q ms
get_member-without_other q k no_members other = refl
get_member-without_other q k (member l e ms) other = elim (decided k l) [
  | inl is ↦ ap (get_member q) (gone k l e ms is) ∙ sym (skipped q l e ms (unlike q l (λ h. other (h ∙ sym is))))
  | inr p ↦ ap (get_member q) (kept k l e ms p.1)
      ∙ ap (λ r. match_ordering (slice_cmp nat_cmp q l) r (Some e) r) (get_member-without_other q k ms other)
]

get_member-with_at_other : (q k : List ℕ) (o : Option Data) (ms : Members) → (q ≡ k → ⊥)
    → get_member q (with_at k o ms) ≡ get_member q ms
get_member-with_at_other q k None ms other = get_member-without_other q k ms other
get_member-with_at_other q k (Some d) ms other =
    get_member-put_other q k d (without k ms) other ∙ get_member-without_other q k ms other

-- a name that the patch doesn't have keeps its value
pub merged-unnamed : (q : List ℕ) (present patch : Members) → get_member q patch ≡ None
    → get_member q (merged present patch) ≡ get_member q present
merged-unnamed q present no_members e = refl
merged-unnamed q present (member k d patch) e =
    let parts : (q ≡ k → ⊥) × (get_member q patch ≡ None) = named-not q k d patch e in
    merged-unnamed q (with_at k (patched (get_member k present) d) present) patch parts.1
    ∙ get_member-with_at_other q k (patched (get_member k present) d) present parts.0

get_member-without : (q k : List ℕ) (ms : Members) → get_member q ms ≡ None → get_member q (without k ms) ≡ None
get_member-without q k no_members none = refl
get_member-without q k (member l e ms) none =
    let parts : (q ≡ l → ⊥) × (get_member q ms ≡ None) = named-not q l e ms none in
    elim (decided k l) [
      | inl is ↦ ap (get_member q) (gone k l e ms is) ∙ parts.1
      | inr p ↦ ap (get_member q) (kept k l e ms p.1) ∙ skipped q l e (without k ms) (unlike q l parts.0)
          ∙ get_member-without q k ms parts.1
    ]

without-distinct : (k : List ℕ) (ms : Members) → IsDistinct ms → IsDistinct (without k ms)
without-distinct k no_members distinct = tt
without-distinct k (member l e ms) distinct = elim (decided k l) [
  | inl is ↦ subst IsDistinct (sym (gone k l e ms is)) distinct.1
  | inr p ↦ subst IsDistinct (sym (kept k l e ms p.1))
      (get_member-without l k ms distinct.0, without-distinct k ms distinct.1)
]

without-gone : (k : List ℕ) (ms : Members) → IsDistinct ms → get_member k (without k ms) ≡ None
without-gone k no_members distinct = refl
without-gone k (member l e ms) distinct = elim (decided k l) [
  | inl is ↦ ap (get_member k) (gone k l e ms is) ∙ ap (λ (t : List ℕ). get_member t ms) is ∙ distinct.0
  | inr p ↦ ap (get_member k) (kept k l e ms p.1) ∙ skipped k l e (without k ms) p.1 ∙ without-gone k ms distinct.1
]

chosen-distinct : (o : Ordering) (a b c : Members) → IsDistinct a → IsDistinct b → IsDistinct c
    → IsDistinct (match_ordering o a b c)
chosen-distinct Less a b c x y z = x
chosen-distinct Equal a b c x y z = y
chosen-distinct Greater a b c x y z = z

put-distinct : (k : List ℕ) (d : Data) (ms : Members) → get_member k ms ≡ None → IsDistinct ms → IsDistinct (put k d ms)
put-distinct k d no_members none distinct = (refl, tt)
put-distinct k d (member l e ms) none distinct =
    let parts : (k ≡ l → ⊥) × (get_member k ms ≡ None) = named-not k l e ms none in
    chosen-distinct (slice_cmp nat_cmp k l) (member k d (member l e ms)) (member l d ms) (member l e (put k d ms))
    (none, distinct) distinct
    (get_member-put_other l k d ms (λ h. parts.0 (sym h)) ∙ distinct.0, put-distinct k d ms parts.1 distinct.1)

with_at-distinct : (k : List ℕ) (o : Option Data) (ms : Members) → IsDistinct ms → IsDistinct (with_at k o ms)
with_at-distinct k None ms distinct = without-distinct k ms distinct
with_at-distinct k (Some d) ms distinct =
    put-distinct k d (without k ms) (without-gone k ms distinct) (without-distinct k ms distinct)

get_member-with_at : (k : List ℕ) (o : Option Data) (ms : Members) → IsDistinct ms → get_member k (with_at k o ms) ≡ o
get_member-with_at k None ms distinct = without-gone k ms distinct
get_member-with_at k (Some d) ms distinct = get_member-put k d (without k ms)

first-named : (q k : List ℕ) (v d : Data) (present patch : Members) → q ≡ k → IsDistinct present
    → get_member k patch ≡ None → get_member q (member k v patch) ≡ Some d
    → get_member q (merged (with_at k (patched (get_member k present) v) present) patch)
    ≡ patched (get_member q present) d
first-named q k v d present patch is distinct none e =
    let value : v ≡ d = same-some v d (sym (here q k v patch is) ∙ e) in
    merged-unnamed q (with_at k (patched (get_member k present) v) present) patch
    (ap (λ (t : List ℕ). get_member t patch) is ∙ none)
    ∙ ap (λ (t : List ℕ). get_member t (with_at k (patched (get_member k present) v) present)) is
    ∙ get_member-with_at k (patched (get_member k present) v) present distinct
    ∙ ap (λ (t : List ℕ). patched (get_member t present) v) (sym is)
    ∙ ap (patched (get_member q present)) value

-- a name that the patch has ends with what the patch says of it
pub merged-named : (q : List ℕ) (present patch : Members) (d : Data) → IsDistinct present → IsDistinct patch
    → get_member q patch ≡ Some d → get_member q (merged present patch) ≡ patched (get_member q present) d
merged-named q present no_members d distinct each e = absurd (some-not-none d (sym e))
merged-named q present (member k v patch) d distinct each e = elim (decided q k) [
  | inl is ↦ first-named q k v d present patch is distinct each.0 e
  | inr p ↦ merged-named q (with_at k (patched (get_member k present) v) present) patch d
      (with_at-distinct k (patched (get_member k present) v) present distinct) each.1
      (sym (skipped q k v patch p.1) ∙ e)
      ∙ ap (λ (o : Option Data). patched o d)
      (get_member-with_at_other q k (patched (get_member k present) v) present p.0)
]

-- what a patch says nothing of stays, at every depth
pub merged-along : (path : List (List ℕ)) (present patch : Members) (d : Data) → LeavesAlone path present patch
    → found_along path (object present) ≡ Some d → found_along path (object (merged present patch)) ≡ Some d
merged-along [] present patch d alone found = absurd alone
merged-along (name ∷ path) present patch d (inl none) found =
    ap (option_and_then (found_along path)) (merged-unnamed name present patch none) ∙ found
merged-along (name ∷ path) present patch d (inr x) found =
    let stands : get_member name (merged present patch) ≡ Some (object (merged x.1 x.0)) =
    merged-named name present patch (object x.0) x.4 x.5 x.2 ∙ ap (λ (o : Option Data). patched o (object x.0)) x.3 in
    ap (option_and_then (found_along path)) stands
    ∙ merged-along path x.1 x.0 d x.6 (sym (ap (option_and_then (found_along path)) x.3) ∙ found)
