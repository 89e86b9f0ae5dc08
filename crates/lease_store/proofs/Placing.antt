-- Looking for the place of a key.
use Rattle.std.proofs.Common.{◌≡◌, ℕ, suc, ◌+◌, ◌≤◌, ◌<◌, ◌++◌, List, [], ◌∷◌, length, take, drop, Option, Some, None, IsTrue, slice_index_or, slice_set, refl, sym, ap, ◌∙◌, cond, true, ◌&&◌, subst, add-one, drop-cons}
use Rattle.std.specs.declared.cmp.Ordering.TheVariants.{Less, Equal}
use Rattle.std.specs.Ordering.{is_eq, is_lt}
use Rattle.std.proofs.lemmas.Bool.{and_parts}
use Rattle.std.proofs.lemmas.List.{get_or_default, set_split}
use Rattle.std.specs.FinMap.{find, put, is_sorted}
use Rattle.std.specs.FinMap.Entries.{by_order, below_all}
use Rattle.pat_base.specs.declared.ticks.Ticks.{Ticks}
use Rattle.store_keys.specs.declared.key.Key.{Key}
use Rattle.store_keys.specs.declared.value.KeyEntry.{KeyEntry}
use Rattle.lease_store.specs.KeyOrder.{key_cmp}
use Rattle.lease_store.specs.Writes.{pairs_extended, extended_expiry}
use Rattle.lease_store.specs.Places.{IsPlaceOf, IsGapFor}
use Rattle.lease_store.proofs.KeyLaws.{keys_total, keys_exact}
use Rattle.lease_store.proofs.Keeping.{less-from}

-- the keys in front of this place come before the key
pub record Passed (key : Key) (pairs : List (Key × KeyEntry)) (at : ℕ) : Type 0 where
  pub within : at ≤ length pairs
  pub puts : (stored : KeyEntry)
      → put key_cmp key stored pairs ≡ take at pairs ++ put key_cmp key stored (drop at pairs)
  pub finds : find key_cmp key (drop at pairs) ≡ find key_cmp key pairs
  pub order : IsTrue (is_sorted key_cmp pairs) → IsTrue (is_sorted key_cmp (drop at pairs))

pub rest : {X : Type 0} (xs : List X) (at : ℕ) (x : X) → at < length xs → x ≡ slice_index_or xs at x
    → drop at xs ≡ x ∷ drop (at + 1) xs
rest xs at x h is = rw (add-one) (drop-cons xs at x h ∙ ap (λ y. y ∷ drop (suc at) xs) (sym is))

put-less : (key : Key) (stored : KeyEntry) (es : List (Key × KeyEntry)) (e : Key × KeyEntry)
    (left : List (Key × KeyEntry)) → es ≡ e ∷ left → key_cmp key e.0 ≡ Less
    → put key_cmp key stored es ≡ (key, stored) ∷ es
put-less key stored es e left is less =
    ap (put key_cmp key stored) is
    ∙ ap (λ o. by_order o ((key, stored) ∷ e ∷ left) ((e.0, stored) ∷ left) (e ∷ put key_cmp key stored left)) less
    ∙ ap (λ t. (key, stored) ∷ t) (sym is)

put-equal : (key : Key) (stored : KeyEntry) (es : List (Key × KeyEntry)) (e : Key × KeyEntry)
    (left : List (Key × KeyEntry)) → es ≡ e ∷ left → key_cmp key e.0 ≡ Equal
    → put key_cmp key stored es ≡ (key, stored) ∷ left
put-equal key stored es e left is equal =
    ap (put key_cmp key stored) is
    ∙ ap (λ o. by_order o ((key, stored) ∷ e ∷ left) ((e.0, stored) ∷ left) (e ∷ put key_cmp key stored left)) equal
    ∙ ap (λ k. (k, stored) ∷ left) (sym (keys_exact key e.0 equal))

find-equal : (key : Key) (es : List (Key × KeyEntry)) (e : Key × KeyEntry) (left : List (Key × KeyEntry))
    → es ≡ e ∷ left → key_cmp key e.0 ≡ Equal → find key_cmp key es ≡ Some e.1
find-equal key es e left is equal =
    ap (find key_cmp key) is ∙ ap (λ o. cond (is_eq o) (Some e.1) (find key_cmp key left)) equal

find-below : (key low : Key) (es : List (Key × KeyEntry)) → key_cmp key low ≡ Less
    → IsTrue (below_all key_cmp low es) → find key_cmp key es ≡ None
find-below key low [] less h = refl
find-below key low (e ∷ es) less h =
    let below = keys_total.trans key low e.0 less
    (less-from (key_cmp low e.0) (and_parts (is_lt (key_cmp low e.0)) (below_all key_cmp low es) h).0) in
    ap (λ o. cond (is_eq o) (Some e.1) (find key_cmp key es)) below
    ∙ find-below key low es less (and_parts (is_lt (key_cmp low e.0)) (below_all key_cmp low es) h).1

-- a key before the first of pairs in order isn't among them
find-less : (key : Key) (es : List (Key × KeyEntry)) (e : Key × KeyEntry) (left : List (Key × KeyEntry))
    → es ≡ e ∷ left → key_cmp key e.0 ≡ Less → IsTrue (is_sorted key_cmp es) → find key_cmp key es ≡ None
find-less key es e left is less sorted =
    let order : (below_all key_cmp e.0 left && is_sorted key_cmp left) ≡ true =
    subst (λ (t : List (Key × KeyEntry)). is_sorted key_cmp t ≡ true) is sorted in
    ap (find key_cmp key) is
    ∙ ap (λ o. cond (is_eq o) (Some e.1) (find key_cmp key left)) less
    ∙ find-below key e.0 left less (and_parts (below_all key_cmp e.0 left) (is_sorted key_cmp left) order).0

pub gap_here : (key : Key) (pairs : List (Key × KeyEntry)) (at : ℕ) (pair : Key × KeyEntry) → at < length pairs
    → pair ≡ slice_index_or pairs at pair → Less ≡ key_cmp key pair.0 → Passed key pairs at → IsGapFor key pairs at
gap_here key pairs at pair h is less passed =
    let here = rest pairs at pair h is in
    record {
      within = passed.within;
      puts = λ stored. passed.puts stored
          ∙ ap (λ t. take at pairs ++ t)
          (put-less key stored (drop at pairs) pair (drop (at + 1) pairs) here (sym less));
      lacks = λ sorted. sym passed.finds
          ∙ find-less key (drop at pairs) pair (drop (at + 1) pairs) here (sym less) (passed.order sorted);
    }

pub place_here : (key : Key) (pairs : List (Key × KeyEntry)) (at : ℕ) (pair : Key × KeyEntry) → at < length pairs
    → pair ≡ slice_index_or pairs at pair → Equal ≡ key_cmp key pair.0 → Passed key pairs at → IsPlaceOf key pairs at
place_here key pairs at pair h is equal passed =
    let here = rest pairs at pair h is in
    record {
      within = h;
      puts = λ stored. passed.puts stored
          ∙ ap (λ t. take at pairs ++ t)
          (put-equal key stored (drop at pairs) pair (drop (at + 1) pairs) here (sym equal));
      holds = λ other. sym passed.finds
          ∙ find-equal key (drop at pairs) pair (drop (at + 1) pairs) here (sym equal)
          ∙ ap (λ (p : Key × KeyEntry). Some p.1) (is ∙ get_or_default pairs at pair other h);
      key_is = λ other. ap (λ (p : Key × KeyEntry). p.0) (get_or_default pairs at other pair h ∙ sym is)
          ∙ sym (keys_exact key pair.0 (sym equal));
    }

over : (key : Key) (pairs : List (Key × KeyEntry)) (at : ℕ) (stored : KeyEntry) → IsPlaceOf key pairs at
    → slice_set pairs at (key, stored) ≡ put key_cmp key stored pairs
over key pairs at stored place = set_split pairs at (key, stored) place.within
    ∙ ap (λ n. take at pairs ++ (key, stored) ∷ drop n pairs) (sym (add-one at)) ∙ sym (place.puts stored)

-- what is written over the pair at its place
pub put_over : (key : Key) (slice pairs : List (Key × KeyEntry)) (at : ℕ) (stored : KeyEntry) → slice ≡ pairs
    → IsPlaceOf key slice at → slice_set pairs at (key, stored) ≡ put key_cmp key stored pairs
put_over key slice pairs at stored same place =
    over key pairs at stored (subst (λ (t : List (Key × KeyEntry)). IsPlaceOf key t at) same place)

-- the same, where only the revision and the expiry change
pub extended_over : (key : Key) (slice pairs : List (Key × KeyEntry)) (at revision until : ℕ)
    (pair : Key × KeyEntry) (expiry : Option Ticks) → slice ≡ pairs → IsPlaceOf key slice at
    → pair ≡ slice_index_or pairs at pair → expiry ≡ extended_expiry until pair.1.expiry
    → slice_set pairs at (pair.0, record { value = pair.1.value; revision = revision; expiry = expiry })
    ≡ pairs_extended revision until pairs key (find key_cmp key pairs)
extended_over key slice pairs at revision until pair expiry same place is lasts =
    let here : IsPlaceOf key pairs at = subst (λ (t : List (Key × KeyEntry)). IsPlaceOf key t at) same place in
    let stored : KeyEntry = record { value = pair.1.value; revision = revision; expiry = expiry } in
    ap (λ k. slice_set pairs at (k, stored)) (ap (λ (p : Key × KeyEntry). p.0) is ∙ here.key_is pair)
    ∙ over key pairs at stored here
    ∙ ap (λ (e : Option Ticks).
    put key_cmp key (record { value = pair.1.value; revision = revision; expiry = e }) pairs)
    lasts
    ∙ ap (pairs_extended revision until pairs key)
    (sym (here.holds pair ∙ ap (λ (p : Key × KeyEntry). Some p.1) (sym is)))
