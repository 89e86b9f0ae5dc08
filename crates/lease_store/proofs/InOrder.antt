-- Pairs that are put in the order of their keys: they keep their
-- kinds, and what is found at a key; and pairs in that order stay.
use Rattle.std.proofs.Common.{◌≡◌, ◌++◌, List, [], ◌∷◌, Option, Some, None, IsTrue, refl, ap, ◌∙◌, cond, true}
use Rattle.std.specs.declared.cmp.Ordering.{Ordering}
use Rattle.std.specs.declared.cmp.Ordering.TheVariants.{Less, Equal, Greater}
use Rattle.std.specs.Ordering.{is_lt, eq_by_cmp}
use Rattle.std.specs.FinMap.{find, put, is_sorted}
use Rattle.std.specs.FinMap.Entries.{by_order, below_all}
use Rattle.std.proofs.lemmas.Bool.{and_parts, and_from}
use Rattle.store_keys.specs.declared.key.Key.{Key}
use Rattle.store_keys.specs.declared.value.KeyEntry.{KeyEntry}
use Rattle.lease_store.specs.KeyOrder.{key_cmp}
use Rattle.lease_store.specs.Kept.{AreOfKind}
use Rattle.lease_store.specs.InKeyOrder.{in_key_order, rises_behind}
use Rattle.lease_store.proofs.KeyLaws.{keys_total}
use Rattle.lease_store.proofs.Keeping.{order-put, kinds-put, find_put}

pub is_sorted-in_key_order : (es : List (Key × KeyEntry)) → IsTrue (is_sorted key_cmp (in_key_order es))
is_sorted-in_key_order [] = refl
is_sorted-in_key_order (e ∷ es) = order-put e.0 e.1 (in_key_order es) (is_sorted-in_key_order es)

pub kinds-in_key_order : (es : List (Key × KeyEntry)) → AreOfKind es → AreOfKind (in_key_order es)
kinds-in_key_order [] k = tt
kinds-in_key_order (e ∷ es) k = kinds-put e.0 e.1 (in_key_order es) k.0 (kinds-in_key_order es k.1)

-- what is found at a key is what was
pub find-in_key_order : (q : Key) (es : List (Key × KeyEntry)) → find key_cmp q (in_key_order es) ≡ find key_cmp q es
find-in_key_order q [] = refl
find-in_key_order q (e ∷ es) = find_put q e.0 e.1 (in_key_order es)
    ∙ ap (λ (found : Option KeyEntry). cond (eq_by_cmp key_cmp q e.0) (Some e.1) found) (find-in_key_order q es)

-- ---- pairs in that order
less : (o : Ordering) → is_lt o ≡ true → o ≡ Less
less Less h = refl
less Equal h = cc
less Greater h = cc

put-front : (e : Key × KeyEntry) (es : List (Key × KeyEntry)) → below_all key_cmp e.0 es ≡ true
    → put key_cmp e.0 e.1 es ≡ e ∷ es
put-front e [] h = refl
put-front e (f ∷ es) h = ap (λ (o : Ordering). by_order o (e ∷ f ∷ es) ((f.0, e.1) ∷ es) (f ∷ put key_cmp e.0 e.1 es))
    (less _ (and_parts (is_lt (key_cmp e.0 f.0)) (below_all key_cmp e.0 es) h).0)

pub in_key_order-sorted : (es : List (Key × KeyEntry)) → IsTrue (is_sorted key_cmp es) → in_key_order es ≡ es
in_key_order-sorted [] h = refl
in_key_order-sorted (e ∷ es) h =
    let p = and_parts (below_all key_cmp e.0 es) (is_sorted key_cmp es) h in
    ap (put key_cmp e.0 e.1) (in_key_order-sorted es p.1) ∙ put-front e es p.0

-- ---- each key before that of the next pair: then each before all behind it
lt-from : (o : Ordering) → o ≡ Less → is_lt o ≡ true
lt-from o e = ap is_lt e

below-more : (low high : Key) (es : List (Key × KeyEntry)) → key_cmp low high ≡ Less
    → below_all key_cmp high es ≡ true → below_all key_cmp low es ≡ true
below-more low high [] h below = refl
below-more low high (e ∷ es) h below =
    let p = and_parts (is_lt (key_cmp high e.0)) (below_all key_cmp high es) below in
    and_from (is_lt (key_cmp low e.0)) (below_all key_cmp low es)
    (lt-from _ (keys_total.trans low high e.0 h (less _ p.0))) (below-more low high es h p.1)

record Risen (last : Key) (es : List (Key × KeyEntry)) : Type 0 where
  pub below : below_all key_cmp last es ≡ true
  pub sorted : is_sorted key_cmp es ≡ true

risen : (last : Key) (es : List (Key × KeyEntry)) → rises_behind (Some last) es ≡ true → Risen last es
risen last [] h = record { below = refl; sorted = refl }
risen last (e ∷ es) h =
    let p = and_parts (is_lt (key_cmp last e.0)) (rises_behind (Some e.0) es) h in
    let more : Risen e.0 es = risen e.0 es p.1 in
    let first : key_cmp last e.0 ≡ Less = less _ p.0 in
    record {
      below =
          and_from (is_lt (key_cmp last e.0)) (below_all key_cmp last es) p.0 (below-more last e.0 es first more.below);
      sorted = and_from (below_all key_cmp e.0 es) (is_sorted key_cmp es) more.below more.sorted;
    }

sorted-risen : (es : List (Key × KeyEntry)) → rises_behind None es ≡ true → IsTrue (is_sorted key_cmp es)
sorted-risen [] h = refl
sorted-risen (e ∷ es) h =
    let more : Risen e.0 es = risen e.0 es h in
    and_from (below_all key_cmp e.0 es) (is_sorted key_cmp es) more.below more.sorted

pub in_key_order-risen : (es : List (Key × KeyEntry)) → rises_behind None es ≡ true → in_key_order es ≡ es
in_key_order-risen es h = in_key_order-sorted es (sorted-risen es h)

-- ---- from the last pair on
-- pairs put one after another, the last one first, into ordered ones
abbrev pub put_all : List (Key × KeyEntry) → List (Key × KeyEntry) → List (Key × KeyEntry)
put_all ordered [] = ordered
put_all ordered (pair ∷ pairs) = put key_cmp pair.0 pair.1 (put_all ordered pairs)

pub put_all-none : (es : List (Key × KeyEntry)) → put_all [] es ≡ in_key_order es
put_all-none [] = refl
put_all-none (e ∷ es) = ap (put key_cmp e.0 e.1) (put_all-none es)

pub put_all-last : (ordered es : List (Key × KeyEntry)) (e : Key × KeyEntry)
    → put_all ordered (es ++ e ∷ []) ≡ put_all (put key_cmp e.0 e.1 ordered) es
put_all-last ordered [] e = refl
put_all-last ordered (f ∷ es) e = ap (put key_cmp f.0 f.1) (put_all-last ordered es e)
