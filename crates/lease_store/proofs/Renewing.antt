-- One of the set of expiries that another is put over: where that goes, once those between are moved in front of it.
use Rattle.std.proofs.Common.{◌≡◌, ℕ, ◌+◌, ◌<◌, ◌≤◌, ◌++◌, Bool, true, false, cond, List, [], ◌∷◌, length, take, drop, slice_index_or, slice_set, arith, refl, ap, sym, ◌∙◌, subst, add-one}
use Rattle.std.proofs.lemmas.Bool.Decides.{nat_tests}
use Rattle.std.proofs.lemmas.List.{append_assoc, drop-set-lt, drop_all, length-set, set_split, take-append-drop, take_more_set}
use Rattle.std.specs.List.{AllByRecursion}
use Rattle.std.specs.List.Sorted.{IsStrictlySortedBy}
use Rattle.std.specs.declared.cmp.Ordering.TheVariants.{Less, Equal, Greater}
use Rattle.std.specs.Ordering.{is_lt, nat_cmp, ordering_then, ordering_reverse}
use Rattle.pat_base.specs.declared.ticks.Ticks.{Ticks}
use Rattle.store_keys.specs.declared.key.Key.{Key}
use Rattle.lease_store.specs.Expiries.{expiry_cmp, expiries_with}
use Rattle.lease_store.specs.KeyOrder.{key_cmp}
use Rattle.lease_store.proofs.Expiring.{Expiries, expiries_total}
use Rattle.lease_store.proofs.Placing.{rest}

-- at this place is nothing of the set any more: with the new one it is those in front of there, and those behind with
-- the new one
pub record HasGap (added : Ticks × Key) (at : ℕ) (before expiries : Expiries) (gap : ℕ) : Type 0 where
  pub within : gap < length expiries
  pub whole : take at before ++ expiries_with added (drop (at + 1) before)
      ≡ take gap expiries ++ expiries_with added (drop (gap + 1) expiries)

pub gap_at-first : (added : Ticks × Key) (at : ℕ) (expiries : Expiries) → at < length expiries
    → HasGap added at expiries expiries at
gap_at-first added at expiries h = record { within = h; whole = refl }

with-passed : (added next : Ticks × Key) (es left : Expiries) → es ≡ next ∷ left
    → is_lt (expiry_cmp added next) ≡ false → expiries_with added es ≡ next ∷ expiries_with added left
with-passed added next es left is later = ap (expiries_with added) is
    ∙ ap (λ b. cond b (added ∷ next ∷ left) (next ∷ expiries_with added left)) later

with-here : (added next : Ticks × Key) (es left : Expiries) → es ≡ next ∷ left
    → is_lt (expiry_cmp added next) ≡ true → expiries_with added es ≡ added ∷ es
with-here added next es left is earlier = ap (expiries_with added) is
    ∙ ap (λ b. cond b (added ∷ next ∷ left) (next ∷ expiries_with added left)) earlier
    ∙ ap (λ t. added ∷ t) (sym is)

-- the next one moves into the gap
pub gap-moved : (added next : Ticks × Key) (at gap : ℕ) (before expiries after : Expiries)
    → HasGap added at before expiries gap → gap + 1 < length expiries → next ≡ slice_index_or expiries (gap + 1) next
    → is_lt (expiry_cmp added next) ≡ false → after ≡ slice_set expiries gap next
    → HasGap added at before after (gap + 1)
gap-moved added next at gap before expiries after has h is later set =
    let left = drop (gap + 1 + 1) expiries in
    let moved = slice_set expiries gap next in
    subst (λ (t : Expiries). HasGap added at before t (gap + 1)) (sym set) (record {
      within = subst (λ (n : ℕ). gap + 1 < n) (sym (length-set expiries gap next)) h;
      whole = has.whole
          ∙ ap (λ t. take gap expiries ++ t)
          (with-passed added next (drop (gap + 1) expiries) left (rest expiries (gap + 1) next h is) later)
          ∙ sym (append_assoc (take gap expiries) (next ∷ []) (expiries_with added left))
          ∙ ap (λ t. t ++ expiries_with added left) (sym (take_more_set expiries gap next has.within))
          ∙ ap (λ t. take (gap + 1) moved ++ expiries_with added t)
          (sym (drop-set-lt (gap + 1 + 1) expiries gap next (omega arith)));
    })

filled : (added : Ticks × Key) (at gap : ℕ) (before expiries after : Expiries) → HasGap added at before expiries gap
    → expiries_with added (drop (gap + 1) expiries) ≡ added ∷ drop (gap + 1) expiries
    → after ≡ slice_set expiries gap added → after ≡ take at before ++ expiries_with added (drop (at + 1) before)
filled added at gap before expiries after has here set = set ∙ set_split expiries gap added has.within
    ∙ ap (λ n. take gap expiries ++ added ∷ drop n expiries) (sym (add-one gap))
    ∙ ap (λ t. take gap expiries ++ t) (sym here)
    ∙ sym has.whole

-- the new one goes into the gap, in front of one that comes behind it
pub gap-filled : (added next : Ticks × Key) (at gap : ℕ) (before expiries after : Expiries)
    → HasGap added at before expiries gap → gap + 1 < length expiries → next ≡ slice_index_or expiries (gap + 1) next
    → is_lt (expiry_cmp added next) ≡ true → after ≡ slice_set expiries gap added
    → after ≡ take at before ++ expiries_with added (drop (at + 1) before)
gap-filled added next at gap before expiries after has h is earlier set =
    filled added at gap before expiries after has
    (with-here added next (drop (gap + 1) expiries) (drop (gap + 1 + 1) expiries)
    (rest expiries (gap + 1) next h is) earlier) set

-- or behind all
pub gap-filled_last : (added : Ticks × Key) (at gap : ℕ) (before expiries after : Expiries)
    → HasGap added at before expiries gap → length expiries ≤ gap + 1 → after ≡ slice_set expiries gap added
    → after ≡ take at before ++ expiries_with added (drop (at + 1) before)
gap-filled_last added at gap before expiries after has h set =
    let none = drop_all (gap + 1) expiries h in
    filled added at gap before expiries after has
    (ap (expiries_with added) none ∙ ap (λ t. added ∷ t) (sym none)) set

-- ---- the one that is put over ended earlier
less-of : (x e : Ticks × Key) (front behind : Expiries)
    → AllByRecursion (λ y. expiry_cmp x y ≡ Less) (front ++ e ∷ behind) → expiry_cmp x e ≡ Less
less-of x e [] behind all = all.0
less-of x e (y ∷ front) behind all = less-of x e front behind all.1

behind-earlier : (added e : Ticks × Key) (front behind : Expiries) → expiry_cmp e added ≡ Less
    → IsStrictlySortedBy expiry_cmp (front ++ e ∷ behind)
    → expiries_with added (front ++ behind) ≡ front ++ expiries_with added behind
unfolding IsStrictlySortedBy
behind-earlier added e [] behind less rise = refl
behind-earlier added e (x ∷ front) behind less rise =
    let later = expiries_total.antisymm added x
    ∙ ap ordering_reverse (expiries_total.trans x e added (less-of x e front behind rise.0) less) in
    ap (λ o. cond (is_lt o) (added ∷ x ∷ (front ++ behind)) (x ∷ expiries_with added (front ++ behind))) later
    ∙ ap (λ t. x ∷ t) (behind-earlier added e front behind less rise.1)

earlier-number : (m n : ℕ) → m < n → nat_cmp m n ≡ Less
earlier-number m n h = grind (arith, nat_tests)

pub earlier-test : (m n : ℕ) → is_lt (nat_cmp m n) ≡ true → m < n
earlier-test m n h = grind (arith, nat_tests)

-- what is put over an earlier one goes behind all that are in front of that
pub put_over-earlier : (added e : Ticks × Key) (at : ℕ) (before slice after : Expiries) → slice ≡ before
    → at < length slice → e ≡ slice_index_or before at e → e.0.0 < added.0.0
    → IsStrictlySortedBy expiry_cmp before → after ≡ take at slice ++ expiries_with added (drop (at + 1) slice)
    → after ≡ expiries_with added (take at before ++ drop (at + 1) before)
put_over-earlier added e at before slice after same h is ends rise put =
    let less : expiry_cmp e added ≡ Less =
    ap (λ o. ordering_then o (key_cmp e.1 added.1)) (earlier-number e.0.0 added.0.0 ends) in
    let within = subst (λ (t : Expiries). at < length t) same h in
    let split = sym (take-append-drop at before) ∙ ap (λ t. take at before ++ t) (rest before at e within is) in
    put ∙ ap (λ (t : Expiries). take at t ++ expiries_with added (drop (at + 1) t)) same
    ∙ sym (behind-earlier added e (take at before) (drop (at + 1) before) less
    (subst (λ (t : Expiries). IsStrictlySortedBy expiry_cmp t) split rise))
