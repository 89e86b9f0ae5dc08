-- The set of expiries: what holds of it after each change, and what its front tells.
use Rattle.std.proofs.Common.{◌≡◌, ◌≢◌, ℕ, ◌≤◌, ◌<◌, ◌==◌, nat_lt, not, Bool, true, false, cond, ◌||◌, ◌&&◌, List, [], ◌∷◌, map, filter, Option, Some, None, IsTrue, Vec, arith, refl, ap, sym, ◌∙◌, subst}
use Rattle.std.proofs.lemmas.Bool.{and_parts}
use Rattle.std.proofs.lemmas.Bool.Decides.{nat_tests}
use Rattle.std.proofs.lemmas.Cmp.{on_total, then_total, tied_itself, eq_by_cmp_equiv, nat_cmp_total}
use Rattle.std.proofs.lemmas.List.Kept.{IsStrictlySortedBy-filter}
use Rattle.std.proofs.lemmas.Option.{same_Some}
use Rattle.std.specs.Cmp.{IsTotalOrder}
use Rattle.std.specs.FinMap.{find, put, is_sorted}
use Rattle.std.specs.FinMap.Entries.{below_all}
use Rattle.std.specs.List.{list_any, AllByRecursion}
use Rattle.std.specs.List.Sorted.{IsStrictlySortedBy}
use Rattle.std.specs.declared.cmp.Ordering.{Ordering}
use Rattle.std.specs.declared.cmp.Ordering.TheVariants.{Less, Equal, Greater}
use Rattle.std.specs.Ordering.{is_eq, is_lt, nat_cmp, ordering_then, ordering_reverse, eq_by_cmp}
use Rattle.pat_base.specs.declared.ticks.Ticks.{Ticks}
use Rattle.store_keys.specs.declared.key.Key.{Key}
use Rattle.store_keys.specs.declared.value.KeyEntry.{KeyEntry}
use Rattle.lease_store.specs.Answers.{absent_keys, present_pairs}
use Rattle.lease_store.specs.Copied.{AreCopies}
use Rattle.lease_store.specs.Expiries.{expiry_cmp, is_among, is_expiry, expires_at, AreExpiriesOf, AreOfKeysOnce, IsExchanged, expiries_without, expiries_with, has_come, first_of}
use Rattle.lease_store.specs.KeyOrder.{key_cmp}
use Rattle.lease_store.specs.Keys.{is_present, present}
use Rattle.lease_store.specs.Writes.{without}
use Rattle.lease_store.proofs.KeyLaws.{keys_total}
use Rattle.lease_store.proofs.Keeping.{find_put, find_without, find_present, same_key, find-below}

abbrev pub Pairs : Type 0
Pairs = List (Key × KeyEntry)

abbrev pub Expiries : Type 0
Expiries = List (Ticks × Key)

clash : {X : Type 0} → true ≡ false → X
clash e = absurd (no-way e)
  where
    no-way : true ≡ false → ⊥
    no-way h = cc

none-some : {X : Type 0} (stored : KeyEntry) → None ≡ Some stored → X
none-some stored e = absurd (no-way stored e)
  where
    no-way : (stored : KeyEntry) → None ≡ Some stored → ⊥
    no-way stored h = cc

and-false : (b : Bool) → (b && false) ≡ false
and-false true = refl
and-false false = refl

-- ---- the order
pub expiries_total : IsTotalOrder expiry_cmp
expiries_total =
    then_total (on_total (λ (e : Ticks × Key). e.0.0) nat_cmp_total) (on_total (λ (e : Ticks × Key). e.1) keys_total)

then-eq : (p o : Ordering) → is_eq (ordering_then p o) ≡ (is_eq p && is_eq o)
then-eq Less o = refl
then-eq Equal o = refl
then-eq Greater o = refl

same-number : (m n : ℕ) → is_eq (nat_cmp m n) ≡ (m == n)
same-number m n = grind (arith, nat_tests)

-- two of them are one where their moments are and their keys are
one-by-parts : (a b : Ticks × Key) → eq_by_cmp expiry_cmp a b ≡ ((a.0.0 == b.0.0) && eq_by_cmp key_cmp a.1 b.1)
one-by-parts a b = then-eq (nat_cmp a.0.0 b.0.0) (key_cmp a.1 b.1)
    ∙ ap (λ t. t && eq_by_cmp key_cmp a.1 b.1) (same-number a.0.0 b.0.0)

numbers-same : (m n : ℕ) → (m == n) ≡ true → m ≡ n
numbers-same m n h = grind (arith, nat_tests)

expiries-exact : (a b : Ticks × Key) → eq_by_cmp expiry_cmp a b ≡ true → a ≡ b
expiries-exact a b h =
    let parts = and_parts (a.0.0 == b.0.0) (eq_by_cmp key_cmp a.1 b.1) (sym (one-by-parts a b) ∙ h) in
    let moment = numbers-same a.0.0 b.0.0 parts.0 in
    let key = same_key a.1 b.1 parts.1 in
    λ i. (record { 0 = moment i }, key i)

keys-either-way : (a b : Key) → eq_by_cmp key_cmp a b ≡ eq_by_cmp key_cmp b a
keys-either-way a b = (eq_by_cmp_equiv keys_total).symm a b

-- ---- membership
or-swapped : (a b c : Bool) → (a || (b || c)) ≡ (b || (a || c))
or-swapped true true c = refl
or-swapped true false c = refl
or-swapped false b c = refl

with-cased : (f : Ticks × Key → Bool) (b : Bool) (added e : Ticks × Key) (es with : Expiries)
    → list_any f with ≡ (f added || list_any f es)
    → list_any f (cond b (added ∷ e ∷ es) (e ∷ with)) ≡ (f added || (f e || list_any f es))
with-cased f true added e es with is = refl
with-cased f false added e es with is = ap (λ t. f e || t) is ∙ or-swapped (f e) (f added) (list_any f es)

among-with : (added q : Ticks × Key) (es : Expiries)
    → is_among q (expiries_with added es) ≡ (eq_by_cmp expiry_cmp q added || is_among q es)
among-with added q [] = refl
among-with added q (e ∷ es) = with-cased (eq_by_cmp expiry_cmp q) (is_lt (expiry_cmp added e)) added e es
    (expiries_with added es) (among-with added q es)

any-chosen : (f : Ticks × Key → Bool) (b : Bool) (e : Ticks × Key) (es : Expiries)
    → list_any f (cond b (e ∷ es) es) ≡ ((b && f e) || list_any f es)
any-chosen f true e es = refl
any-chosen f false e es = refl

chosen-bools : (b t p rest : Bool) → (t ≡ true → p ≡ b) → ((b && t) || (p && rest)) ≡ (p && (t || rest))
chosen-bools true true true rest h = refl
chosen-bools true true false rest h = clash (sym (h refl))
chosen-bools false true true rest h = clash (h refl)
chosen-bools false true false rest h = refl
chosen-bools true false p rest h = refl
chosen-bools false false p rest h = refl

among-filter : (p : Ticks × Key → Bool) (q : Ticks × Key) (es : Expiries)
    → is_among q (filter p es) ≡ (p q && is_among q es)
among-filter p q [] = sym (and-false (p q))
among-filter p q (e ∷ es) = any-chosen (eq_by_cmp expiry_cmp q) (p e) e (filter p es)
    ∙ ap (λ t. (p e && eq_by_cmp expiry_cmp q e) || t) (among-filter p q es)
    ∙ chosen-bools (p e) (eq_by_cmp expiry_cmp q e) (p q) (is_among q es) (λ same. ap p (expiries-exact q e same))

-- ---- they rise
all-with : (P : Ticks × Key → Type 0) (added : Ticks × Key) (es : Expiries) → P added → AllByRecursion P es
    → AllByRecursion P (expiries_with added es)
all-with P added [] first all = (first, tt)
all-with P added (e ∷ es) first all =
    cased (is_lt (expiry_cmp added e)) (expiries_with added es) (all-with P added es first all.1)
  where
    cased : (b : Bool) (with : Expiries) → AllByRecursion P with
        → AllByRecursion P (cond b (added ∷ e ∷ es) (e ∷ with))
    cased true with rest = (first, all)
    cased false with rest = (all.0, rest)

all-behind : (low e : Ticks × Key) (es : Expiries) → expiry_cmp low e ≡ Less
    → AllByRecursion (λ y. expiry_cmp e y ≡ Less) es → AllByRecursion (λ y. expiry_cmp low y ≡ Less) es
all-behind low e [] less all = tt
all-behind low e (next ∷ es) less all =
    (expiries_total.trans low e next less all.0, all-behind low e es less all.1)

rise-with : (added : Ticks × Key) (es : Expiries) → IsStrictlySortedBy expiry_cmp es → is_among added es ≡ false
    → IsStrictlySortedBy expiry_cmp (expiries_with added es)
unfolding IsStrictlySortedBy
rise-with added [] rise new = (tt, tt)
rise-with added (e ∷ es) rise new =
    cased (expiry_cmp added e) refl new (λ none. rise-with added es rise.1 none)
  where
    cased : (o : Ordering) → expiry_cmp added e ≡ o → (is_eq o || is_among added es) ≡ false
        → (is_among added es ≡ false → IsStrictlySortedBy expiry_cmp (expiries_with added es))
        → IsStrictlySortedBy expiry_cmp (cond (is_lt o) (added ∷ e ∷ es) (e ∷ expiries_with added es))
    cased Less is none rest = ((is, all-behind added e es is rise.0), rise)
    cased Equal is none rest = clash none
    cased Greater is none rest = (
      all-with (λ y. expiry_cmp e y ≡ Less) added es
          (expiries_total.antisymm e added ∙ ap ordering_reverse is) rise.0,
      rest none,
    )

-- ---- an exchange
others-bools : (t r : Bool) → (not t && r) ≡ cond t false r
others-bools true r = refl
others-bools false r = refl

exchanged-bools : (m t r : Bool) → ((m && t) || (not t && r)) ≡ cond t m r
exchanged-bools true true r = refl
exchanged-bools true false r = refl
exchanged-bools false true r = refl
exchanged-bools false false r = refl

or-right : (b c : Bool) → c ≡ true → (b || c) ≡ true
or-right true c h = refl
or-right false c h = h

abbrev expiries_of_others : Key → Expiries → Expiries
expiries_of_others key es = filter (λ expiry. not (eq_by_cmp key_cmp key expiry.1)) es

others-chosen : (b : Bool) (e : Ticks × Key) (es rest : Expiries) → b ≡ false → rest ≡ es
    → cond (not b) (e ∷ rest) rest ≡ e ∷ es
others-chosen true e es rest other is = clash other
others-chosen false e es rest other is = ap (λ t. e ∷ t) is

-- without one of the key all are of others
all-of-others : (key : Key) (es : Expiries)
    → ((e : Ticks × Key) → is_among e es ≡ true → eq_by_cmp key_cmp key e.1 ≡ false)
    → expiries_of_others key es ≡ es
all-of-others key [] other = refl
all-of-others key (e ∷ es) other =
    others-chosen (eq_by_cmp key_cmp key e.1) e es (expiries_of_others key es)
    (other e (ap (λ o. is_eq o || is_among e es) (tied_itself expiries_total e)))
    (all-of-others key es (λ q among. other q (or-right (eq_by_cmp expiry_cmp q e) (is_among q es) among)))

behind-not-among : (first : Ticks × Key) (es : Expiries) → AllByRecursion (λ y. expiry_cmp first y ≡ Less) es
    → is_among first es ≡ false
behind-not-among first [] all = refl
behind-not-among first (e ∷ es) all =
    ap (λ o. is_eq o || is_among first es) all.0 ∙ behind-not-among first es all.1

not-same : (b : Bool) → (b ≡ true → ⊥) → b ≡ false
not-same true h = absurd (h refl)
not-same false h = refl

-- behind one of the key there is none of it
others-behind : (key : Key) (e q : Ticks × Key) (es : Expiries) → eq_by_cmp key_cmp key e.1 ≡ true
    → AllByRecursion (λ y. expiry_cmp e y ≡ Less) es → AreOfKeysOnce (e ∷ es) → is_among q es ≡ true
    → eq_by_cmp key_cmp key q.1 ≡ false
others-behind key e q es here all once among = not-same (eq_by_cmp key_cmp key q.1) (λ same.
    let keys-are : q.1 ≡ e.1 = sym (same_key key q.1 same) ∙ same_key key e.1 here in
    let twice : is_among (q.0, e.1) es ≡ true = subst (λ (k : Key). is_among (q.0, k) es ≡ true) keys-are among in
    let moments : e.0.0 ≡ q.0.0 = once e.0 q.0 e.1 (ap (λ o. is_eq o || is_among e es) (tied_itself expiries_total e))
    (or-right (eq_by_cmp expiry_cmp (q.0, e.1) e) (is_among (q.0, e.1) es) twice) in
    clash (sym (subst (λ (n : ℕ). is_among (record { 0 = n }, e.1) es ≡ true) (sym moments) twice)
    ∙ behind-not-among e es all))

without-cased_others : (key : Key) (e : Ticks × Key) (es : Expiries) (b : Bool) → eq_by_cmp key_cmp key e.1 ≡ b
    → (eq_by_cmp key_cmp key e.1 ≡ true → expiries_of_others key es ≡ es)
    → expiries_without key es ≡ expiries_of_others key es
    → cond b es (e ∷ expiries_without key es) ≡ cond (not b) (e ∷ expiries_of_others key es) (expiries_of_others key es)
without-cased_others key e es true here none rest = sym (none here)
without-cased_others key e es false here none rest = ap (λ t. e ∷ t) rest

-- where each key is there once, those without the first of a key are those of others
without-is_others : (key : Key) (es : Expiries) → IsStrictlySortedBy expiry_cmp es → AreOfKeysOnce es
    → expiries_without key es ≡ expiries_of_others key es
unfolding IsStrictlySortedBy
without-is_others key [] rise once = refl
without-is_others key (e ∷ es) rise once =
    without-cased_others key e es (eq_by_cmp key_cmp key e.1) refl
    (λ here. all-of-others key es (λ q among. others-behind key e q es here rise.0 once among))
    (without-is_others key es rise.1 (λ at later k a b. once at later k
    (or-right (eq_by_cmp expiry_cmp (at, k) e) (is_among (at, k) es) a)
    (or-right (eq_by_cmp expiry_cmp (later, k) e) (is_among (later, k) es) b)))

among-others : (key : Key) (at : Ticks) (other : Key) (es : Expiries)
    → is_among (at, other) (expiries_of_others key es) ≡ (not (eq_by_cmp key_cmp other key) && is_among (at, other) es)
among-others key at other es = among-filter (λ expiry. not (eq_by_cmp key_cmp key expiry.1)) (at, other) es
    ∙ ap (λ t. not t && is_among (at, other) es) (keys-either-way key other)

rise-others : (key : Key) (es : Expiries) → IsStrictlySortedBy expiry_cmp es
    → IsStrictlySortedBy expiry_cmp (expiries_of_others key es)
rise-others key es rise =
    IsStrictlySortedBy-filter expiry_cmp (λ expiry. not (eq_by_cmp key_cmp key expiry.1)) es rise

pub forgotten : (key : Key) (before after : Expiries) → IsStrictlySortedBy expiry_cmp before → AreOfKeysOnce before
    → after ≡ expiries_without key before → IsExchanged key None before after
forgotten key before after rise once is = subst (IsExchanged key None before)
    (sym (is ∙ without-is_others key before rise once)) (record {
      rise = rise-others key before rise;
      are = λ at other. among-others key at other before
          ∙ others-bools (eq_by_cmp key_cmp other key) (is_among (at, other) before);
    })

new-of-others : (key : Key) (at : Ticks) (es : Expiries) → is_among (at, key) (expiries_of_others key es) ≡ false
new-of-others key at es = among-others key at key es
    ∙ ap (λ o. not (is_eq o) && is_among (at, key) es) (tied_itself keys_total key)

pub exchanged : (key : Key) (expiry : Ticks) (before others after : Expiries) → IsStrictlySortedBy expiry_cmp before
    → AreOfKeysOnce before → others ≡ expiries_without key before → after ≡ expiries_with (expiry, key) others
    → IsExchanged key (Some expiry) before after
exchanged key expiry before others after rise once left is =
    subst (IsExchanged key (Some expiry) before)
    (sym (is ∙ ap (expiries_with (expiry, key)) (left ∙ without-is_others key before rise once))) (record {
      rise = rise-with (expiry, key) (expiries_of_others key before) (rise-others key before rise)
          (new-of-others key expiry before);
      are = λ at other. among-with (expiry, key) (at, other) (expiries_of_others key before)
          ∙ ap (λ t. t || is_among (at, other) (expiries_of_others key before))
          (one-by-parts (at, other) (expiry, key))
          ∙ ap (λ t. ((at.0 == expiry.0) && eq_by_cmp key_cmp other key) || t) (among-others key at other before)
          ∙ exchanged-bools (at.0 == expiry.0) (eq_by_cmp key_cmp other key) (is_among (at, other) before);
    })

-- ---- each change of the entries
two-expiries : (at later : Ticks) (expiry : Option Ticks) → is_expiry at expiry ≡ true → is_expiry later expiry ≡ true
    → at.0 ≡ later.0
two-expiries at later None a b = clash (sym a)
two-expiries at later (Some expiry) a b =
    numbers-same at.0 expiry.0 a ∙ sym (numbers-same later.0 expiry.0 b)

two-found : (at later : Ticks) (o : Option KeyEntry) → expires_at at o ≡ true → expires_at later o ≡ true
    → at.0 ≡ later.0
two-found at later None a b = clash (sym a)
two-found at later (Some stored) a b = two-expiries at later stored.expiry a b

-- a key expires but once
pub each-once : (pairs : Pairs) (es : Expiries) → AreExpiriesOf pairs es → AreOfKeysOnce es
each-once pairs es exact at later key a b =
    two-found at later (find key_cmp key pairs) (sym (exact.are at key) ∙ a) (sym (exact.are later key) ∙ b)

put-cased : (at : Ticks) (b r : Bool) (stored : KeyEntry) (o : Option KeyEntry) → r ≡ expires_at at o
    → cond b (is_expiry at stored.expiry) r ≡ expires_at at (cond b (Some stored) o)
put-cased at true r stored o is = refl
put-cased at false r stored o is = is

pub expiries-put : (key : Key) (stored : KeyEntry) (pairs after-pairs : Pairs) (before after : Expiries)
    → AreExpiriesOf pairs before → IsExchanged key stored.expiry before after
    → after-pairs ≡ put key_cmp key stored pairs → AreExpiriesOf after-pairs after
expiries-put key stored pairs after-pairs before after exact ex is =
    subst (λ (t : Pairs). AreExpiriesOf t after) (sym is) (record {
      rise = ex.rise;
      are = λ at other. ex.are at other
          ∙ put-cased at (eq_by_cmp key_cmp other key) (is_among (at, other) before) stored
          (find key_cmp other pairs) (exact.are at other)
          ∙ ap (expires_at at) (sym (find_put other key stored pairs));
    })

without-cased : (at : Ticks) (b r : Bool) (o : Option KeyEntry) → r ≡ expires_at at o
    → cond b false r ≡ expires_at at (cond (not b) o None)
without-cased at true r o is = refl
without-cased at false r o is = is

pub expiries-without : (key : Key) (pairs after-pairs : Pairs) (before after : Expiries)
    → AreExpiriesOf pairs before → IsExchanged key None before after → after-pairs ≡ without key pairs
    → AreExpiriesOf after-pairs after
expiries-without key pairs after-pairs before after exact ex is =
    subst (λ (t : Pairs). AreExpiriesOf t after) (sym is) (record {
      rise = ex.rise;
      are = λ at other. ex.are at other
          ∙ without-cased at (eq_by_cmp key_cmp other key) (is_among (at, other) before) (find key_cmp other pairs)
          (exact.are at other)
          ∙ ap (λ t. expires_at at (cond (not t) (find key_cmp other pairs) None)) (keys-either-way other key)
          ∙ ap (expires_at at) (sym (find_without other key pairs));
    })

expires-chosen : (at : Ticks) (b : Bool) (stored : KeyEntry)
    → expires_at at (cond b (Some stored) None) ≡ (b && is_expiry at stored.expiry)
expires-chosen at true stored = refl
expires-chosen at false stored = refl

same-moment : (now : ℕ) (at expiry : ℕ) (b : Bool) → (at == expiry) ≡ b
    → (nat_lt now at && b) ≡ (nat_lt now expiry && b)
same-moment now at expiry true is = ap (λ (n : ℕ). nat_lt now n && true) (numbers-same at expiry is)
same-moment now at expiry false is = and-false (nat_lt now at) ∙ sym (and-false (nat_lt now expiry))

present-by : (now : ℕ) (at : Ticks) (expiry : Option Ticks)
    → (nat_lt now at.0 && is_expiry at expiry) ≡ (is_present now expiry && is_expiry at expiry)
present-by now at None = and-false (nat_lt now at.0)
present-by now at (Some expiry) = same-moment now at.0 expiry.0 (at.0 == expiry.0) refl

present-cased : (now : ℕ) (at : Ticks) (o : Option KeyEntry)
    → (nat_lt now at.0 && expires_at at o) ≡ expires_at at (present now o)
present-cased now at None = and-false (nat_lt now at.0)
present-cased now at (Some stored) =
    present-by now at stored.expiry ∙ sym (expires-chosen at (is_present now stored.expiry) stored)

pub expiries-present : (now : ℕ) (pairs after-pairs : Pairs) (before after : Expiries)
    → IsTrue (is_sorted key_cmp pairs) → AreExpiriesOf pairs before → after-pairs ≡ present_pairs now pairs
    → after ≡ filter (λ expiry. nat_lt now expiry.0.0) before → AreExpiriesOf after-pairs after
expiries-present now pairs after-pairs before after order exact is left =
    subst (λ (t : Pairs). AreExpiriesOf t after) (sym is)
    (subst (λ (t : Expiries). AreExpiriesOf (present_pairs now pairs) t) (sym left) (record {
      rise = IsStrictlySortedBy-filter expiry_cmp (λ expiry. nat_lt now expiry.0.0) before exact.rise;
      are = λ at key. among-filter (λ expiry. nat_lt now expiry.0.0) (at, key) before
          ∙ ap (λ t. nat_lt now at.0 && t) (exact.are at key)
          ∙ present-cased now at (find key_cmp key pairs)
          ∙ ap (expires_at at) (sym (find_present now key pairs order));
    }))

lasting-cased : (at : Ticks) (b : Bool) (stored : KeyEntry) → stored.expiry ≡ None
    → false ≡ expires_at at (cond b (Some stored) None)
lasting-cased at true stored is = sym (ap (is_expiry at) is)
lasting-cased at false stored is = refl

-- of one pair without a lease none
expiries-first : (key : Key) (stored : KeyEntry) → stored.expiry ≡ None
    → AreExpiriesOf ((key, stored) ∷ []) []
unfolding IsStrictlySortedBy
expiries-first key stored is = record {
  rise = tt;
  are = λ at other. lasting-cased at (eq_by_cmp key_cmp other key) stored is;
}

pub expiries-of_one : (key : Key) (stored : KeyEntry) (pairs : Pairs) (es : Expiries) → stored.expiry ≡ None
    → pairs ≡ (key, stored) ∷ [] → es ≡ [] → AreExpiriesOf pairs es
expiries-of_one key stored pairs es lasts is none = subst (λ (t : Pairs). AreExpiriesOf t es) (sym is)
    (subst (λ (t : Expiries). AreExpiriesOf ((key, stored) ∷ []) t) (sym none) (expiries-first key stored lasts))

-- ---- which keys are absent
abbrev gone : ℕ → Pairs → Pairs
gone now pairs = filter (λ pair. not (is_present now pair.1.expiry)) pairs

abbrev keys_of_pairs : Pairs → List Key
keys_of_pairs pairs = map (λ pair. pair.0) pairs

-- the absent keys of these pairs behind one that is present or absent
abbrev keys_behind : ℕ → Key × KeyEntry → Pairs → Bool → List Key
keys_behind now pair pairs is = keys_of_pairs (cond (not is) (pair ∷ gone now pairs) (gone now pairs))

key-none : {X : Type 0} (key : Key) (keys : List Key) → key ∷ keys ≡ [] → X
key-none key keys e = absurd (no-key e)
  where
    no-key : key ∷ keys ≡ [] → ⊥
    no-key e = cc

-- one that is present is none of the absent ones
past-present : (now : ℕ) (pair : Key × KeyEntry) (pairs : Pairs) → is_present now pair.1.expiry ≡ true
    → absent_keys now (pair ∷ pairs) ≡ absent_keys now pairs
past-present now pair pairs is = ap (keys_behind now pair pairs) is

-- one that is absent is among them
some-absent : (now : ℕ) (pair : Key × KeyEntry) (pairs : Pairs) → is_present now pair.1.expiry ≡ false
    → absent_keys now (pair ∷ pairs) ≢ []
some-absent now pair pairs is none =
    key-none pair.0 (keys_of_pairs (gone now pairs)) (sym (ap (keys_behind now pair pairs) is) ∙ none)

kept-cased : (now : ℕ) (pair : Key × KeyEntry) (pairs : Pairs) (b : Bool) → keys_behind now pair pairs b ≡ []
    → (absent_keys now pairs ≡ [] → present_pairs now pairs ≡ pairs)
    → cond b (pair ∷ present_pairs now pairs) (present_pairs now pairs) ≡ pair ∷ pairs
kept-cased now pair pairs true none more = ap (λ (es : Pairs). pair ∷ es) (more none)
kept-cased now pair pairs false none more = key-none pair.0 (keys_of_pairs (gone now pairs)) none

-- where none is absent all are present
all-kept : (now : ℕ) (pairs : Pairs) → absent_keys now pairs ≡ [] → present_pairs now pairs ≡ pairs
all-kept now [] none = refl
all-kept now (pair ∷ pairs) none = kept-cased now pair pairs (is_present now pair.1.expiry) none (all-kept now pairs)

absent-cased : (now : ℕ) (pair : Key × KeyEntry) (pairs : Pairs) (stored : KeyEntry) (o : Option KeyEntry) (b p : Bool)
    → is_present now pair.1.expiry ≡ p → cond b (Some pair.1) o ≡ Some stored → is_present now stored.expiry ≡ false
    → (o ≡ Some stored → absent_keys now pairs ≢ []) → absent_keys now (pair ∷ pairs) ≢ []
absent-cased now pair pairs stored o b false here is out more = some-absent now pair pairs here
absent-cased now pair pairs stored o false true here is out more =
    λ none. more is (sym (past-present now pair pairs here) ∙ none)
absent-cased now pair pairs stored o true true here is out more =
    clash (sym here ∙ ap (λ (e : KeyEntry). is_present now e.expiry) (same_Some pair.1 stored is) ∙ out)

-- a key that is found and has ended is among the absent ones
absent-found : (now : ℕ) (key : Key) (stored : KeyEntry) (pairs : Pairs) → find key_cmp key pairs ≡ Some stored
    → is_present now stored.expiry ≡ false → absent_keys now pairs ≢ []
absent-found now key stored [] is out = none-some stored is
absent-found now key stored (pair ∷ pairs) is out =
    absent-cased now pair pairs stored (find key_cmp key pairs) (eq_by_cmp key_cmp key pair.0)
    (is_present now pair.1.expiry) refl is out (λ found. absent-found now key stored pairs found out)

found-tail : (key : Key) (pair : Key × KeyEntry) (pairs : Pairs) (stored : KeyEntry) (b : Bool)
    → eq_by_cmp key_cmp key pair.0 ≡ b → IsTrue (below_all key_cmp pair.0 pairs)
    → find key_cmp key pairs ≡ Some stored → cond b (Some pair.1) (find key_cmp key pairs) ≡ Some stored
found-tail key pair pairs stored true same below is =
    none-some stored
    (sym (ap (λ k. find key_cmp k pairs) (same_key key pair.0 same) ∙ find-below pair.0 pairs below) ∙ is)
found-tail key pair pairs stored false other below is = is

found-head : (pair : Key × KeyEntry) (pairs : Pairs) → find key_cmp pair.0 (pair ∷ pairs) ≡ Some pair.1
found-head pair pairs =
    ap (λ o. cond (is_eq o) (Some pair.1) (find key_cmp pair.0 pairs)) (tied_itself keys_total pair.0)

-- where each that is found is present none is absent
none-absent : (now : ℕ) (pairs : Pairs) → IsTrue (is_sorted key_cmp pairs)
    → ((key : Key) (stored : KeyEntry) → find key_cmp key pairs ≡ Some stored → is_present now stored.expiry ≡ true)
    → absent_keys now pairs ≡ []
none-absent now [] order each = refl
none-absent now (pair ∷ pairs) order each =
    let parts = and_parts (below_all key_cmp pair.0 pairs) (is_sorted key_cmp pairs) order in
    past-present now pair pairs (each pair.0 pair.1 (found-head pair pairs))
    ∙ none-absent now pairs parts.1 (λ key stored is. each key stored
    (found-tail key pair pairs stored (eq_by_cmp key_cmp key pair.0) refl parts.0 is))

-- ---- the front
ranks : (p o : Ordering) → ordering_then p o ≡ Less → (is_lt p || is_eq p) ≡ true
ranks Less o h = refl
ranks Equal o h = refl
ranks Greater o h = absurd (no-way h)
  where
    no-way : Greater ≡ Less → ⊥
    no-way e = cc

at-most : (m n : ℕ) → (is_lt (nat_cmp m n) || is_eq (nat_cmp m n)) ≡ true → m ≤ n
at-most m n h = grind (arith, nat_tests)

behind-no-earlier : (a b : Ticks × Key) → expiry_cmp a b ≡ Less → a.0.0 ≤ b.0.0
behind-no-earlier a b h = at-most a.0.0 b.0.0 (ranks (nat_cmp a.0.0 b.0.0) (key_cmp a.1 b.1) h)

all-no-earlier : (first q : Ticks × Key) (es : Expiries) → AllByRecursion (λ y. expiry_cmp first y ≡ Less) es
    → is_among q es ≡ true → first.0.0 ≤ q.0.0
all-no-earlier first q [] all among = clash (sym among)
all-no-earlier first q (e ∷ es) all among =
    cased (eq_by_cmp expiry_cmp q e) refl among (λ more. all-no-earlier first q es all.1 more)
  where
    cased : (b : Bool) → eq_by_cmp expiry_cmp q e ≡ b → (b || is_among q es) ≡ true
        → (is_among q es ≡ true → first.0.0 ≤ q.0.0) → first.0.0 ≤ q.0.0
    cased true same h rest =
        subst (λ (t : Ticks × Key). first.0.0 ≤ t.0.0) (sym (expiries-exact q e same))
        (behind-no-earlier first e all.0)
    cased false other h rest = rest h

front-least : (first q : Ticks × Key) (es : Expiries) → IsStrictlySortedBy expiry_cmp (first ∷ es)
    → is_among q (first ∷ es) ≡ true → first.0.0 ≤ q.0.0
unfolding IsStrictlySortedBy
front-least first q es rise among = cased (eq_by_cmp expiry_cmp q first) refl among
  where
    cased : (b : Bool) → eq_by_cmp expiry_cmp q first ≡ b → (b || is_among q es) ≡ true → first.0.0 ≤ q.0.0
    cased true same h =
        subst (λ (t : Ticks × Key). first.0.0 ≤ t.0.0) (sym (expiries-exact q first same)) (omega arith)
    cased false other h = all-no-earlier first q es rise.0 h

still-to-come : (now first at : ℕ) → not (nat_lt now first) ≡ false → first ≤ at → nat_lt now at ≡ true
still-to-come now first at h le = grind (arith, nat_tests)

to-come : (now : ℕ) (q : Ticks × Key) (es : Expiries) → IsStrictlySortedBy expiry_cmp es → has_come now es ≡ false
    → is_among q es ≡ true → nat_lt now q.0.0 ≡ true
to-come now q [] rise none among = clash (sym among)
to-come now q (first ∷ es) rise none among =
    still-to-come now first.0.0 q.0.0 none (front-least first q es rise among)

self-expiry : (n : ℕ) → (n == n) ≡ true
self-expiry n = grind (arith, nat_tests)

present-where : (now : ℕ) (pairs : Pairs) (es : Expiries) (key : Key) (stored : KeyEntry) (expiry : Option Ticks)
    → AreExpiriesOf pairs es → has_come now es ≡ false → find key_cmp key pairs ≡ Some stored
    → stored.expiry ≡ expiry → is_present now expiry ≡ true
present-where now pairs es key stored None exact none found is = refl
present-where now pairs es key stored (Some expiry) exact none found is =
    to-come now (expiry, key) es exact.rise none
    (exact.are expiry key ∙ ap (expires_at expiry) found ∙ ap (is_expiry expiry) is ∙ self-expiry expiry.0)

-- where the first hasn't come none is absent
pub none-come : (now : ℕ) (pairs : Pairs) (es : Expiries) → IsTrue (is_sorted key_cmp pairs) → AreExpiriesOf pairs es
    → has_come now es ≡ false → absent_keys now pairs ≡ []
none-come now pairs es order exact none =
    none-absent now pairs order
    (λ key stored found. present-where now pairs es key stored stored.expiry exact none found refl)

-- where the first hasn't come all are present
pub all-present : (now : ℕ) (pairs : Pairs) (es : Expiries) → IsTrue (is_sorted key_cmp pairs)
    → AreExpiriesOf pairs es → has_come now es ≡ false → present_pairs now pairs ≡ pairs
all-present now pairs es order exact none = all-kept now pairs (none-come now pairs es order exact none)

-- what is copied of all is copied of what is present, where nothing has ended
pub copies-kept : {Z : Type 0} (now : ℕ) (pairs : Pairs) (es : Expiries)
    (copies after : Option (Vec (Key × KeyEntry) Z))
    → IsTrue (is_sorted key_cmp pairs) → AreExpiriesOf pairs es → AreCopies pairs copies
    → after ≡ cond (has_come now es) None copies → AreCopies (present_pairs now pairs) after
copies-kept now pairs es copies after order exact are is =
    subst (λ t. AreCopies (present_pairs now pairs) t) (sym is) (cased (has_come now es) refl)
  where
    cased : (b : Bool) → has_come now es ≡ b → AreCopies (present_pairs now pairs) (cond b None copies)
    cased true come = tt
    cased false none =
        subst (λ (t : Pairs). AreCopies t copies) (sym (all-present now pairs es order exact none)) are

-- ---- when the first comes
chosen-before : (now : ℕ) (most first : Ticks) (b : Bool) → nat_lt first.0 most.0 ≡ b → now < (cond b first most).0
    → not (nat_lt now first.0) ≡ false
chosen-before now most first true is h = before now first.0 h
  where
    before : (m n : ℕ) → m < n → not (nat_lt m n) ≡ false
    before m n h = grind (arith, nat_tests)
chosen-before now most first false is h = before now first.0 most.0 is h
  where
    before : (m n k : ℕ) → nat_lt n k ≡ false → m < k → not (nat_lt m n) ≡ false
    before m n k late h = grind (arith, nat_tests)

before-first : (now : ℕ) (most : Ticks) (es : Expiries) → now < (first_of most es).0 → has_come now es ≡ false
before-first now most [] h = refl
before-first now most (first ∷ es) h = chosen-before now most first.0 (nat_lt first.0.0 most.0) refl h

pub none-before : (now : ℕ) (most at : Ticks) (pairs : Pairs) (es : Expiries) → IsTrue (is_sorted key_cmp pairs)
    → AreExpiriesOf pairs es → at ≡ first_of most es → now < at.0 → absent_keys now pairs ≡ []
none-before now most at pairs es order exact is h = none-come now pairs es order exact
    (before-first now most es (subst (λ (t : Ticks). now < t.0) is h))

ended-at : (at : Ticks) (expiry : Option Ticks) → is_expiry at expiry ≡ true → is_present at.0 expiry ≡ false
ended-at at None is = clash (sym is)
ended-at at (Some expiry) is = past at.0 expiry.0 is
  where
    past : (m n : ℕ) → (m == n) ≡ true → nat_lt m n ≡ false
    past m n h = grind (arith, nat_tests)

absent-at : (at : Ticks) (key : Key) (pairs : Pairs) (o : Option KeyEntry) → find key_cmp key pairs ≡ o
    → expires_at at o ≡ true → absent_keys at.0 pairs ≢ []
absent-at at key pairs None found is = clash (sym is)
absent-at at key pairs (Some stored) found is =
    absent-found at.0 key stored pairs found (ended-at at stored.expiry is)

never-less : {X : Type 0} (n : ℕ) → n < n → X
never-less n h = absurd (no-way n h)
  where
    no-way : (n : ℕ) → n < n → ⊥
    no-way n h = omega (arith, h)

among-front : (first : Ticks × Key) (es : Expiries) → is_among first (first ∷ es) ≡ true
among-front first es = ap (λ o. is_eq o || is_among first es) (tied_itself expiries_total first)

chosen-least : (most first : Ticks) (b : Bool) (P : Ticks → Type 0) → P first → (cond b first most).0 < most.0
    → P (cond b first most)
chosen-least most first true P is h = is
chosen-least most first false P is h = never-less most.0 h

least-of : (most : Ticks) (pairs : Pairs) (es : Expiries) → AreExpiriesOf pairs es → (first_of most es).0 < most.0
    → absent_keys (first_of most es).0 pairs ≢ []
least-of most pairs [] exact h = never-less most.0 h
least-of most pairs (first ∷ es) exact h =
    chosen-least most first.0 (nat_lt first.0.0 most.0) (λ t. absent_keys t.0 pairs ≢ [])
    (absent-at first.0 first.1 pairs (find key_cmp first.1 pairs) refl
    (sym (exact.are first.0 first.1) ∙ among-front first es)) h

pub some-at : (most at : Ticks) (pairs : Pairs) (es : Expiries) → AreExpiriesOf pairs es → at ≡ first_of most es
    → at.0 < most.0 → absent_keys at.0 pairs ≢ []
some-at most at pairs es exact is h = subst (λ (t : Ticks). absent_keys t.0 pairs ≢ []) (sym is)
    (least-of most pairs es exact (subst (λ (t : Ticks). t.0 < most.0) is h))
