-- Rows in the order of their names.
use Rattle.std.proofs.Common.{◌≡◌, ◌∙◌, ℕ, ◌+◌, ◌≤◌, ◌<◌, zero, suc, Bool, true, false, cond, nat_lt, List, [], ◌∷◌, Some, None, unwrap_or, length, take, drop, fold, get_or, count_by, All, IsSortedBy, refl, sym, ap, subst, arith}
use Rattle.std.specs.List.{insert, position, position_or_len}
use Rattle.std.proofs.lemmas.Bool.Decides.{nat_tests}
use Rattle.std.specs.Ordering.{is_lt, ordering_reverse}
use Rattle.std.proofs.lemmas.Cmp.{nat_list_cmp_total}
use Rattle.std.proofs.lemmas.List.Elements.{All-append, All-cons, All-drop, All-tail, All-take}
use Rattle.std.proofs.lemmas.List.Sums.{prefix_len-le-length, sum_by-cons, sum_by-insert}
use Rattle.pat_base.specs.Name.{name_bytes}
use Rattle.lease_store.proofs.Keeping.{less-from}
use Rattle.member_rows.specs.Rows.{is_before, placed}
use Rattle.member_rows.specs.declared.rows.Row.{Row}

or-else : (t : Bool) (k n : ℕ) → nat_lt k n ≡ t → k ≤ n → unwrap_or (cond t (Some k) None) n ≡ k
or-else true k n is fits = refl
or-else false k n is fits = grind (arith, nat_tests)

-- the first place that passes, and else that behind the last
pub position-or-length : {A : Type 0} (p : A → Bool) (xs : List A)
    → unwrap_or (position p xs) (length xs) ≡ position_or_len p xs
position-or-length p xs = or-else (nat_lt (position_or_len p xs) (length xs)) (position_or_len p xs)
    (length xs) refl (prefix_len-le-length _ xs)

placed-cons : (x r : Row) (rows : List Row) (test : Bool) → is_before x r ≡ test
    → placed (r ∷ rows) x ≡ cond test (x ∷ r ∷ rows) (r ∷ placed rows x)
placed-cons x r rows true is = rw is refl
placed-cons x r rows false is =
    let on : 1 + position_or_len (is_before x) rows ≡ suc (position_or_len (is_before x) rows) = omega arith in
    rw is (ap (λ n. insert (r ∷ rows) n x) on)

-- of two names one at most comes before the other
not-both : (x r : Row) → is_before x r ≡ true → is_before r x ≡ false
not-both x r is = ap is_lt
    (nat_list_cmp_total.antisymm (name_bytes r.name) (name_bytes x.name) ∙ ap ordering_reverse (less-from _ is))

-- no name comes before that of the row above
abbrev IsAbove : Row → List Row → Type 0
IsAbove r [] = Unit {0}
IsAbove r (next ∷ rows) = is_before next r ≡ false

abbrev AreInOrder : List Row → Type 0
AreInOrder [] = Unit {0}
AreInOrder (r ∷ rows) = IsAbove r rows × AreInOrder rows

above-by : (r x q : Row) (rows : List Row) (test : Bool) → is_before x r ≡ false → is_before q r ≡ false
    → IsAbove r (cond test (x ∷ q ∷ rows) (q ∷ placed rows x))
above-by r x q rows true later above = later
above-by r x q rows false later above = above

above-placed : (r x : Row) (rows : List Row) → IsAbove r rows → is_before x r ≡ false → IsAbove r (placed rows x)
above-placed r x [] above later = later
above-placed r x (q ∷ rows) above later =
    subst (IsAbove r) (sym (placed-cons x q rows (is_before x q) refl))
    (above-by r x q rows (is_before x q) later above)

order-by : (r x : Row) (rows : List Row) (test : Bool) → is_before x r ≡ test → AreInOrder (r ∷ rows)
    → AreInOrder (placed rows x) → AreInOrder (cond test (x ∷ r ∷ rows) (r ∷ placed rows x))
order-by r x rows true is order rest = (not-both x r is, order)
order-by r x rows false is order rest = (above-placed r x rows order.0 is, rest)

order-placed : (rows : List Row) (x : Row) → AreInOrder rows → AreInOrder (placed rows x)
order-placed [] x order = (tt, tt)
order-placed (r ∷ rows) x order =
    subst AreInOrder (sym (placed-cons x r rows (is_before x r) refl))
    (order-by r x rows (is_before x r) refl order (order-placed rows x order.1))

order-fold : (before rows : List Row) → AreInOrder before → AreInOrder (fold placed before rows)
order-fold before [] order = order
order-fold before (x ∷ rows) order = order-fold (placed before x) rows (order-placed before x order)

order-at : (rows : List Row) (k : ℕ) (d : Row) → suc k < length rows → AreInOrder rows
    → is_before (get_or rows (suc k) d) (get_or rows k d) ≡ false
order-at [] k d below order = absurd (omega arith)
order-at (r ∷ []) k d below order = absurd (omega arith)
order-at (r ∷ q ∷ rows) zero d below order = order.0
order-at (r ∷ q ∷ rows) (suc k) d below order = order-at (q ∷ rows) k d (omega arith) order.1

-- rows that were placed one after another are in order
pub sorted-by-name : (rows : List Row) → IsSortedBy is_before (fold placed [] rows)
sorted-by-name rows k d low below =
    let on : k + 1 ≡ suc k = omega arith in
    ap (λ n. is_before (get_or (fold placed [] rows) n d) (get_or (fold placed [] rows) k d)) on
    ∙ order-at (fold placed [] rows) k d (omega arith) (order-fold [] rows tt)

-- placing loses and doubles none
pub count-fold : (p : Row → Bool) (rows before : List Row)
    → count_by p (fold placed before rows) ≡ count_by p before + count_by p rows
count-fold p [] before = omega arith
count-fold p (x ∷ rows) before =
    count-fold p rows (placed before x)
    ∙ omega (
      arith,
      sum_by-insert (λ y. cond (p y) 1 0) before (position_or_len (is_before x) before) x,
      sum_by-cons (λ y. cond (p y) 1 0) x rows,
    )

-- what holds of each row holds of each that was placed
pub all-fold : (P : Row → Type 0) (before rows : List Row) → All P before → All P rows → All P (fold placed before rows)
all-fold P before [] here there = here
all-fold P before (x ∷ rows) here there = all-fold P (placed before x) rows here-placed (All-tail P x rows there)
  where
    n : ℕ
    n = position_or_len (is_before x) before

    here-placed : All P (placed before x)
    here-placed = All-append P (take n before) (x ∷ drop n before) (All-take P n before here)
        (All-cons P x (drop n before) (there 0 x (omega arith)) (All-drop P n before here))
