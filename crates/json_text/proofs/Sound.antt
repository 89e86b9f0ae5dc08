-- Numbers that are read are in range, and members stand in order.
use Rattle.std.proofs.Common.{◌≡◌, ℕ, zero, suc, ◌^◌, ◌≤◌, ◌<◌, pos, negsuc, Bool, true, false, cond, ◌&&◌, ◌==◌, nat_lt, nat_le, List, drop, get_or, Option, Some, None, IsUtf8, Ordering, Less, Equal, Greater, nat_cmp, refl, sym, ap, ◌∙◌, subst, arith}
use Rattle.std.proofs.lemmas.Bool.{ltb-true, leb-true, and_parts}
use Rattle.std.proofs.lemmas.Cmp.{nat_list_cmp_total}
use Rattle.std.specs.Prelude.{⊤}
use Rattle.std.specs.Cmp.Lexicographic.{slice_cmp}
use Rattle.std.specs.Ordering.{match_ordering, ordering_reverse}
use Rattle.fast_float.specs.Text.{Parts, scan, digits_of, with_sign}
use Rattle.serde_json.specs.Data.{Num, unsigned, negative, float, Data, null, boolean, number, string, array, object, Items, no_items, item, Members, no_members, member, put}
use Rattle.serde_json.specs.Read.{is_integer, float_of, number_of}

-- a number that is read, or written as what it is
abbrev pub IsInRange : Num → Type 0
IsInRange (unsigned n) = n < 2 ^ 64
IsInRange (negative (pos n)) = ⊥
IsInRange (negative (negsuc n)) = n < 2 ^ 63
IsInRange (float x) = ⊤

-- a name comes before all of these
abbrev pub IsBefore : List ℕ → Members → Type 0
IsBefore k no_members = ⊤
IsBefore k (member l d ms) = (slice_cmp nat_cmp k l ≡ Less) × IsBefore k ms

abbrev pub AreSorted : Members → Type 0
AreSorted no_members = ⊤
AreSorted (member k d ms) = IsBefore k ms × AreSorted ms

-- a value that is read: its texts are UTF-8, its numbers in range, and its members in order
abbrev mutual
  pub IsSound : Data → Type 0
  IsSound null = ⊤
  IsSound (boolean b) = ⊤
  IsSound (number n) = IsInRange n
  IsSound (string s) = IsUtf8 s
  IsSound (array ds) = AreSound ds
  IsSound (object ms) = MembersAreSound ms × AreSorted ms

  pub AreSound : Items → Type 0
  AreSound no_items = ⊤
  AreSound (item d ds) = IsSound d × AreSound ds

  pub MembersAreSound : Members → Type 0
  MembersAreSound no_members = ⊤
  MembersAreSound (member k d ms) = IsUtf8 k × IsSound d × MembersAreSound ms

-- ---- numbers

abbrev pub IfInRange : Option Num → Type 0
IfInRange None = ⊤
IfInRange (Some n) = IsInRange n

chosen : (t : Bool) (x y : Option Num) → (t ≡ true → IfInRange x) → (t ≡ false → IfInRange y) → IfInRange (cond t x y)
chosen true x y f g = f refl
chosen false x y f g = g refl

no-float : (below_zero : Bool) (p : Parts) → IfInRange (float_of below_zero p)
no-float below_zero p = chosen _ (Some _) None (λ _. tt) (λ _. tt)

signed : (n : ℕ) → 0 < n → n ≤ 2 ^ 63 → IsInRange (negative (with_sign true n))
signed zero some most = absurd (omega arith)
signed (suc n) some most = omega arith

pub number-IfInRange : (s : List ℕ) → IfInRange (number_of s)
unfolding number_of
number-IfInRange s =
    chosen (get_or s 0 0 == 45) _ _
    (λ _.
    let p = scan (drop 1 s) in
    chosen (is_integer p && nat_lt 0 (digits_of p) && nat_le (digits_of p) (2 ^ 63)) _ _
    (λ h.
    let a = and_parts (is_integer p && nat_lt 0 (digits_of p)) (nat_le (digits_of p) (2 ^ 63)) h in
    let b = and_parts (is_integer p) (nat_lt 0 (digits_of p)) a.0 in
    signed (digits_of p) (ltb-true 0 (digits_of p) b.1) (leb-true (digits_of p) (2 ^ 63) a.1))
    (λ _. no-float true p))
    (λ _.
    let p = scan s in
    chosen (is_integer p && nat_lt (digits_of p) (2 ^ 64)) _ _
    (λ h. let a = and_parts (is_integer p) (nat_lt (digits_of p) (2 ^ 64)) h in ltb-true (digits_of p) (2 ^ 64) a.1)
    (λ _. no-float false p))

-- ---- members, put one after another

before-trans : (j k : List ℕ) (ms : Members) → slice_cmp nat_cmp j k ≡ Less → IsBefore k ms → IsBefore j ms
before-trans j k no_members e h = tt
before-trans j k (member l d ms) e h = (nat_list_cmp_total.trans j k l e h.0, before-trans j k ms e h.1)

turned : (k l : List ℕ) → slice_cmp nat_cmp k l ≡ Greater → slice_cmp nat_cmp l k ≡ Less
turned k l e = nat_list_cmp_total.antisymm l k ∙ ap ordering_reverse e

one_of : (P : Members → Type 0) (o o' : Ordering) (a b c : Members) → o' ≡ o → (o ≡ Less → P a)
    → (o ≡ Equal → P b) → (o ≡ Greater → P c) → P (match_ordering o' a b c)
one_of P Less o' a b c e f g h = subst (λ (x : Ordering). P (match_ordering x a b c)) (sym e) (f refl)
one_of P Equal o' a b c e f g h = subst (λ (x : Ordering). P (match_ordering x a b c)) (sym e) (g refl)
one_of P Greater o' a b c e f g h = subst (λ (x : Ordering). P (match_ordering x a b c)) (sym e) (h refl)

put-IsBefore : (j k : List ℕ) (d : Data) (ms : Members) → slice_cmp nat_cmp j k ≡ Less → IsBefore j ms
    → IsBefore j (put k d ms)
put-IsBefore j k d no_members e h = (e, tt)
put-IsBefore j k d (member l f ms) e h =
    one_of (IsBefore j) (slice_cmp nat_cmp k l) (slice_cmp nat_cmp k l) (member k d (member l f ms))
    (member l d ms) (member l f (put k d ms)) refl
    (λ _. (e, h)) (λ _. h) (λ _. (h.0, put-IsBefore j k d ms e h.1))

pub put-AreSorted : (k : List ℕ) (d : Data) (ms : Members) → AreSorted ms → AreSorted (put k d ms)
put-AreSorted k d no_members h = (tt, tt)
put-AreSorted k d (member l f ms) h =
    one_of AreSorted (slice_cmp nat_cmp k l) (slice_cmp nat_cmp k l) (member k d (member l f ms))
    (member l d ms) (member l f (put k d ms)) refl
    (λ e. ((e, before-trans k l ms e h.0), h)) (λ _. h)
    (λ e. (put-IsBefore l k d ms (turned k l e) h.0, put-AreSorted k d ms h.1))

pub put-AreSound : (k : List ℕ) (d : Data) (ms : Members) → IsUtf8 k → IsSound d → MembersAreSound ms
    → MembersAreSound (put k d ms)
put-AreSound k d no_members u s h = (u, s, tt)
put-AreSound k d (member l f ms) u s h =
    one_of MembersAreSound (slice_cmp nat_cmp k l) (slice_cmp nat_cmp k l) (member k d (member l f ms))
    (member l d ms) (member l f (put k d ms)) refl
    (λ _. (u, s, h)) (λ _. (h.0, s, h.2)) (λ _. (h.0, h.1, put-AreSound k d ms u s h.2))
