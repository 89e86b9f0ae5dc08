-- Prefixes of logs, and what two logs have in common.
use Rattle.std.proofs.Common.{◌≡◌, ℕ, ◌+◌, ◌-◌, ◌≤◌, ◌<◌, Bool, true, false, IsTrue, cond, List, [], ◌∷◌, ◌++◌, length, take, drop, get_or, refl, sym, ap, subst, ◌∙◌, arith, append_assoc, append-nil, ◌⊎◌, inl, inr}
use Rattle.std.specs.Bool.{Decides}
use Rattle.std.proofs.lemmas.Bool.Decides.{nat_tests}
use Rattle.std.proofs.lemmas.Slice.Eq.{starts_is}
use Rattle.std.proofs.lemmas.List.{drop_more, take_more, drop_all, take_rest}
use Rattle.std.proofs.lemmas.List.Sums.{sum_by-take-drop}
use Rattle.wal_model.specs.declared.entry.Entry.{Entry}
use Rattle.wal_model.specs.Log.{IsPrefixOf, is_same, is_prefix, common_of, end_of}

same-fields : (x y : Entry) → x.serial ≡ y.serial → x.timeline ≡ y.timeline → x.bytes ≡ y.bytes → x ≡ y
same-fields x y serials timelines lengths =
    ap (λ n. record { serial = n; timeline = x.timeline; bytes = x.bytes }) serials
    ∙ ap (λ n. record { serial = y.serial; timeline = n; bytes = x.bytes }) timelines
    ∙ ap (λ n. record { serial = y.serial; timeline = y.timeline; bytes = n }) lengths

same-entry : (x y : Entry) → is_same x y ≡ true → x ≡ y
same-entry x y e =
    let serials : x.serial ≡ y.serial = grind (arith, nat_tests) in
    let timelines : x.timeline ≡ y.timeline = grind (arith, nat_tests) in
    let lengths : x.bytes ≡ y.bytes = grind (arith, nat_tests) in
    same-fields x y serials timelines lengths

is_same-self : (x : Entry) → is_same x x ≡ true
is_same-self x = grind (arith, nat_tests)

pub is_same-Decides : (x y : Entry) → Decides (is_same x y) (x ≡ y)
is_same-Decides x y = (same-entry x y, λ e. subst (λ (z : Entry). is_same x z ≡ true) e (is_same-self x))

pub is_prefix-to : (x y : List Entry) → IsTrue (is_prefix x y) → IsPrefixOf x y
is_prefix-to x y h =
    record { rest = drop (length x) y; whole = (starts_is is_same-Decides y x (is_prefix x y) refl).0 h }

pub is_prefix-from : (x y : List Entry) → IsPrefixOf x y → IsTrue (is_prefix x y)
is_prefix-from x y p = (starts_is is_same-Decides y x (is_prefix x y) refl).1 p.rest p.whole

pub common-first : (x y : List Entry) → IsPrefixOf (common_of x y) x
common-first [] y = record { rest = []; whole = refl }
common-first (x ∷ xs) [] = record { rest = x ∷ xs; whole = refl }
common-first (x ∷ xs) (y ∷ ys) = by-test (is_same x y) (common-first xs ys)
  where
    by-test : (b : Bool) → IsPrefixOf (common_of xs ys) xs → IsPrefixOf (cond b (x ∷ common_of xs ys) []) (x ∷ xs)
    by-test true p = record { rest = p.rest; whole = ap (λ t. x ∷ t) p.whole }
    by-test false p = record { rest = x ∷ xs; whole = refl }

pub common-second : (x y : List Entry) → IsPrefixOf (common_of x y) y
common-second [] y = record { rest = y; whole = refl }
common-second (x ∷ xs) [] = record { rest = []; whole = refl }
common-second (x ∷ xs) (y ∷ ys) = by-test (is_same x y) refl (common-second xs ys)
  where
    by-test : (b : Bool) → is_same x y ≡ b → IsPrefixOf (common_of xs ys) ys
        → IsPrefixOf (cond b (x ∷ common_of xs ys) []) (y ∷ ys)
    by-test true e p = record {
      rest = p.rest;
      whole = ap (λ t. y ∷ t) p.whole ∙ ap (λ z. z ∷ (common_of xs ys ++ p.rest)) (sym (same-entry x y e));
    }
    by-test false e p = record { rest = y ∷ ys; whole = refl }

head-is : (x z : Entry) (xs zs : List Entry) → x ∷ xs ≡ z ∷ zs → x ≡ z
head-is x z xs zs e = cc

tail-is : (x z : Entry) (xs zs : List Entry) → x ∷ xs ≡ z ∷ zs → xs ≡ zs
tail-is x z xs zs e = cc

no-head : (z : Entry) (zs : List Entry) → [] ≡ z ∷ zs → ⊥
no-head z zs e = cc

common-same : (x y : Entry) (xs ys : List Entry) → x ≡ y → common_of (x ∷ xs) (y ∷ ys) ≡ x ∷ common_of xs ys
common-same x y xs ys e = rw ((is_same-Decides x y).1 e) refl

pub common-longest : (z x y : List Entry) → IsPrefixOf z x → IsPrefixOf z y → IsPrefixOf z (common_of x y)
common-longest [] x y p q = record { rest = common_of x y; whole = refl }
common-longest (z ∷ zs) [] y p q = absurd (no-head z (zs ++ p.rest) p.whole)
common-longest (z ∷ zs) (x ∷ xs) [] p q = absurd (no-head z (zs ++ q.rest) q.whole)
common-longest (z ∷ zs) (x ∷ xs) (y ∷ ys) p q =
    let first = head-is x z xs (zs ++ p.rest) p.whole in
    let second = head-is y z ys (zs ++ q.rest) q.whole in
    let more = common-longest zs xs ys (record { rest = p.rest; whole = tail-is x z xs (zs ++ p.rest) p.whole })
    (record { rest = q.rest; whole = tail-is y z ys (zs ++ q.rest) q.whole }) in
    record {
      rest = more.rest;
      whole = common-same x y xs ys (first ∙ sym second) ∙ ap (λ t. x ∷ t) more.whole
          ∙ ap (λ h. h ∷ (zs ++ more.rest)) first;
    }

common-append : (x rest : List Entry) → common_of x (x ++ rest) ≡ x
common-append [] rest = refl
common-append (x ∷ xs) rest = common-same x x xs (xs ++ rest) refl ∙ ap (λ t. x ∷ t) (common-append xs rest)

pub common-prefix : (x y : List Entry) → IsPrefixOf x y → common_of x y ≡ x
common-prefix x y p = ap (common_of x) p.whole ∙ common-append x p.rest

pub prefix-common : (x y : List Entry) → common_of x y ≡ x → IsPrefixOf x y
prefix-common x y e = subst (λ (z : List Entry). IsPrefixOf z y) e (common-second x y)

-- both lists have one more entry in common
pub common-more : (x y whole : List Entry) (at : ℕ) (d : Entry) → at < length x → at < length y
    → is_same (get_or x at d) (get_or y at d) ≡ true → take at x ++ common_of (drop at x) (drop at y) ≡ whole
    → take (at + 1) x ++ common_of (drop (at + 1) x) (drop (at + 1) y) ≡ whole
common-more x y whole at d inx iny same e =
    let step : common_of (drop at x) (drop at y) ≡ get_or x at d ∷ common_of (drop (at + 1) x) (drop (at + 1) y) =
    ap (λ t. common_of t (drop at y)) (drop_more x at d inx)
    ∙ ap (λ t. common_of (get_or x at d ∷ drop (at + 1) x) t) (drop_more y at d iny)
    ∙ common-same (get_or x at d) (get_or y at d) (drop (at + 1) x) (drop (at + 1) y)
    (same-entry (get_or x at d) (get_or y at d) same) in
    ap (λ t. t ++ common_of (drop (at + 1) x) (drop (at + 1) y)) (take_more x at d inx)
    ∙ append_assoc (take at x) (get_or x at d ∷ []) (common_of (drop (at + 1) x) (drop (at + 1) y))
    ∙ ap (λ t. take at x ++ t) (sym step)
    ∙ e

common-nil : (x : List Entry) → common_of x [] ≡ []
common-nil [] = refl
common-nil (x ∷ xs) = refl

-- one of the lists ends there
pub common-end : (x y whole : List Entry) (at : ℕ) → (length x ≤ at) ⊎ (length y ≤ at)
    → take at x ++ common_of (drop at x) (drop at y) ≡ whole → take at x ≡ whole
common-end x y whole at (inl past) e =
    sym (append-nil (take at x)) ∙ ap (λ t. take at x ++ common_of t (drop at y)) (sym (drop_all at x past)) ∙ e
common-end x y whole at (inr past) e =
    sym (append-nil (take at x)) ∙ ap (λ t. take at x ++ t) (sym (common-nil (drop at x)))
    ∙ ap (λ t. take at x ++ common_of (drop at x) t) (sym (drop_all at y past)) ∙ e

-- a part of a log is no longer than the log
pub end_of-drop-le : (at : ℕ) (x : List Entry) → end_of (take (length x - at) (drop at x)) ≤ end_of x
end_of-drop-le at x = rw (take_rest x at) (omega (arith, sum_by-take-drop (λ entry. entry.bytes) x at))

-- its end from a place on
pub end_of-rest : (at : ℕ) (x : List Entry) → end_of (take (length x - at) (drop at x)) ≡ end_of (drop at x)
end_of-rest at x = ap end_of (take_rest x at)
