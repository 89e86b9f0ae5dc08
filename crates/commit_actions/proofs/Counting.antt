-- Counting members: what overlap gives.
use Rattle.std.proofs.Common.{◌≡◌, ◌⊎◌, ℕ, zero, suc, ◌+◌, ◌≤◌, ◌<◌, ◌==◌, nat_le, ◌&&◌, ◌||◌, not, Bool, true, false, refl, ◌∙◌, ap, sym, arith, inl, inr}
use Rattle.std.proofs.lemmas.Bool.Decides.{nat_tests}
use Rattle.commit_actions.specs.Keys.{Confirmers, Nobody, All, AtLeast, one_if, count, AllBut, Meets, Overlaps, MayPublish, Added, Counted, Confirmed, Narrows}
use Rattle.lease_model.proofs.Tools.{both, not-false, le-from, gt-from}

pub count-none : (n : ℕ) → count n (λ m. false) ≡ 0
count-none zero = refl
count-none (suc n) = omega (arith, count-none n)

one-le : (a b : Bool) → (a ≡ true → b ≡ true) → one_if a ≤ one_if b
one-le true true h = omega arith
one-le true false h = absurd (both (h refl))
one-le false b h = omega arith

pub count-sub : (n : ℕ) (a b : ℕ → Bool) → ((m : ℕ) → a m ≡ true → b m ≡ true) → count n a ≤ count n b
count-sub zero a b h = omega arith
count-sub (suc n) a b h = omega (arith, one-le (a n) (b n) (h n), count-sub n a b h)

-- those of a without b, and b
one-split : (a b c : Bool) → (b ≡ true → c ≡ true) → one_if (a && not b) + one_if b ≤ one_if (a || c)
one-split true true c h = omega arith
one-split true false c h = omega arith
one-split false true true h = omega arith
one-split false true false h = absurd (both (h refl))
one-split false false c h = omega arith

count-split : (n : ℕ) (a b c : ℕ → Bool) → ((m : ℕ) → b m ≡ true → c m ≡ true)
    → count n (λ m. a m && not (b m)) + count n b ≤ count n (λ m. a m || c m)
count-split zero a b c h = omega arith
count-split (suc n) a b c h = omega (arith, one-split (a n) (b n) (c n) (h n), count-split n a b c h)

one-or : (a b : Bool) → one_if (a || b) ≤ one_if a + one_if b
one-or true b = omega arith
one-or false b = omega arith

pub count-or : (n : ℕ) (a b : ℕ → Bool) → count n (λ m. a m || b m) ≤ count n a + count n b
count-or zero a b = omega arith
count-or (suc n) a b = omega (arith, one-or (a n) (b n), count-or n a b)

zero-at : (b : Bool) (rest : ℕ) → one_if b + rest ≡ 0 → b ≡ false
zero-at true rest e = absurd (omega (arith, e))
zero-at false rest e = refl

below-at : (b : Bool) (m n : ℕ) → nat_le n m ≡ b → m < suc n → (m ≡ n) ⊎ (m < n)
below-at true m n e less = inl (omega (arith, le-from n m e, less))
below-at false m n e less = inr (gt-from n m e)

pub none-of : (n : ℕ) (a : ℕ → Bool) → count n a ≡ 0 → (m : ℕ) → m < n → a m ≡ false
none-of zero a e m less = absurd (omega (arith, less))
none-of (suc n) a e m less = elim (below-at (nat_le n m) m n refl less) [
  | inl same ↦ ap a same ∙ zero-at (a n) (count n a) e
  | inr below ↦ none-of n a (omega (arith, e)) m below
]

and-not : (a b : Bool) → a ≡ true → (a && not b) ≡ false → b ≡ true
and-not true true e f = refl
and-not true false e f = absurd (both (sym f))
and-not false b e f = absurd (both e)

pub but-sub : (member_count : ℕ) (standbys : ℕ → Bool) (quorum : ℕ) (X Y : ℕ → Type 0) → ((m : ℕ) → X m → Y m)
    → AllBut member_count standbys quorum X → AllBut member_count standbys quorum Y
but-sub member_count standbys quorum X Y sub a =
    record { spared = a.spared; few = a.few; others = λ m is not_spared. sub m (a.others m is not_spared) }

pub meets-sub : (member_count : ℕ) (confirmers : Confirmers) (X Y : ℕ → Type 0) → ((m : ℕ) → X m → Y m)
    → Meets member_count confirmers X → Meets member_count confirmers Y
meets-sub member_count Nobody X Y sub met = tt
meets-sub member_count (All members) X Y sub met = λ m is. sub m (met m is)
meets-sub member_count (AtLeast number members) X Y sub met =
    record { sure = met.sure; within = met.within; enough = met.enough; all = λ m is. sub m (met.all m is) }

-- what whom commits wait for has, all standbys but a few have
pub overlap-gives : (member_count : ℕ) (standbys : ℕ → Bool) (quorum : ℕ) (confirmers : Confirmers) (X : ℕ → Type 0)
    → Overlaps member_count standbys quorum confirmers → Meets member_count confirmers X
    → AllBut member_count standbys quorum X
overlap-gives member_count standbys quorum Nobody X over met =
    record { spared = standbys; few = over; others = λ m is other. absurd (not-false (standbys m) other is) }
overlap-gives member_count standbys quorum (All members) X over met = record {
  spared = λ m. false;
  few = omega (arith, count-none member_count);
  others = λ m is other. met m (over m is);
}
overlap-gives member_count standbys quorum (AtLeast number members) X over met = record {
  spared = λ m. standbys m && not (met.sure m);
  few = omega (arith, over, met.enough, count-split member_count standbys met.sure members met.within);
  others = λ m is other. met.all m (and-not (standbys m) (met.sure m) is other);
}

or-not : (a b : Bool) → (a || b) ≡ false → a ≡ false
or-not true b e = e
or-not false b e = refl

or-not-second : (a b : Bool) → (a || b) ≡ false → b ≡ false
or-not-second true b e = absurd (both (sym e))
or-not-second false b e = e

pub narrows-gives : (member_count : ℕ) (before after : Confirmers) (X : ℕ → Type 0) → Narrows before after
    → Meets member_count before X → Meets member_count after X
narrows-gives member_count before Nobody X n met = tt
narrows-gives member_count (All before) (All after) X n met = λ m is. met m (n m is)
narrows-gives member_count Nobody (All after) X n met = absurd n
narrows-gives member_count (AtLeast k before) (All after) X n met = absurd n
narrows-gives member_count Nobody (AtLeast k after) X n met = absurd n
narrows-gives member_count (All before) (AtLeast k after) X n met = absurd n
narrows-gives member_count (AtLeast j before) (AtLeast k after) X n met = absurd n

-- who may be published: all but a few have what the old standbys but a few, and who confirmed, have
pub publish-gives : (member_count : ℕ) (old : ℕ → Bool) (old_quorum : ℕ) (new : ℕ → Bool) (quorum : ℕ)
    (confirmers : Confirmers) (C X : ℕ → Type 0) → Overlaps member_count new quorum confirmers
    → MayPublish member_count old old_quorum new quorum confirmers C → AllBut member_count old old_quorum X
    → ((m : ℕ) → C m → X m) → AllBut member_count new quorum X
publish-gives member_count old old_quorum new quorum confirmers C X over (Added each fewer) before sure = record {
  spared = before.spared;
  few = omega (arith, before.few, fewer);
  others = λ m is other. elim (each m is) [ inl was ↦ before.others m was other | inr c ↦ sure m c ];
}
publish-gives member_count old old_quorum new quorum confirmers C X over (Counted sum) before sure = record {
  spared = λ m. (new m && not (old m)) || before.spared m;
  few = omega (arith, count-or member_count (λ m. new m && not (old m)) before.spared, sum, before.few);
  others =
      λ m is other. before.others m (and-not (new m) (old m) is (or-not (new m && not (old m)) (before.spared m) other))
      (or-not-second (new m && not (old m)) (before.spared m) other);
}
publish-gives member_count old old_quorum new quorum confirmers C X over (Confirmed met) before sure =
    overlap-gives member_count new quorum confirmers X over (meets-sub member_count confirmers C X sure met)

-- a set with more members than another has one that the other hasn't
pub record Beyond (member_count : ℕ) (a b : ℕ → Bool) : Type 0 where
  pub number : ℕ
  pub less : number < member_count
  pub of : a number ≡ true
  pub not_of : b number ≡ false

beyond-suc : (n : ℕ) (a b : ℕ → Bool) → Beyond n a b → Beyond (suc n) a b
beyond-suc n a b x = record { number = x.number; less = omega (arith, x.less); of = x.of; not_of = x.not_of }

beyond-at : (x y : Bool) (n : ℕ) (a b : ℕ → Bool) → a n ≡ x → b n ≡ y → (count n b < count n a → Beyond n a b)
    → one_if y + count n b < one_if x + count n a → Beyond (suc n) a b
beyond-at true false n a b ax by more less = record { number = n; less = omega arith; of = ax; not_of = by }
beyond-at true true n a b ax by more less = beyond-suc n a b (more (omega (arith, less)))
beyond-at false true n a b ax by more less = beyond-suc n a b (more (omega (arith, less)))
beyond-at false false n a b ax by more less = beyond-suc n a b (more (omega (arith, less)))

pub beyond : (n : ℕ) (a b : ℕ → Bool) → count n b < count n a → Beyond n a b
beyond zero a b less = absurd (omega (arith, less))
beyond (suc n) a b less = beyond-at (a n) (b n) n a b refl refl (beyond n a b) less

or-second : (x y : Bool) → y ≡ true → (x || y) ≡ true
or-second true y e = refl
or-second false y e = e

eq-true : (m n : ℕ) → m ≡ n → (n == m) ≡ true
eq-true m n e = grind (arith, nat_tests)

with-here : (x y : Bool) → x ≡ true → y ≡ false → one_if y + 1 ≤ one_if (x || y)
with-here true true e f = absurd (both (sym f))
with-here true false e f = omega arith
with-here false y e f = absurd (both e)

-- a set with one more member
pub count-with : (n m : ℕ) (a : ℕ → Bool) → m < n → a m ≡ false → count n a + 1 ≤ count n (λ k. (k == m) || a k)
count-with zero m a less e = absurd (omega (arith, less))
count-with (suc n) m a less e = elim (below-at (nat_le n m) m n refl less) [
  | inl same ↦ omega (
    arith,
    count-sub n a (λ k. (k == m) || a k) (λ k is. or-second (k == m) (a k) is),
    with-here (n == m) (a n) (eq-true m n same) (sym (ap a same) ∙ e),
  )
  | inr below ↦ omega (arith, count-with n m a below e, one-le (a n) ((n == m) || a n) (or-second (n == m) (a n)))
]

pub count-empty : (n : ℕ) (a : ℕ → Bool) → ((m : ℕ) → a m ≡ false) → count n a ≡ 0
count-empty zero a h = refl
count-empty (suc n) a h = omega (arith, count-empty n a h, ap one_if (h n))

pub none-less : (n : ℕ) → n ≤ 0 → n ≡ 0
none-less n less = omega (arith, less)
