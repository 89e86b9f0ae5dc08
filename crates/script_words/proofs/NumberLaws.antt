-- Numbers and their digits.
use Rattle.std.proofs.Common.{◌≡◌, ℕ, ◌+◌, ◌-◌, ◌*◌, ◌/◌, ◌%◌, ◌^◌, ◌≤◌, ◌<◌, ◌==◌, nat_lt, ◌&&◌, true, false, List, [], ◌∷◌, ◌++◌, length, Option, Some, None, refl, ◌∙◌, ap, sym, zero, suc, arith, append_assoc, append-nil}
use Rattle.std.specs.Char.{is_ascii_digit}
use Rattle.std.specs.Fmt.{decimal}
use Rattle.std.specs.Option.{option_and_then}
use Rattle.std.proofs.lemmas.Fmt.{decimal_by_steps, decimal_step, decimal_digit}
use Rattle.std.proofs.lemmas.Bool.Decides.{nat_tests}
use Rattle.script_words.specs.Lines.{first_at}
use Rattle.script_words.specs.Numbers.{number, digits_from, digit_on}
use Rattle.script_words.proofs.WordLaws.{passed}
use Rattle.script_words.proofs.Outcomes.{some_is, none_is, and_then-Some, cond-Some, cond-refuses}

test-ok : (b v : ℕ) → 48 ≤ b → b ≤ 57 → v < 2 ^ 64 → (is_ascii_digit b && nat_lt v (2 ^ 64)) ≡ true
test-ok b v low high fits = grind (arith, nat_tests)

big : (n : ℕ) → 10 ≤ n → n / 10 ≡ 0 → ⊥
big n h e = omega arith

digit-ok : (n d : ℕ) → d < 10 → n * 10 + d < 2 ^ 64 → digit_on n (48 + d) ≡ Some (n * 10 + d)
digit-ok n d small fits =
    let back : (48 + d) - 48 ≡ d = omega arith in
    let test : (is_ascii_digit (48 + d) && nat_lt (n * 10 + ((48 + d) - 48)) (2 ^ 64)) ≡ true =
    rw back (test-ok (48 + d) (n * 10 + d) (omega arith) (omega arith) fits) in
    rw (test, back) refl

digits-on : (o : Option ℕ) (ds : List ℕ) (d m : ℕ)
    → ((k : ℕ) → o ≡ Some k → option_and_then (λ m'. digits_from m' ds) (Some k) ≡ Some m →
    digits_from k (ds ++ ((48 + d) ∷ [])) ≡ Some (m * 10 + d))
    → option_and_then (λ m'. digits_from m' ds) o ≡ Some m
    → option_and_then (λ m'. digits_from m' (ds ++ ((48 + d) ∷ []))) o ≡ Some (m * 10 + d)
digits-on None ds d m step e = cc
digits-on (Some k) ds d m step e = step k refl e

digits-more : (n m : ℕ) (ds : List ℕ) (d : ℕ) → digits_from n ds ≡ Some m → d < 10 → m * 10 + d < 2 ^ 64
    → digits_from n (ds ++ ((48 + d) ∷ [])) ≡ Some (m * 10 + d)
digits-more n m [] d e small fits =
    let same : n ≡ m = some_is n m e in
    rw (same, digit-ok m d small fits) refl
digits-more n m (c ∷ cs) d e small fits = digits-on (digit_on n c) cs d m (λ k _ h. digits-more k m cs d h small fits) e

-- the digits of n, the first of which is 0 only for 0
record Digits (n : ℕ) (ds : List ℕ) : Type 0 where
  pub first : ℕ
  pub others : List ℕ
  pub is : ds ≡ first ∷ others
  pub value : digits_from 0 ds ≡ Some n
  pub zero_only : first ≡ 48 → n ≡ 0
  pub short : n < 10 → others ≡ []

one : (n : ℕ) → n < 10 → n < 2 ^ 64 → Digits n ((48 + n) ∷ [])
one n h fits = record {
  first = 48 + n;
  others = [];
  is = refl;
  value = rw (digit-ok 0 n h (omega arith)) (ap Some (omega arith));
  zero_only = λ e. omega arith;
  short = λ _. refl;
}

more : (n : ℕ) (ds : List ℕ) → 10 ≤ n → (n / 10 < 2 ^ 64 → Digits (n / 10) ds) → n < 2 ^ 64
    → Digits n (ds ++ ((48 + n % 10) ∷ []))
more n ds h front fits =
    let p = front (omega arith) in
    let whole : (n / 10) * 10 + n % 10 ≡ n = omega arith in
    let value : digits_from 0 (ds ++ ((48 + n % 10) ∷ [])) ≡ Some ((n / 10) * 10 + n % 10) =
    digits-more 0 (n / 10) ds (n % 10) p.value (omega arith) (omega arith) in
    record {
      first = p.first;
      others = p.others ++ ((48 + n % 10) ∷ []);
      is = ap (λ t. t ++ ((48 + n % 10) ∷ [])) p.is;
      value = value ∙ ap Some whole;
      zero_only = λ e. absurd (big n h (p.zero_only e));
      short = λ small. absurd (omega arith);
    }

decimal-digits : (n : ℕ) → n < 2 ^ 64 → Digits n (decimal n)
decimal-digits n fits = decimal_by_steps (λ n ds. n < 2 ^ 64 → Digits n ds) one more n fits fits

no-lead : (first len : ℕ) → (first ≡ 48 → len ≡ 0) → ((first == 48) && nat_lt 0 len) ≡ false
no-lead first len h = grind (arith, nat_tests)

number-of : (n : ℕ) (ds : List ℕ) → Digits n ds → number ds ≡ Some n
number-of n ds p =
    let alone : p.first ≡ 48 → length p.others ≡ 0 = λ e. ap length (p.short (omega (arith, p.zero_only e))) in
    let test : ((p.first == 48) && nat_lt 0 (length p.others)) ≡ false = no-lead p.first (length p.others) alone in
    ap number p.is ∙ (rw test (ap (digits_from 0) (sym p.is) ∙ p.value))

-- what is written is read again
pub number-decimal : (n : ℕ) → n < 2 ^ 64 → number (decimal n) ≡ Some n
number-decimal n fits = number-of n (decimal n) (decimal-digits n fits)

-- a digit that was read
record IsDigit (n b m : ℕ) : Type 0 where
  pub low : 48 ≤ b
  pub high : b ≤ 57
  pub value : n * 10 + (b - 48) ≡ m
  pub fits : m < 2 ^ 64

digit : (n b m v : ℕ) → v ≡ n * 10 + (b - 48) → (is_ascii_digit b && nat_lt v (2 ^ 64)) ≡ true → v ≡ m → IsDigit n b m
digit n b m v is test e = record {
  low = grind (arith, nat_tests);
  high = grind (arith, nat_tests);
  value = omega arith;
  fits = grind (arith, nat_tests);
}

digit_on-IsDigit : (n b m : ℕ) → digit_on n b ≡ Some m → IsDigit n b m
digit_on-IsDigit n b m e =
    let p = cond-Some (is_ascii_digit b && nat_lt (n * 10 + (b - 48)) (2 ^ 64)) (Some (n * 10 + (b - 48))) m e in
    digit n b m (n * 10 + (b - 48)) refl p.0 (some_is (n * 10 + (b - 48)) m p.1)

one-more : (n b m : ℕ) → 0 < n → IsDigit n b m → decimal m ≡ decimal n ++ b ∷ []
one-more n b m some d =
    let front : m / 10 ≡ n = omega (arith, d.low, d.high, d.value) in
    let last : 48 + m % 10 ≡ b = omega (arith, d.low, d.high, d.value) in
    decimal_step m (omega (arith, d.value)) d.fits ∙ rw (front, last) refl

digits : (n m : ℕ) (bs : List ℕ) → 0 < n → digits_from n bs ≡ Some m → decimal m ≡ decimal n ++ bs
digits n m [] some e = ap decimal (sym (some_is n m e)) ∙ sym (append-nil (decimal n))
digits n m (b ∷ bs) some e =
    let p = and_then-Some (λ k. digits_from k bs) (digit_on n b) m e in
    let d = digit_on-IsDigit n b p.0 p.1 in
    digits p.0 m bs (omega (arith, d.value)) p.2 ∙ ap (λ t. t ++ bs) (one-more n b p.0 some d)
    ∙ append_assoc (decimal n) (b ∷ []) bs

first : (b d m : ℕ) (bs : List ℕ) → ((b == 48) && nat_lt 0 (length bs)) ≡ false → IsDigit 0 b d
    → digits_from d bs ≡ Some m → b ∷ bs ≡ decimal m
first b zero m [] test is e =
    let z : m ≡ 0 = sym (some_is 0 m e) in
    let same : b ≡ 48 + 0 = omega (arith, is.low, is.value) in
    rw (z, same) (sym (decimal_digit 0 (omega arith)))
first b zero m (c ∷ cs) test is e =
    let same : b ≡ 48 = omega (arith, is.low, is.value) in
    absurd (grind (arith, nat_tests))
first b (suc k) m bs test is e =
    let same : 48 + suc k ≡ b = omega (arith, is.low, is.value) in
    sym (digits (suc k) m bs (omega arith) e
    ∙ ap (λ t. t ++ bs) (decimal_digit (suc k) (omega (arith, is.high, is.value)) ∙ ap (λ t. t ∷ []) same))

-- what is read is written so
pub number-is : (bytes : List ℕ) (n : ℕ) → number bytes ≡ Some n → bytes ≡ decimal n
number-is [] n e = absurd (none_is n e)
number-is (b ∷ bs) n e =
    let p = cond-refuses ((b == 48) && nat_lt 0 (length bs)) (digits_from 0 (b ∷ bs)) n e in
    let q = and_then-Some (λ k. digits_from k bs) (digit_on 0 b) n p.1 in
    first b q.0 n bs p.0 (digit_on-IsDigit 0 b q.0 q.1) q.2

below : (n m : ℕ) (bs : List ℕ) → n < 2 ^ 64 → digits_from n bs ≡ Some m → m < 2 ^ 64
below n m [] h e = let same : n ≡ m = some_is n m e in omega arith
below n m (b ∷ bs) h e =
    let p = and_then-Some (λ k. digits_from k bs) (digit_on n b) m e in
    below p.0 m bs (digit_on-IsDigit n b p.0 p.1).fits p.2

pub number-below : (bytes : List ℕ) (n : ℕ) → number bytes ≡ Some n → n < 2 ^ 64
number-below [] n e = absurd (none_is n e)
number-below (b ∷ bs) n e =
    let p = cond-refuses ((b == 48) && nat_lt 0 (length bs)) (digits_from 0 (b ∷ bs)) n e in
    below 0 n (b ∷ bs) (omega arith) p.1

-- a byte that is no digit is in no number
pub first_at-append : (c : ℕ) (xs ys : List ℕ) → first_at c xs ≡ None → first_at c ys ≡ None
    → first_at c (xs ++ ys) ≡ None
first_at-append c [] ys h k = k
first_at-append c (x ∷ xs) ys h k =
    let p = passed (x == c) (first_at c xs) h in
    rw (p.0, first_at-append c xs ys p.1 k) refl

a_digit : (c d : ℕ) → c < 48 → first_at c ((48 + d) ∷ []) ≡ None
a_digit c d h = let other : ((48 + d) == c) ≡ false = grind (arith, nat_tests) in rw other refl

pub first_at-decimal : (c n : ℕ) → c < 48 → n < 2 ^ 64 → first_at c (decimal n) ≡ None
first_at-decimal c n h fits =
    decimal_by_steps (λ n ds. first_at c ds ≡ None) (λ n k. a_digit c n h)
    (λ n ds k front. first_at-append c ds ((48 + n % 10) ∷ []) front (a_digit c (n % 10) h)) n fits
