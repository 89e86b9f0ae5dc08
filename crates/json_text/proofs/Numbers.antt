-- A whole number is written with no more bytes than it is read from.
use Rattle.std.proofs.Common.{◌≡◌, ℕ, zero, suc, ◌+◌, ◌^◌, ◌≤◌, ◌<◌, Bool, true, false, cond, not, ◌&&◌, ◌==◌, nat_lt, nat_le, ◌-◌, List, [], ◌∷◌, ◌++◌, length, take, drop, get_or, decimal, Option, Some, None, refl, sym, ap, ◌∙◌, subst, arith, append-nil}
use Rattle.std.proofs.lemmas.Bool.{false≢true, and_parts, ltb-true, leb-true, not-true}
use Rattle.std.proofs.lemmas.Bool.Decides.{nat_tests}
use Rattle.std.proofs.lemmas.List.{length-take}
use Rattle.std.proofs.lemmas.Fmt.{length-decimal-le}
use Rattle.std.proofs.lemmas.Int.Digits.{digits_value-lt}
use Rattle.std.specs.Prelude.{⊤}
use Rattle.std.specs.Char.{is_ascii_digit, digit_value}
use Rattle.std.specs.List.{prefix_len}
use Rattle.std.specs.Str.Parse.{AllDigits, digits_value}
use Rattle.fast_float.specs.Text.{Parts, scan, digits_of, digits_end, with_sign}
use Rattle.serde_json.specs.Data.{Num, negative}
use Rattle.serde_json.specs.Read.{is_integer, float_of, number_from, number_of}
use Rattle.serde_json.specs.Written.{number_text}

-- what is there is written in n bytes
abbrev pub FitsIn : ℕ → Option Num → Type 0
FitsIn n None = ⊤
FitsIn n (Some x) = length (number_text x) ≤ n

chosen : (n : ℕ) (t : Bool) (x y : Option Num) → (t ≡ true → FitsIn n x) → (t ≡ false → FitsIn n y)
    → FitsIn n (cond t x y)
chosen n true x y f g = f refl
chosen n false x y f g = g refl

-- ---- the whole part of a numeral

digit : (x : ℕ) → is_ascii_digit x ≡ true → digit_value x < 10
digit x h =
    let p = and_parts (nat_le 48 x) (nat_le x 57) h in
    let least : 48 ≤ x = leb-true 48 x p.0 in
    let greatest : x ≤ 57 = leb-true x 57 p.1 in
    grind (arith, nat_tests)

front-turn : (x : ℕ) (xs : List ℕ) (d : Bool) → is_ascii_digit x ≡ d
    → AllDigits 10 (take (prefix_len is_ascii_digit xs) xs)
    → AllDigits 10 (take (cond d (1 + prefix_len is_ascii_digit xs) 0) (x ∷ xs))
front-turn x xs false e h = tt
front-turn x xs true e h =
    let n : suc (prefix_len is_ascii_digit xs) ≡ 1 + prefix_len is_ascii_digit xs = omega arith in
    let both : AllDigits 10 (take (suc (prefix_len is_ascii_digit xs)) (x ∷ xs)) = (digit x e, h) in
    subst (λ (k : ℕ). AllDigits 10 (take k (x ∷ xs))) n both

front : (s : List ℕ) → AllDigits 10 (take (prefix_len is_ascii_digit s) s)
front [] = tt
front (x ∷ xs) = front-turn x xs (is_ascii_digit x) refl (front xs)

abbrev IsNumeralOf : List ℕ → List ℕ → Type 0
IsNumeralOf s whole = AllDigits 10 whole × (length whole ≤ length s)

whole-part : (s : List ℕ) → IsNumeralOf s (scan s).whole
unfolding scan
whole-part s =
    let n : prefix_len is_ascii_digit s ≡ digits_end s 0 - 0 = omega arith in
    subst (λ (k : ℕ). IsNumeralOf s (take k s)) n (front s, omega (arith, length-take (prefix_len is_ascii_digit s) s))

no-fraction : (s : List ℕ) → (scan s).point ≡ false → (scan s).fraction ≡ []
unfolding scan
no-fraction s e = rw e refl

-- the digits of a whole number
whole-digits : (s : List ℕ) → is_integer (scan s) ≡ true → digits_of (scan s) < 2 ^ 64
    → length (decimal (digits_of (scan s))) ≤ length s
whole-digits s h small =
    let p = and_parts (nat_lt 0 (length (scan s).whole) && not (scan s).point) _ h in
    let q = and_parts (nat_lt 0 (length (scan s).whole)) (not (scan s).point) p.0 in
    let part = whole-part s in
    let alone : (scan s).whole ++ (scan s).fraction ≡ (scan s).whole =
    ap (λ f. (scan s).whole ++ f) (no-fraction s (not-true (scan s).point q.1)) ∙ append-nil (scan s).whole in
    let n : digits_of (scan s) ≡ digits_value 10 (scan s).whole = ap (digits_value 10) alone in
    let some : 0 < length (scan s).whole = ltb-true 0 _ q.0 in
    let below : digits_of (scan s) < 10 ^ length (scan s).whole =
    subst (λ (k : ℕ). k < 10 ^ length (scan s).whole) (sym n) (digits_value-lt 10 (scan s).whole part.0) in
    omega (arith, part.1, length-decimal-le (length (scan s).whole) (digits_of (scan s)) some below small)

-- ---- the number

no-float : (n : ℕ) (below_zero : Bool) (p : Parts) → FitsIn n (float_of below_zero p)
no-float n below_zero p = chosen n _ (Some _) None (λ _. omega arith) (λ _. tt)

positive : (s : List ℕ) → FitsIn (length s) (number_from false (scan s))
positive s =
    chosen (length s) (is_integer (scan s) && nat_lt (digits_of (scan s)) (2 ^ 64)) _ _
    (λ h. let p = and_parts (is_integer (scan s)) _ h in whole-digits s p.0 (ltb-true _ _ p.1))
    (λ _. no-float (length s) false (scan s))

signed : (n m : ℕ) → 0 < n → length (decimal n) ≤ m → length (number_text (negative (with_sign true n))) ≤ 1 + m
signed zero m some h = absurd (omega arith)
signed (suc n) m some h = omega arith

negated : (s : List ℕ) → FitsIn (1 + length s) (number_from true (scan s))
negated s =
    chosen (1 + length s)
    (is_integer (scan s) && nat_lt 0 (digits_of (scan s)) && nat_le (digits_of (scan s)) (2 ^ 63)) _ _
    (λ h.
    let p = and_parts (is_integer (scan s) && nat_lt 0 (digits_of (scan s))) _ h in
    let q = and_parts (is_integer (scan s)) _ p.0 in
    let most : digits_of (scan s) ≤ 2 ^ 63 = leb-true _ _ p.1 in
    signed (digits_of (scan s)) (length s) (ltb-true 0 _ q.1) (whole-digits s q.0 (omega arith)))
    (λ _. no-float (1 + length s) true (scan s))

behind : (s : List ℕ) → (get_or s 0 0 == 45) ≡ true → length s ≡ 1 + length (drop 1 s)
behind [] e = absurd (false≢true e)
behind (x ∷ xs) e = omega arith

pub number-fits : (s : List ℕ) → FitsIn (length s) (number_of s)
unfolding number_of
number-fits s =
    chosen (length s) (get_or s 0 0 == 45) _ _
    (λ e. subst (λ (n : ℕ). FitsIn n (number_from true (scan (drop 1 s)))) (sym (behind s e)) (negated (drop 1 s)))
    (λ _. positive s)
