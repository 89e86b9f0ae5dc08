-- The content of a string of a UTF-8 text is UTF-8.
use Rattle.std.proofs.Common.{◌≡◌, ℕ, zero, suc, ◌≤◌, ◌<◌, Bool, true, false, cond, ◌&&◌, ◌||◌, ◌==◌, nat_lt, nat_le, List, [], ◌∷◌, ◌++◌, length, get_or, Option, Some, None, option_and_then, IsUtf8, inl, inr, refl, sym, ap, ◌∙◌, subst, arith, append-nil}
use Rattle.std.proofs.lemmas.Bool.{eqb-true, ltb-true, ltb-false, lt-ltb, le-ltb, le-leb, ne_eqb, and_parts, and_cases, or_cases, cases_lt}
use Rattle.std.proofs.lemmas.Bool.Decides.{nat_tests}
use Rattle.std.proofs.lemmas.List.{length-append}
use Rattle.std.proofs.lemmas.Str.{IsUtf8-append, IsUtf8-nil, IsUtf8-encode, IsUtf8-past_char, encode_ascii, inside_one, length-encode, len_utf8_bounds}
use Rattle.std.specs.Prelude.{⊤}
use Rattle.std.specs.Char.{is_digit, digit_value, encode_utf8}
use lib.Utf8.{scalar, scalars, encodes, low_scalar}
use Rattle.json.specs.Text.{code_unit, short_escape, is_high_surrogate, is_low_surrogate, surrogate_pair, Within, plain, after_backslash, after_u, after_high, prepend, content}

-- what is there, if anything is, is UTF-8
abbrev pub IfUtf8 : Option (List ℕ) → Type 0
IfUtf8 None = ⊤
IfUtf8 (Some s) = IsUtf8 s

abbrev IfAny : (ℕ → Type 0) → Option ℕ → Type 0
IfAny P None = ⊤
IfAny P (Some u) = P u

IfAny-cond : (P : ℕ → Type 0) (t : Bool) (x y : Option ℕ) → (t ≡ true → IfAny P x) → (t ≡ false → IfAny P y)
    → IfAny P (cond t x y)
IfAny-cond P true x y f g = f refl
IfAny-cond P false x y f g = g refl

either : (t : Bool) (x y : Option (List ℕ)) → (t ≡ true → IfUtf8 x) → (t ≡ false → IfUtf8 y) → IfUtf8 (cond t x y)
either true x y f g = f refl
either false x y f g = g refl

then : (P : ℕ → Type 0) (f : ℕ → Option (List ℕ)) (o : Option ℕ) → IfAny P o → ((u : ℕ) → P u → IfUtf8 (f u))
    → IfUtf8 (option_and_then f o)
then P f None h k = tt
then P f (Some u) h k = k u h

longer : (a : List ℕ) (r : Option (List ℕ)) → IsUtf8 a → IfUtf8 r → IfUtf8 (prepend a r)
longer a None h k = tt
longer a (Some s) h k = IsUtf8-append a s h k

-- ---- characters

tail : (x : ℕ) (xs : List ℕ) → x < 128 → IsUtf8 (x ∷ xs) → IsUtf8 xs
tail x xs h u = IsUtf8-past_char (x ∷ xs) xs x u (ap (λ (l : List ℕ). l ++ xs) (sym (encode_ascii x h)))

one : (x : ℕ) → x < 128 → IsUtf8 (x ∷ [])
one x h = subst IsUtf8 (encode_ascii x h) (IsUtf8-encode x (low_scalar x (omega arith)))

-- bytes that aren't ASCII
abbrev AreHigh : List ℕ → Type 0
AreHigh bs = (k : ℕ) → k < length bs → 128 ≤ get_or bs k 0

record BeginsHigh (bs : List ℕ) : Type 0 where
  char : ℕ
  rest : List ℕ
  is : bs ≡ encode_utf8 char ++ rest
  scalar : scalar char ≡ true
  high : AreHigh (encode_utf8 char)
  utf8 : IsUtf8 rest

-- a character whose first byte isn't ASCII has none that is
high-bytes : (c x : ℕ) (xs rest : List ℕ) → x ∷ xs ≡ encode_utf8 c ++ rest → 128 ≤ x → AreHigh (encode_utf8 c)
high-bytes c x xs rest e h = λ k below. elim (cases_lt (get_or (encode_utf8 c) k 0) 128) [
  | inl low ↦
      let same : c ≡ get_or (encode_utf8 c) k 0 =
      inside_one c [] (encode_utf8 c) k (sym (append-nil (encode_utf8 c))) below low in
      let small : c < 128 = omega arith in
      let first : x ∷ xs ≡ c ∷ rest = e ∙ ap (λ (l : List ℕ). l ++ rest) (encode_ascii c small) in
      let is : x ≡ c = cc in
      absurd (omega arith)
  | inr high ↦ high
]

begins-high : (x : ℕ) (xs : List ℕ) → 128 ≤ x → (cs : List ℕ) → scalars cs ≡ true → encodes cs ≡ x ∷ xs
    → BeginsHigh (x ∷ xs)
begins-high x xs h [] s e = absurd cc
begins-high x xs h (c ∷ cs) s e =
    let p = and_parts (scalar c) (scalars cs) s in
    record {
      char = c;
      rest = encodes cs;
      is = sym e;
      scalar = p.0;
      high = high-bytes c x xs (encodes cs) (sym e) h;
      utf8 = (cs, (p.1, refl));
    }

prepend-one : (x : ℕ) (xs : List ℕ) (r : Option (List ℕ)) → prepend (x ∷ []) (prepend xs r) ≡ prepend (x ∷ xs) r
prepend-one x xs None = refl
prepend-one x xs (Some s) = refl

prepend-none : (r : Option (List ℕ)) → prepend [] r ≡ r
prepend-none None = refl
prepend-none (Some s) = refl

-- bytes that aren't ASCII stand for themselves
content-high : (bs rest : List ℕ) → AreHigh bs → content plain (bs ++ rest) ≡ prepend bs (content plain rest)
unfolding content
content-high [] rest h = sym (prepend-none (content plain rest))
content-high (b ∷ bs) rest h =
    let high : 128 ≤ b = h 0 (omega arith) in
    rw (ne_eqb b 34 (λ e. omega arith), ne_eqb b 92 (λ e. omega arith), le-ltb b 32 (omega arith))
    (ap (prepend (b ∷ [])) (content-high bs rest (λ k below. h (suc k) (omega arith)))
    ∙ prepend-one b bs (content plain rest))

-- ---- escapes

-- a short escape and what it stands for are ASCII
abbrev AreAscii : ℕ → ℕ → Type 0
AreAscii x c = (x < 128) × (c < 128)

short-at : (k c x : ℕ) → k < 128 → c < 128 → (x == k) ≡ true → AreAscii x c
short-at k c x h g e = (omega (arith, eqb-true x k e), g)

short-own : (k x : ℕ) → k < 128 → (x == k) ≡ true → AreAscii x x
short-own k x h e = (omega (arith, eqb-true x k e), omega (arith, eqb-true x k e))

short-ascii : (x : ℕ) → IfAny (AreAscii x) (short_escape x)
unfolding short_escape
short-ascii x =
    IfAny-cond (AreAscii x) ((x == 34) || (x == 92) || (x == 47)) (Some x) _
    (λ h. elim (or_cases ((x == 34) || (x == 92)) (x == 47) h) [
      | inl first ↦ elim (or_cases (x == 34) (x == 92) first) [
        | inl e ↦ short-own 34 x (omega arith) e
        | inr e ↦ short-own 92 x (omega arith) e
      ]
      | inr e ↦ short-own 47 x (omega arith) e
    ])
    (λ _. IfAny-cond (AreAscii x) (x == 98) (Some 8) _ (short-at 98 8 x (omega arith) (omega arith))
    (λ _. IfAny-cond (AreAscii x) (x == 102) (Some 12) _ (short-at 102 12 x (omega arith) (omega arith))
    (λ _. IfAny-cond (AreAscii x) (x == 110) (Some 10) _ (short-at 110 10 x (omega arith) (omega arith))
    (λ _. IfAny-cond (AreAscii x) (x == 114) (Some 13) _ (short-at 114 13 x (omega arith) (omega arith))
    (λ _. IfAny-cond (AreAscii x) (x == 116) (Some 9) None (short-at 116 9 x (omega arith) (omega arith)) (λ _. tt))))))

hex-ascii : (x : ℕ) → is_digit x 16 ≡ true → x < 128
hex-ascii x h =
    let below : digit_value x < 16 = ltb-true (digit_value x) 16 h in
    grind (arith, nat_tests)

record IsUnit (a b c d u : ℕ) : Type 0 where
  first : a < 128
  second : b < 128
  third : c < 128
  fourth : d < 128
  small : u < 65536

is-unit : (a b c d : ℕ) → IfAny (IsUnit a b c d) (code_unit a b c d)
unfolding code_unit
is-unit a b c d =
    IfAny-cond (IsUnit a b c d) (is_digit a 16 && is_digit b 16 && is_digit c 16 && is_digit d 16) (Some _) None
    (λ h.
    let p = and_parts (is_digit a 16 && is_digit b 16 && is_digit c 16) (is_digit d 16) h in
    let q = and_parts (is_digit a 16 && is_digit b 16) (is_digit c 16) p.0 in
    let r = and_parts (is_digit a 16) (is_digit b 16) q.0 in
    record {
      first = hex-ascii a r.0;
      second = hex-ascii b r.1;
      third = hex-ascii c q.1;
      fourth = hex-ascii d p.1;
      small = omega (
        arith,
        ltb-true (digit_value a) 16 r.0,
        ltb-true (digit_value b) 16 r.1,
        ltb-true (digit_value c) 16 q.1,
        ltb-true (digit_value d) 16 p.1,
      );
    })
    (λ _. tt)

behind-unit : (a b c d u : ℕ) (xs : List ℕ) → IsUnit a b c d u → IsUtf8 (a ∷ b ∷ c ∷ d ∷ xs) → IsUtf8 xs
behind-unit a b c d u xs h utf8 =
    tail d xs h.fourth (tail c (d ∷ xs) h.third (tail b (c ∷ d ∷ xs) h.second (tail a (b ∷ c ∷ d ∷ xs) h.first utf8)))

not-high : (u : ℕ) → is_high_surrogate u ≡ false → is_low_surrogate u ≡ false → u < 65536 → scalar u ≡ true
not-high u h l small = elim (cases_lt u 55296) [
  | inl below ↦ rw (lt-ltb u 55296 below) refl
  | inr above ↦
      let wide : nat_le 55296 u ≡ true = le-leb 55296 u above in
      let not_first : nat_lt u 56320 ≡ false =
      elim (and_cases (nat_le 55296 u) (nat_lt u 56320) h) [ inl e ↦ absurd cc | inr e ↦ e ] in
      let second : 56320 ≤ u = ltb-false u 56320 not_first in
      let not_second : nat_lt u 57344 ≡ false = elim (and_cases (nat_le 56320 u) (nat_lt u 57344) l) [
        | inl e ↦ absurd (let e' : nat_le 56320 u ≡ true = le-leb 56320 u second in cc)
        | inr e ↦ e
      ] in
      let third : 57344 ≤ u = ltb-false u 57344 not_second in
      rw (le-ltb u 55296 above, le-leb 57344 u third, lt-ltb u 1114112 (omega arith)) refl
]

pair-scalar : (h l : ℕ) → is_high_surrogate h ≡ true → is_low_surrogate l ≡ true → scalar (surrogate_pair h l) ≡ true
pair-scalar h l p q =
    let high = and_parts (nat_le 55296 h) (nat_lt h 56320) p in
    let low = and_parts (nat_le 56320 l) (nat_lt l 57344) q in
    let a : h < 56320 = ltb-true h 56320 high.1 in
    let b : l < 57344 = ltb-true l 57344 low.1 in
    let least : 57344 ≤ surrogate_pair h l = omega arith in
    let most : surrogate_pair h l < 1114112 = omega arith in
    let above : 55296 ≤ surrogate_pair h l = omega arith in
    rw (
      le-ltb (surrogate_pair h l) 55296 above,
      le-leb 57344 (surrogate_pair h l) least,
      lt-ltb (surrogate_pair h l) 1114112 most,
    ) refl

-- ---- the content

abbrev IsHalf : Within → Type 0
IsHalf plain = ⊤
IsHalf after_backslash = ⊤
IsHalf after_u = ⊤
IsHalf (after_high h) = is_high_surrogate h ≡ true

content-IfUtf8 : (n : ℕ) (w : Within) (xs : List ℕ) → length xs ≤ n → IsHalf w → IsUtf8 xs → IfUtf8 (content w xs)
unfolding content
content-IfUtf8 n plain [] h half u = tt
content-IfUtf8 zero plain (x ∷ xs) h half u = absurd (omega arith)
content-IfUtf8 (suc n) plain (x ∷ xs) h half u = elim (cases_lt x 128) [
  | inl low ↦
      either (x == 34) _ _ (λ _. IsUtf8-nil)
      (λ _. either (x == 92) _ _ (λ _. content-IfUtf8 n after_backslash xs (omega arith) tt (tail x xs low u))
      (λ _. either (nat_lt x 32) _ _ (λ _. tt)
      (λ _. longer (x ∷ []) _ (one x low) (content-IfUtf8 n plain xs (omega arith) tt (tail x xs low u)))))
  | inr high ↦
      let b = begins-high x xs high u.0 u.1.0 u.1.1 in
      let shorter : length b.rest ≤ n = omega (
        arith,
        ap length b.is,
        length-append (encode_utf8 b.char) b.rest,
        length-encode b.char,
        len_utf8_bounds b.char,
      ) in
      subst (λ (bs : List ℕ). IfUtf8 (content plain bs)) (sym b.is)
      (subst IfUtf8 (sym (content-high (encode_utf8 b.char) b.rest b.high))
      (longer (encode_utf8 b.char) _ (IsUtf8-encode b.char b.scalar) (content-IfUtf8 n plain b.rest shorter tt b.utf8)))
]
content-IfUtf8 n after_backslash [] h half u = tt
content-IfUtf8 zero after_backslash (x ∷ xs) h half u = absurd (omega arith)
content-IfUtf8 (suc n) after_backslash (x ∷ xs) h half u =
    either (x == 117) _ _
    (λ e. content-IfUtf8 n after_u xs (omega arith) tt (tail x xs (omega (arith, eqb-true x 117 e)) u))
    (λ _. then (AreAscii x) _ (short_escape x) (short-ascii x)
    (λ c p. longer (c ∷ []) _ (one c p.1) (content-IfUtf8 n plain xs (omega arith) tt (tail x xs p.0 u))))
content-IfUtf8 n after_u [] h half u = tt
content-IfUtf8 n after_u (a ∷ []) h half u = tt
content-IfUtf8 n after_u (a ∷ b ∷ []) h half u = tt
content-IfUtf8 n after_u (a ∷ b ∷ c ∷ []) h half u = tt
content-IfUtf8 zero after_u (a ∷ b ∷ c ∷ d ∷ xs) h half u = absurd (omega arith)
content-IfUtf8 (suc n) after_u (a ∷ b ∷ c ∷ d ∷ xs) h half u =
    then (IsUnit a b c d) _ (code_unit a b c d) (is-unit a b c d)
    (λ v is. either (is_high_surrogate v) _ _
    (λ high. content-IfUtf8 n (after_high v) xs (omega arith) high (behind-unit a b c d v xs is u))
    (λ not_high. either (is_low_surrogate v) _ _ (λ _. tt)
    (λ not_low. longer (encode_utf8 v) _ (IsUtf8-encode v (not-high v not_high not_low is.small))
    (content-IfUtf8 n plain xs (omega arith) tt (behind-unit a b c d v xs is u)))))
content-IfUtf8 n (after_high l) [] h half u = tt
content-IfUtf8 n (after_high l) (s ∷ []) h half u = tt
content-IfUtf8 n (after_high l) (s ∷ t ∷ []) h half u = tt
content-IfUtf8 n (after_high l) (s ∷ t ∷ a ∷ []) h half u = tt
content-IfUtf8 n (after_high l) (s ∷ t ∷ a ∷ b ∷ []) h half u = tt
content-IfUtf8 n (after_high l) (s ∷ t ∷ a ∷ b ∷ c ∷ []) h half u = tt
content-IfUtf8 zero (after_high l) (s ∷ t ∷ a ∷ b ∷ c ∷ d ∷ xs) h half u = absurd (omega arith)
content-IfUtf8 (suc n) (after_high l) (s ∷ t ∷ a ∷ b ∷ c ∷ d ∷ xs) h half u =
    either ((s == 92) && (t == 117)) _ _
    (λ e.
    let p = and_parts (s == 92) (t == 117) e in
    let behind = tail t (a ∷ b ∷ c ∷ d ∷ xs) (omega (arith, eqb-true t 117 p.1))
    (tail s (t ∷ a ∷ b ∷ c ∷ d ∷ xs) (omega (arith, eqb-true s 92 p.0)) u) in
    then (IsUnit a b c d) _ (code_unit a b c d) (is-unit a b c d)
    (λ v is. either (is_low_surrogate v) _ _
    (λ low. longer (encode_utf8 (surrogate_pair l v)) _ (IsUtf8-encode (surrogate_pair l v) (pair-scalar l v half low))
    (content-IfUtf8 n plain xs (omega arith) tt (behind-unit a b c d v xs is behind)))
    (λ _. tt)))
    (λ _. tt)

pub string-IfUtf8 : (xs : List ℕ) → IsUtf8 xs → IfUtf8 (content plain xs)
string-IfUtf8 xs u = content-IfUtf8 (length xs) plain xs (omega arith) tt u
