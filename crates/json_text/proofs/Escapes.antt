-- What is written for a string's content is no longer than what the lexer passes of it.
use Rattle.std.proofs.Common.{◌≡◌, ℕ, ◌+◌, ◌%◌, ◌/◌, ◌≤◌, Bool, true, false, cond, ◌&&◌, ◌||◌, ◌==◌, nat_lt, List, [], ◌∷◌, ◌++◌, length, Option, Some, None, option_and_then, inl, inr, refl, sym, ap, ◌∙◌, subst, arith}
use Rattle.std.proofs.lemmas.Bool.{false≢true, eqb-true, ne_eqb, and_parts, or_cases, ltb-false, le-ltb}
use Rattle.std.proofs.lemmas.List.{length-append}
use Rattle.std.proofs.lemmas.Grind.{flat_map-append}
use Rattle.std.specs.Prelude.{⊤}
use Rattle.std.specs.Char.{is_digit, encode_utf8, digit_char}
use Rattle.json.specs.Text.{code_unit, short_escape, is_high_surrogate, is_low_surrogate, surrogate_pair, Within, plain, after_backslash, after_u, after_high, prepend, content}
use Rattle.json.specs.Word.{is_operator, is_space}
use Rattle.json.specs.Lex.{Class, quote, backslash, operator, space, other, class, Mode, between, in_word, in_string, in_escape}
use Rattle.json.specs.Print.{escape_letter, escape_byte, escape}

-- how many bytes the lexer passes in a mode before the next lexeme may begin
abbrev pub passed_byte : Mode → Class → (Mode → ℕ) → ℕ
passed_byte between c k = 0
passed_byte in_word quote k = 1 + k in_word
passed_byte in_word backslash k = 1 + k in_word
passed_byte in_word operator k = 0
passed_byte in_word space k = 0
passed_byte in_word other k = 1 + k in_word
passed_byte in_string quote k = 1
passed_byte in_string backslash k = 1 + k in_escape
passed_byte in_string operator k = 1 + k in_string
passed_byte in_string space k = 1 + k in_string
passed_byte in_string other k = 1 + k in_string
passed_byte in_escape c k = 1 + k in_string

abbrev pub passed : Mode → List ℕ → ℕ
passed m [] = 0
passed m (x ∷ xs) = passed_byte m (class x) (λ next. passed next xs)

-- ---- one byte

chosen : (n : ℕ) (t : Bool) (xs ys : List ℕ) → (t ≡ true → length xs ≤ n) → (t ≡ false → length ys ≤ n)
    → length (cond t xs ys) ≤ n
chosen n true xs ys f g = f refl
chosen n false xs ys f g = g refl

six : (x : ℕ) → length (escape_byte x) ≤ 6
unfolding escape_byte
six x = chosen 6 (nat_lt 0 (escape_letter x)) (92 ∷ escape_letter x ∷ []) _ (λ _. omega arith)
    (λ _. chosen 6 (nat_lt x 32) (92 ∷ 117 ∷ 48 ∷ 48 ∷ digit_char (x / 16) ∷ digit_char (x % 16) ∷ [])
    (x ∷ []) (λ _. omega arith) (λ _. omega arith))

no_letter : (x : ℕ) → 32 ≤ x → (x == 34) ≡ false → (x == 92) ≡ false → escape_letter x ≡ 0
no_letter x h q b =
    rw (
      q,
      b,
      ne_eqb x 8 (λ e. omega arith),
      ne_eqb x 12 (λ e. omega arith),
      ne_eqb x 10 (λ e. omega arith),
      ne_eqb x 13 (λ e. omega arith),
      ne_eqb x 9 (λ e. omega arith),
    ) refl

own : (x : ℕ) → 32 ≤ x → (x == 34) ≡ false → (x == 92) ≡ false → length (escape_byte x) ≤ 1
unfolding escape_byte
own x h q b =
    let wide : nat_lt x 32 ≡ false = le-ltb x 32 h in
    rw (no_letter x h q b, wide) (omega arith)

ascii : (x : ℕ) → 128 ≤ x → length (escape_byte x) ≤ 1
ascii x h = own x (omega arith) (ne_eqb x 34 (λ e. omega arith)) (ne_eqb x 92 (λ e. omega arith))

-- ---- what an escape stands for

-- what is there, if anything is, has this
abbrev IfAny : (ℕ → Type 0) → Option ℕ → Type 0
IfAny P None = ⊤
IfAny P (Some u) = P u

IfAny-cond : (P : ℕ → Type 0) (t : Bool) (x y : Option ℕ) → (t ≡ true → IfAny P x) → (t ≡ false → IfAny P y)
    → IfAny P (cond t x y)
IfAny-cond P true x y f g = f refl
IfAny-cond P false x y f g = g refl

abbrev IsShortEscaped : ℕ → Type 0
IsShortEscaped c = length (escape_byte c) ≤ 2

at : (x c : ℕ) → IsShortEscaped c → (x == c) ≡ true → IsShortEscaped x
at x c h e = subst IsShortEscaped (sym (eqb-true x c e)) h

own_letter : (x : ℕ) → ((x == 34) || (x == 92) || (x == 47)) ≡ true → IsShortEscaped x
unfolding escape_byte
own_letter x h =
    elim (or_cases ((x == 34) || (x == 92)) (x == 47) h) [
      | inl first ↦ elim (or_cases (x == 34) (x == 92) first) [
        | inl e ↦ at x 34 (omega arith) e
        | inr e ↦ at x 92 (omega arith) e
      ]
      | inr e ↦ at x 47 (omega arith) e
    ]

two : (x : ℕ) → IfAny IsShortEscaped (short_escape x)
unfolding short_escape escape_byte
two x =
    IfAny-cond IsShortEscaped ((x == 34) || (x == 92) || (x == 47)) (Some x) _ (own_letter x)
    (λ _. IfAny-cond IsShortEscaped (x == 98) (Some 8) _ (λ _. omega arith)
    (λ _. IfAny-cond IsShortEscaped (x == 102) (Some 12) _ (λ _. omega arith)
    (λ _. IfAny-cond IsShortEscaped (x == 110) (Some 10) _ (λ _. omega arith)
    (λ _. IfAny-cond IsShortEscaped (x == 114) (Some 13) _ (λ _. omega arith)
    (λ _. IfAny-cond IsShortEscaped (x == 116) (Some 9) None (λ _. omega arith) (λ _. tt))))))

escape-cons : (x : ℕ) (xs : List ℕ) (m n : ℕ) → length (escape_byte x) ≤ m → length (escape xs) ≤ n
    → length (escape (x ∷ xs)) ≤ m + n
escape-cons x xs m n h k = omega (arith, length-append (escape_byte x) (escape xs))

wide : (xs : List ℕ) (t : Bool) (ys : List ℕ) → (t ≡ true → length (escape xs) ≤ 6)
    → (t ≡ false → length (escape ys) ≤ 6) → length (escape (cond t xs ys)) ≤ 6
wide xs true ys f g = f refl
wide xs false ys f g = g refl

encoded : (u : ℕ) → length (escape (encode_utf8 u)) ≤ 6
unfolding encode_utf8
encoded u =
    let one = (128 + u % 64) ∷ [] in
    let two = (128 + u / 64 % 64) ∷ one in
    let three = (128 + u / 4096 % 64) ∷ two in
    let last : length (escape one) ≤ 1 + 0 =
    escape-cons (128 + u % 64) [] 1 0 (ascii (128 + u % 64) (omega arith)) (omega arith) in
    let middle : length (escape two) ≤ 1 + (1 + 0) =
    escape-cons (128 + u / 64 % 64) one 1 (1 + 0) (ascii (128 + u / 64 % 64) (omega arith)) last in
    let second : length (escape three) ≤ 1 + (1 + (1 + 0)) =
    escape-cons (128 + u / 4096 % 64) two 1 (1 + (1 + 0)) (ascii (128 + u / 4096 % 64) (omega arith)) middle in
    wide (u ∷ []) (nat_lt u 128) _ (λ _. omega (arith, escape-cons u [] 6 0 (six u) (omega arith)))
    (λ _. wide ((192 + u / 64) ∷ one) (nat_lt u 2048) _
    (λ _. omega (arith, escape-cons (192 + u / 64) one 1 (1 + 0) (ascii (192 + u / 64) (omega arith)) last))
    (λ _. wide ((224 + u / 4096) ∷ two) (nat_lt u 65536) ((240 + u / 262144) ∷ three) (λ _. omega (
      arith,
      escape-cons (224 + u / 4096) two 1 (1 + (1 + 0)) (ascii (224 + u / 4096) (omega arith)) middle,
    ))
    (λ _. omega (
      arith,
      escape-cons (240 + u / 262144) three 1 (1 + (1 + (1 + 0))) (ascii (240 + u / 262144) (omega arith)) second,
    ))))

-- ---- what the lexer passes

passes : (o s : Bool) (k : Mode → ℕ) → passed_byte in_string (cond o operator (cond s space other)) k ≡ 1 + k in_string
passes true s k = refl
passes false true k = refl
passes false false k = refl

passed-plain : (x : ℕ) (xs : List ℕ) → (x == 34) ≡ false → (x == 92) ≡ false
    → passed in_string (x ∷ xs) ≡ 1 + passed in_string xs
passed-plain x xs q b =
    (λ i. passed_byte in_string
    (cond (q i) quote (cond (b i) backslash (cond (is_operator x) operator (cond (is_space x) space other))))
    (λ n. passed n xs))
    ∙ passes (is_operator x) (is_space x) (λ n. passed n xs)

passed-quote : (x : ℕ) (xs : List ℕ) → (x == 34) ≡ true → passed in_string (x ∷ xs) ≡ 1
passed-quote x xs q = ap (λ y. passed in_string (y ∷ xs)) (eqb-true x 34 q)

passed-backslash : (x : ℕ) (xs : List ℕ) → (x == 92) ≡ true → passed in_string (x ∷ xs) ≡ 1 + passed in_escape xs
passed-backslash x xs b = ap (λ y. passed in_string (y ∷ xs)) (eqb-true x 92 b)

not_this : (c x : ℕ) (t : Bool) → (t ≡ true → x ≡ c) → is_digit c 16 ≡ false → is_digit x 16 ≡ true → t ≡ false
not_this c x false e never h = refl
not_this c x true e never h = absurd (false≢true (sym never ∙ ap (λ y. is_digit y 16) (sym (e refl)) ∙ h))

passed-hex : (x : ℕ) (xs : List ℕ) → is_digit x 16 ≡ true → passed in_string (x ∷ xs) ≡ 1 + passed in_string xs
passed-hex x xs h =
    passed-plain x xs (not_this 34 x (x == 34) (eqb-true x 34) refl h) (not_this 92 x (x == 92) (eqb-true x 92) refl h)

-- four hex digits are passed
abbrev PassesUnit : ℕ → ℕ → ℕ → ℕ → List ℕ → Type 0
PassesUnit a b c d xs = passed in_string (a ∷ b ∷ c ∷ d ∷ xs) ≡ 4 + passed in_string xs

passed-unit : (a b c d : ℕ) (xs : List ℕ) → IfAny (λ u. PassesUnit a b c d xs) (code_unit a b c d)
unfolding code_unit
passed-unit a b c d xs =
    IfAny-cond (λ u. PassesUnit a b c d xs) (is_digit a 16 && is_digit b 16 && is_digit c 16 && is_digit d 16)
    (Some _) None
    (λ h.
    let p = and_parts (is_digit a 16 && is_digit b 16 && is_digit c 16) (is_digit d 16) h in
    let q = and_parts (is_digit a 16 && is_digit b 16) (is_digit c 16) p.0 in
    let r = and_parts (is_digit a 16) (is_digit b 16) q.0 in
    omega (
      arith,
      passed-hex a (b ∷ c ∷ d ∷ xs) r.0,
      passed-hex b (c ∷ d ∷ xs) r.1,
      passed-hex c (d ∷ xs) q.1,
      passed-hex d xs p.1,
    ))
    (λ _. tt)

-- ---- the content up to the closing quote

-- what is there, with that quote, is written in n bytes
abbrev pub AtMost : ℕ → Option (List ℕ) → Type 0
AtMost n None = ⊤
AtMost n (Some s) = length (escape s) + 1 ≤ n

abbrev mode : Within → Mode
mode plain = in_string
mode after_backslash = in_escape
mode after_u = in_string
mode (after_high h) = in_string

-- what was passed of the escape before
abbrev begun : Within → ℕ
begun plain = 0
begun after_backslash = 1
begun after_u = 2
begun (after_high h) = 6

either : (n : ℕ) (t : Bool) (x y : Option (List ℕ)) → (t ≡ true → AtMost n x) → (t ≡ false → AtMost n y)
    → AtMost n (cond t x y)
either n true x y f g = f refl
either n false x y f g = g refl

then : (n : ℕ) (P : ℕ → Type 0) (f : ℕ → Option (List ℕ)) (o : Option ℕ) → IfAny P o
    → ((u : ℕ) → P u → AtMost n (f u)) → AtMost n (option_and_then f o)
then n P f None h k = tt
then n P f (Some u) h k = k u h

more : (n m : ℕ) (r : Option (List ℕ)) → AtMost m r → m ≤ n → AtMost n r
more n m None h le = tt
more n m (Some s) h le = omega arith

longer : (n m k : ℕ) (a : List ℕ) (r : Option (List ℕ)) → AtMost m r → length (escape a) ≤ k → k + m ≤ n
    → AtMost n (prepend a r)
longer n m k a None h short le = tt
longer n m k a (Some s) h short le =
    let e : length (escape (a ++ s)) ≡ length (escape a ++ escape s) = ap length (flat_map-append escape_byte a s) in
    omega (arith, e, length-append (escape a) (escape s))

alone : (x k : ℕ) → length (escape_byte x) ≤ k → length (escape (x ∷ [])) ≤ k
alone x k h = omega (arith, escape-cons x [] k 0 h (omega arith))

content-passed : (w : Within) (xs : List ℕ) → AtMost (begun w + passed (mode w) xs) (content w xs)
unfolding content
content-passed plain [] = tt
content-passed plain (x ∷ xs) =
    let n = passed in_string (x ∷ xs) in
    either (0 + n) (x == 34) _ _ (λ q. omega (arith, passed-quote x xs q))
    (λ q. either (0 + n) (x == 92) _ _
    (λ b. more (0 + n) _ _ (content-passed after_backslash xs) (omega (arith, passed-backslash x xs b)))
    (λ b. either (0 + n) (nat_lt x 32) _ _ (λ l. tt)
    (λ l. longer (0 + n) _ 1 (x ∷ []) _ (content-passed plain xs) (alone x 1 (own x (ltb-false x 32 l) q b))
    (omega (arith, passed-plain x xs q b)))))
content-passed after_backslash [] = tt
content-passed after_backslash (x ∷ xs) =
    let n = passed in_escape (x ∷ xs) in
    either (1 + n) (x == 117) _ _ (λ u. more (1 + n) _ _ (content-passed after_u xs) (omega arith))
    (λ u. then (1 + n) IsShortEscaped _ (short_escape x) (two x)
    (λ c h. longer (1 + n) _ 2 (c ∷ []) _ (content-passed plain xs) (alone c 2 h) (omega arith)))
content-passed after_u [] = tt
content-passed after_u (a ∷ []) = tt
content-passed after_u (a ∷ b ∷ []) = tt
content-passed after_u (a ∷ b ∷ c ∷ []) = tt
content-passed after_u (a ∷ b ∷ c ∷ d ∷ xs) =
    let n = passed in_string (a ∷ b ∷ c ∷ d ∷ xs) in
    then (2 + n) (λ u. PassesUnit a b c d xs) _ (code_unit a b c d) (passed-unit a b c d xs)
    (λ u is. either (2 + n) (is_high_surrogate u) _ _
    (λ h. more (2 + n) _ _ (content-passed (after_high u) xs) (omega (arith, is)))
    (λ h. either (2 + n) (is_low_surrogate u) _ _ (λ l. tt)
    (λ l. longer (2 + n) _ 6 (encode_utf8 u) _ (content-passed plain xs) (encoded u) (omega (arith, is)))))
content-passed (after_high h) [] = tt
content-passed (after_high h) (s ∷ []) = tt
content-passed (after_high h) (s ∷ u ∷ []) = tt
content-passed (after_high h) (s ∷ u ∷ a ∷ []) = tt
content-passed (after_high h) (s ∷ u ∷ a ∷ b ∷ []) = tt
content-passed (after_high h) (s ∷ u ∷ a ∷ b ∷ c ∷ []) = tt
content-passed (after_high h) (s ∷ u ∷ a ∷ b ∷ c ∷ d ∷ xs) =
    let n = passed in_string (s ∷ u ∷ a ∷ b ∷ c ∷ d ∷ xs) in
    either (6 + n) ((s == 92) && (u == 117)) _ _
    (λ e. then (6 + n) (λ v. PassesUnit a b c d xs) _ (code_unit a b c d) (passed-unit a b c d xs)
    (λ l is. either (6 + n) (is_low_surrogate l) _ _
    (λ y.
    longer (6 + n) _ 6 (encode_utf8 (surrogate_pair h l)) _ (content-passed plain xs) (encoded (surrogate_pair h l))
    (omega (arith, passed-backslash s (u ∷ a ∷ b ∷ c ∷ d ∷ xs) (and_parts _ _ e).0, is)))
    (λ y. tt)))
    (λ e. tt)

pub plain-passed : (xs : List ℕ) → AtMost (passed in_string xs) (content plain xs)
plain-passed xs =
    more (passed in_string xs) (0 + passed in_string xs) (content plain xs) (content-passed plain xs) (omega arith)
