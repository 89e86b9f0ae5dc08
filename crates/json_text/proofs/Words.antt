-- A number, `true`, `false` or `null` is no longer than what the lexer passes of it.
use Rattle.std.proofs.Common.{◌≡◌, ℕ, suc, ◌+◌, ◌-◌, ◌≤◌, Bool, true, false, cond, ◌&&◌, ◌||◌, ◌==◌, nat_eq, List, [], ◌∷◌, length, take, drop, Option, Some, None, option_and_then, inl, inr, refl, sym, ap, ◌∙◌, subst, arith}
use Rattle.std.proofs.lemmas.Bool.{false≢true, eqb-true, leb-true, ne_eqb, and_parts, or_cases}
use Rattle.std.proofs.lemmas.List.{length-take}
use Rattle.std.specs.Prelude.{⊤}
use Rattle.std.specs.Cmp.Lexicographic.{pointwise}
use Rattle.std.specs.List.{prefix_len, starts_with}
use Rattle.std.specs.Char.{is_ascii_digit}
use Rattle.json.specs.Token.{Token, begin_object, end_object, begin_array, end_array, key, string, number, boolean, null, bad}
use Rattle.json.specs.Word.{head, ends_word, after_digits, after_minus, after_sign, after_whole, after_fraction, after_exponent, after_number, number_before, literal, word}
use Rattle.json.specs.Lex.{Class, quote, backslash, operator, space, other, class, Mode, in_word}
use Rattle.json.specs.Print.{token_text, escape}
use Rattle.json_text.proofs.Escapes.{passed_byte, passed}

-- how long a token is written, by itself and without a colon. What is not read counts nothing
abbrev pub token_length : Token → ℕ
token_length begin_object = 1
token_length end_object = 1
token_length begin_array = 1
token_length end_array = 1
token_length (key s) = length (escape s) + 2
token_length (string s) = length (escape s) + 2
token_length (number s) = length s
token_length (boolean b) = length (token_text (boolean b))
token_length null = 4
token_length bad = 0

-- ---- what the parts of a number pass

-- from one text to what it ends with, bytes of a word were passed
abbrev Skips : List ℕ → List ℕ → Type 0
Skips t r = length t + passed in_word r ≤ length r + passed in_word t

abbrev SkipsTo : List ℕ → Option (List ℕ) → Type 0
SkipsTo t None = ⊤
SkipsTo t (Some r) = Skips t r

further : (t u : List ℕ) (o : Option (List ℕ)) → Skips t u → SkipsTo u o → SkipsTo t o
further t u None h k = tt
further t u (Some r) h k = omega arith

either : (t : List ℕ) (b : Bool) (x y : Option (List ℕ)) → (b ≡ true → SkipsTo t x)
    → (b ≡ false → SkipsTo t y) → SkipsTo t (cond b x y)
either t true x y f g = f refl
either t false x y f g = g refl

then : (t : List ℕ) (f : List ℕ → Option (List ℕ)) → ((u : List ℕ) → SkipsTo u (f u)) → (o : Option (List ℕ))
    → SkipsTo t o → SkipsTo t (option_and_then f o)
then t f g None h = tt
then t f g (Some r) h = further t r (f r) h (g r)

stays : (t : List ℕ) → Skips t t
stays t = omega arith

passed-other : (x : ℕ) (xs : List ℕ) → class x ≡ other → passed in_word (x ∷ xs) ≡ 1 + passed in_word xs
passed-other x xs e = ap (λ (c : Class). passed_byte in_word c (λ n. passed n xs)) e

one : (c : ℕ) (t : List ℕ) → class c ≡ other → (head t == c) ≡ true → Skips t (drop 1 t)
one c [] k e = omega arith
one c (x ∷ xs) k e = omega (arith, passed-other x xs (ap class (eqb-true x c e) ∙ k))

two : (a b : ℕ) (t : List ℕ) → class a ≡ other → class b ≡ other → ((head t == a) || (head t == b)) ≡ true
    → Skips t (drop 1 t)
two a b t p q h = elim (or_cases (head t == a) (head t == b) h) [ inl e ↦ one a t p e | inr e ↦ one b t q e ]

digit-other : (x : ℕ) → is_ascii_digit x ≡ true → class x ≡ other
digit-other x h =
    let p = and_parts _ _ h in
    let least : 48 ≤ x = leb-true 48 x p.0 in
    let greatest : x ≤ 57 = leb-true x 57 p.1 in
    rw (
      ne_eqb x 34 (λ e. omega arith),
      ne_eqb x 92 (λ e. omega arith),
      ne_eqb x 123 (λ e. omega arith),
      ne_eqb x 125 (λ e. omega arith),
      ne_eqb x 91 (λ e. omega arith),
      ne_eqb x 93 (λ e. omega arith),
      ne_eqb x 58 (λ e. omega arith),
      ne_eqb x 44 (λ e. omega arith),
      ne_eqb x 32 (λ e. omega arith),
      ne_eqb x 9 (λ e. omega arith),
      ne_eqb x 10 (λ e. omega arith),
      ne_eqb x 13 (λ e. omega arith),
    ) refl

digit_turn : (x : ℕ) (xs : List ℕ) (d : Bool) → is_ascii_digit x ≡ d → Skips xs (drop (prefix_len is_ascii_digit xs) xs)
    → Skips (x ∷ xs) (drop (cond d (1 + prefix_len is_ascii_digit xs) 0) (x ∷ xs))
digit_turn x xs false e h = omega arith
digit_turn x xs true e h =
    let n : suc (prefix_len is_ascii_digit xs) ≡ 1 + prefix_len is_ascii_digit xs = omega arith in
    subst (λ (k : ℕ). Skips (x ∷ xs) (drop k (x ∷ xs))) n (omega (arith, passed-other x xs (digit-other x e), h))

digit_run : (t : List ℕ) → Skips t (drop (prefix_len is_ascii_digit t) t)
digit_run [] = omega arith
digit_run (x ∷ xs) = digit_turn x xs (is_ascii_digit x) refl (digit_run xs)

digits : (t : List ℕ) → SkipsTo t (after_digits t)
digits t = either t (prefix_len is_ascii_digit t == 0) None _ (λ _. tt) (λ _. digit_run t)

optional : (t : List ℕ) (b : Bool) → (b ≡ true → Skips t (drop 1 t)) → Skips t (cond b (drop 1 t) t)
optional t true f = f refl
optional t false f = stays t

minus : (t : List ℕ) → Skips t (after_minus t)
minus t = optional t (head t == 45) (one 45 t refl)

sign : (t : List ℕ) → Skips t (after_sign t)
sign t = optional t ((head t == 45) || (head t == 43)) (two 45 43 t refl refl)

whole : (t : List ℕ) → SkipsTo t (after_whole t)
whole t = either t (head t == 48) (Some (drop 1 t)) _ (one 48 t refl) (λ _. digits t)

fraction : (t : List ℕ) → SkipsTo t (after_fraction t)
fraction t = either t (head t == 46) _ (Some t)
    (λ e. further t (drop 1 t) _ (one 46 t refl e) (digits (drop 1 t))) (λ _. stays t)

exponent : (t : List ℕ) → SkipsTo t (after_exponent t)
exponent t =
    let u = drop 1 t in
    either t ((head t == 101) || (head t == 69)) _ (Some t)
    (λ e. further t u _ (two 101 69 t refl refl e) (further u (after_sign u) _ (sign u) (digits (after_sign u))))
    (λ _. stays t)

numeral : (t : List ℕ) → SkipsTo t (after_number t)
unfolding after_number
numeral t = let u = after_minus t in
    then t after_exponent exponent _ (then t after_fraction fraction _ (further t u _ (minus t) (whole u)))

-- ---- words

within : (n : ℕ) (b : Bool) (x y : Token) → (b ≡ true → token_length x ≤ n) → (b ≡ false → token_length y ≤ n)
    → token_length (cond b x y) ≤ n
within n true x y f g = f refl
within n false x y f g = g refl

cut : (t : List ℕ) (o : Option (List ℕ)) → SkipsTo t o → token_length (number_before t o) ≤ passed in_word t
cut t None h = omega arith
cut t (Some r) h = within (passed in_word t) (ends_word r) (number (take (length t - length r) t)) bad
    (λ _. omega (arith, length-take (length t - length r) t)) (λ _. omega arith)

-- the letters of a name are passed
abbrev AreOther : List ℕ → Type 0
AreOther [] = ⊤
AreOther (c ∷ cs) = (class c ≡ other) × AreOther cs

named : (name t : List ℕ) → AreOther name → pointwise nat_eq name (take (length name) t) ≡ true
    → length name ≤ passed in_word t
named [] t h e = omega arith
named (c ∷ cs) [] h e = absurd (false≢true e)
named (c ∷ cs) (x ∷ xs) h e =
    let p = and_parts (c == x) _ e in
    omega (arith, passed-other x xs (ap class (sym (eqb-true c x p.0)) ∙ h.0), named cs xs h.1 p.1)

spelled : (name t : List ℕ) (k : Token) → AreOther name → token_length k ≡ length name
    → token_length (literal name k t) ≤ passed in_word t
spelled name t k h is =
    within (passed in_word t) (starts_with nat_eq t name && ends_word (drop (length name) t)) k bad
    (λ e. omega (arith, is, named name t h (and_parts _ _ e).0)) (λ _. omega arith)

any : (t : List ℕ) → token_length (word t) ≤ passed in_word t
unfolding word
any t =
    within (passed in_word t) (head t == 116) _ _
    (λ _. spelled (116 ∷ 114 ∷ 117 ∷ 101 ∷ []) t (boolean true) (refl, (refl, (refl, (refl, tt)))) refl)
    (λ _. within (passed in_word t) (head t == 102) _ _
    (λ _. spelled (102 ∷ 97 ∷ 108 ∷ 115 ∷ 101 ∷ []) t (boolean false) (refl, (refl, (refl, (refl, (refl, tt))))) refl)
    (λ _. within (passed in_word t) (head t == 110) _ _
    (λ _. spelled (110 ∷ 117 ∷ 108 ∷ 108 ∷ []) t null (refl, (refl, (refl, (refl, tt)))) refl)
    (λ _. cut t (after_number t) (numeral t))))

at_most_one : (c : Class) (k : Mode → ℕ) → passed_byte in_word c k ≤ 1 + k in_word
at_most_one quote k = omega arith
at_most_one backslash k = omega arith
at_most_one operator k = omega arith
at_most_one space k = omega arith
at_most_one other k = omega arith

pub word-passed : (x : ℕ) (xs : List ℕ) → token_length (word (x ∷ xs)) ≤ 1 + passed in_word xs
word-passed x xs = omega (arith, any (x ∷ xs), at_most_one (class x) (λ n. passed n xs))
