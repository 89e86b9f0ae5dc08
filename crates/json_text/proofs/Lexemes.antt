-- The lexemes of a text are no longer than it, and its tokens, written with commas and colons, no longer than those.
use Rattle.std.proofs.Common.{◌≡◌, ℕ, suc, ◌+◌, ◌≤◌, Bool, true, false, cond, ◌==◌, List, [], ◌∷◌, length, Option, Some, None, refl, arith}
use Rattle.std.proofs.lemmas.Bool.{false≢true}
use Rattle.json.specs.Token.{Token, begin_object, end_object, begin_array, end_array, key, string, number, boolean, null, bad}
use Rattle.json.specs.Text.{content, plain}
use Rattle.json.specs.Lex.{Lexeme, token, comma, colon, Class, quote, backslash, operator, space, other, class, operator_lexeme, string_token, Mode, between, in_word, in_string, in_escape, lex_byte, lex}
use Rattle.json.specs.Lex.{Place, fresh, after_value, after_comma, after_key, begins_colon, may_begin, may_close, if_allowed, place_token, punctuate, tokens}
use Rattle.json.specs.Print.{token_text, escape}
use Rattle.json_text.proofs.Escapes.{passed_byte, passed, AtMost, plain-passed}
use Rattle.json_text.proofs.Words.{token_length, word-passed}

-- ---- from bytes to lexemes

abbrev lexeme_length : Lexeme → ℕ
lexeme_length (token t) = token_length t
lexeme_length comma = 1
lexeme_length colon = 1

abbrev lexemes_length : List Lexeme → ℕ
lexemes_length [] = 0
lexemes_length (l ∷ ls) = lexeme_length l + lexemes_length ls

one_of : (t : Bool) (x y : Lexeme) → lexeme_length x ≤ 1 → lexeme_length y ≤ 1 → lexeme_length (cond t x y) ≤ 1
one_of true x y h k = h
one_of false x y h k = k

operator-one : (x : ℕ) → lexeme_length (operator_lexeme x) ≤ 1
operator-one x =
    one_of (x == 123) (token begin_object) _ (omega arith)
    (one_of (x == 125) (token end_object) _ (omega arith) (one_of (x == 91) (token begin_array) _ (omega arith)
    (one_of (x == 93) (token end_array) _ (omega arith) (one_of (x == 44) comma colon (omega arith) (omega arith)))))

string-passed : (n : ℕ) (o : Option (List ℕ)) → AtMost n o → token_length (string_token o) ≤ 1 + n
string-passed n None h = omega arith
string-passed n (Some s) h = omega arith

-- what was read in a mode, and what is passed of the lexeme before it
abbrev Fits : Mode → List ℕ → Type 0
Fits m xs = lexemes_length (lex m xs) + passed m xs ≤ length xs

step : (m : Mode) (c : Class) (x : ℕ) (xs : List ℕ) → ((next : Mode) → Fits next xs)
    → lexemes_length (lex_byte m c x xs (λ next. lex next xs)) + passed_byte m c (λ next. passed next xs)
    ≤ suc (length xs)
step between quote x xs h =
    omega (arith, h in_string, string-passed (passed in_string xs) (content plain xs) (plain-passed xs))
step between backslash x xs h = omega (arith, h in_word)
step between operator x xs h = omega (arith, h between, operator-one x)
step between space x xs h = omega (arith, h between)
step between other x xs h = omega (arith, h in_word, word-passed x xs)
step in_word quote x xs h = omega (arith, h in_word)
step in_word backslash x xs h = omega (arith, h in_word)
step in_word operator x xs h = omega (arith, h between, operator-one x)
step in_word space x xs h = omega (arith, h between)
step in_word other x xs h = omega (arith, h in_word)
step in_string quote x xs h = omega (arith, h between)
step in_string backslash x xs h = omega (arith, h in_escape)
step in_string operator x xs h = omega (arith, h in_string)
step in_string space x xs h = omega (arith, h in_string)
step in_string other x xs h = omega (arith, h in_string)
step in_escape c x xs h = omega (arith, h in_string)

lexed : (m : Mode) (xs : List ℕ) → Fits m xs
unfolding lex
lexed m [] = omega arith
lexed m (x ∷ xs) = step m (class x) x xs (λ next. lexed next xs)

-- ---- from lexemes to tokens

-- a comma, where a value stands before
abbrev pub comma_length : Bool → ℕ
comma_length later = cond later 1 0

-- how long tokens are written, up to a fault
abbrev pub written_length : Bool → List Token → ℕ
written_length later [] = 0
written_length later (begin_object ∷ ts) = comma_length later + 1 + written_length false ts
written_length later (end_object ∷ ts) = 1 + written_length true ts
written_length later (begin_array ∷ ts) = comma_length later + 1 + written_length false ts
written_length later (end_array ∷ ts) = 1 + written_length true ts
written_length later (key s ∷ ts) = comma_length later + (length (escape s) + 3) + written_length false ts
written_length later (string s ∷ ts) = comma_length later + (length (escape s) + 2) + written_length true ts
written_length later (number s ∷ ts) = comma_length later + length s + written_length true ts
written_length later (boolean b ∷ ts) = comma_length later + length (token_text (boolean b)) + written_length true ts
written_length later (null ∷ ts) = comma_length later + 4 + written_length true ts
written_length later (bad ∷ ts) = 0

abbrev follows : Place → Bool
follows fresh = false
follows after_value = true
follows after_comma = true
follows after_key = false

-- a comma that was passed is written with what follows it; the colon that is to come was written with its key
abbrev IsWritten : Place → List Lexeme → Type 0
IsWritten fresh ls = written_length false (punctuate fresh ls) ≤ lexemes_length ls
IsWritten after_value ls = written_length true (punctuate after_value ls) ≤ lexemes_length ls
IsWritten after_comma ls = written_length true (punctuate after_comma ls) ≤ 1 + lexemes_length ls
IsWritten after_key ls = begins_colon ls ≡ true → written_length false (punctuate after_key ls) + 1 ≤ lexemes_length ls

abbrev owed : Place → ℕ
owed fresh = 0
owed after_value = 0
owed after_comma = 1
owed after_key = 0

begins : (p : Place) → may_begin p ≡ true → comma_length (follows p) ≤ owed p
begins fresh e = omega arith
begins after_value e = absurd (false≢true e)
begins after_comma e = omega arith
begins after_key e = absurd (false≢true e)

allowed : (n : ℕ) (b later : Bool) (t : Token) (k : Place → List Token) (next : Place)
    → (b ≡ true → written_length later (t ∷ k next) ≤ n) → written_length later (if_allowed b t k next) ≤ n
allowed n true later t k next h = h refl
allowed n false later t k next h = omega arith

placed : (p : Place) (t : Token) (before_colon : Bool) (ls : List Lexeme) → begins_colon ls ≡ before_colon
    → ((next : Place) → IsWritten next ls)
    → written_length (follows p) (place_token p t before_colon (λ next. punctuate next ls))
    ≤ owed p + token_length t + lexemes_length ls
placed p begin_object b ls e h = allowed _ (may_begin p) (follows p) begin_object
    (λ next. punctuate next ls) fresh (λ m. omega (arith, begins p m, h fresh))
placed p end_object b ls e h = allowed _ (may_close p) (follows p) end_object
    (λ next. punctuate next ls) after_value (λ m. omega (arith, h after_value))
placed p begin_array b ls e h = allowed _ (may_begin p) (follows p) begin_array
    (λ next. punctuate next ls) fresh (λ m. omega (arith, begins p m, h fresh))
placed p end_array b ls e h = allowed _ (may_close p) (follows p) end_array
    (λ next. punctuate next ls) after_value (λ m. omega (arith, h after_value))
placed p (key s) b ls e h = omega arith
placed p (string s) true ls e h = allowed _ (may_begin p) (follows p) (key s)
    (λ next. punctuate next ls) after_key (λ m. omega (arith, begins p m, h after_key e))
placed p (string s) false ls e h = allowed _ (may_begin p) (follows p) (string s)
    (λ next. punctuate next ls) after_value (λ m. omega (arith, begins p m, h after_value))
placed p (number s) b ls e h = allowed _ (may_begin p) (follows p) (number s)
    (λ next. punctuate next ls) after_value (λ m. omega (arith, begins p m, h after_value))
placed p (boolean v) b ls e h = allowed _ (may_begin p) (follows p) (boolean v)
    (λ next. punctuate next ls) after_value (λ m. omega (arith, begins p m, h after_value))
placed p null b ls e h = allowed _ (may_begin p) (follows p) null (λ next. punctuate next ls) after_value
    (λ m. omega (arith, begins p m, h after_value))
placed p bad b ls e h = omega arith

punctuated : (p : Place) (ls : List Lexeme) → IsWritten p ls
unfolding punctuate
punctuated fresh [] = omega arith
punctuated after_value [] = omega arith
punctuated after_comma [] = omega arith
punctuated after_key [] = λ e. absurd (false≢true e)
punctuated fresh (token t ∷ ls) = omega (arith, placed fresh t (begins_colon ls) ls refl (λ next. punctuated next ls))
punctuated after_value (token t ∷ ls) =
    omega (arith, placed after_value t (begins_colon ls) ls refl (λ next. punctuated next ls))
punctuated after_comma (token t ∷ ls) =
    omega (arith, placed after_comma t (begins_colon ls) ls refl (λ next. punctuated next ls))
punctuated after_key (token t ∷ ls) = λ e. absurd (false≢true e)
punctuated fresh (comma ∷ ls) = omega arith
punctuated after_value (comma ∷ ls) = omega (arith, punctuated after_comma ls)
punctuated after_comma (comma ∷ ls) = omega arith
punctuated after_key (comma ∷ ls) = λ e. absurd (false≢true e)
punctuated fresh (colon ∷ ls) = omega arith
punctuated after_value (colon ∷ ls) = omega arith
punctuated after_comma (colon ∷ ls) = omega arith
punctuated after_key (colon ∷ ls) = λ e. omega (arith, punctuated fresh ls)

pub written-tokens : (bytes : List ℕ) → written_length false (tokens bytes) ≤ length bytes
written-tokens bytes = omega (arith, lexed between bytes, punctuated fresh (lex between bytes))
