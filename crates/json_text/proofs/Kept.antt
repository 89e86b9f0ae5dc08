-- What is read from a UTF-8 text is sound.
use Rattle.std.proofs.Common.{◌≡◌, ℕ, zero, suc, ◌+◌, Bool, true, false, cond, ◌==◌, List, [], ◌∷◌, ◌++◌, length, drop, get_or, Option, Some, None, option_map, option_and_then, IsUtf8, refl, sym, ap, ◌∙◌, subst, arith, append_assoc}
use Rattle.std.proofs.lemmas.Bool.{false≢true, eqb-true}
use Rattle.std.proofs.Math.Seq.{get_or-append_seam}
use Rattle.std.proofs.lemmas.List.{length-append, drop_at}
use Rattle.std.proofs.lemmas.Str.{IsUtf8-drop, IsCharBoundary-after_ascii}
use Rattle.std.specs.Prelude.{⊤}
use Rattle.json.specs.Token.{Token, begin_object, end_object, begin_array, end_array, key, string, number, boolean, null, bad}
use Rattle.json.specs.Text.{content, plain}
use Rattle.json.specs.Word.{is_operator, is_space, head, ends_word, after_number, number_before, word}
use Rattle.json.specs.Lex.{Lexeme, token, comma, colon, Class, quote, backslash, operator, space, other, class, operator_lexeme, string_token, Mode, between, in_word, in_string, in_escape, lex_byte, lex}
use Rattle.json.specs.Lex.{Place, fresh, after_value, after_comma, after_key, begins_colon, may_begin, may_close, if_allowed, place_token, punctuate, tokens}
use Rattle.json.specs.Json as json
use Rattle.json.specs.Json.{Parse, parse_map, after_end_array, read_key, items_step, members_step, items, members, value_with, value, if_last}
use Rattle.json.proofs.Grammar.{closed_array, read_key_is}
use Rattle.serde_json.specs.Data as dat
use Rattle.serde_json.specs.Data.{Data, Num, put}
use Rattle.serde_json.specs.Read.{number_of, of_json, of_items, of_members, max_depth, read}
use Rattle.json_text.proofs.Strings.{IfUtf8, string-IfUtf8}
use Rattle.json_text.proofs.Sound.{IfInRange, IsSound, AreSound, MembersAreSound, AreSorted, number-IfInRange, put-AreSorted, put-AreSound}

-- ---- lexemes

abbrev IsUtf8Token : Token → Type 0
IsUtf8Token begin_object = ⊤
IsUtf8Token end_object = ⊤
IsUtf8Token begin_array = ⊤
IsUtf8Token end_array = ⊤
IsUtf8Token (key s) = IsUtf8 s
IsUtf8Token (string s) = IsUtf8 s
IsUtf8Token (number s) = ⊤
IsUtf8Token (boolean b) = ⊤
IsUtf8Token null = ⊤
IsUtf8Token bad = ⊤

abbrev IsUtf8Lexeme : Lexeme → Type 0
IsUtf8Lexeme (token t) = IsUtf8Token t
IsUtf8Lexeme comma = ⊤
IsUtf8Lexeme colon = ⊤

abbrev AreUtf8Lexemes : List Lexeme → Type 0
AreUtf8Lexemes [] = ⊤
AreUtf8Lexemes (l ∷ ls) = IsUtf8Lexeme l × AreUtf8Lexemes ls

one_of : (P : Token → Type 0) (t : Bool) (x y : Token) → P x → P y → P (cond t x y)
one_of P true x y h k = h
one_of P false x y h k = k

lexeme_of : (t : Bool) (x y : Lexeme) → IsUtf8Lexeme x → IsUtf8Lexeme y → IsUtf8Lexeme (cond t x y)
lexeme_of true x y h k = h
lexeme_of false x y h k = k

numbered : (t : List ℕ) (o : Option (List ℕ)) → IsUtf8Token (number_before t o)
numbered t None = tt
numbered t (Some rest) = one_of IsUtf8Token (ends_word rest) (number _) bad tt tt

word-IsUtf8Token : (t : List ℕ) → IsUtf8Token (word t)
unfolding word
word-IsUtf8Token t =
    one_of IsUtf8Token (head t == 116) _ _ (one_of IsUtf8Token _ (boolean true) bad tt tt)
    (one_of IsUtf8Token (head t == 102) _ _ (one_of IsUtf8Token _ (boolean false) bad tt tt)
    (one_of IsUtf8Token (head t == 110) _ _ (one_of IsUtf8Token _ null bad tt tt) (numbered t (after_number t))))

operator-IsUtf8 : (x : ℕ) → IsUtf8Lexeme (operator_lexeme x)
operator-IsUtf8 x =
    lexeme_of (x == 123) (token begin_object) _ tt
    (lexeme_of (x == 125) (token end_object) _ tt (lexeme_of (x == 91) (token begin_array) _ tt
    (lexeme_of (x == 93) (token end_array) _ tt (lexeme_of (x == 44) comma colon tt tt))))

string-IsUtf8Token : (o : Option (List ℕ)) → IfUtf8 o → IsUtf8Token (string_token o)
string-IsUtf8Token None h = tt
string-IsUtf8Token (Some s) h = h

abbrev is_quote : Class → Bool
is_quote quote = true
is_quote backslash = false
is_quote operator = false
is_quote space = false
is_quote other = false

quoted-only : (q b o s : Bool)
    → is_quote (cond q quote (cond b backslash (cond o operator (cond s space other)))) ≡ true → q ≡ true
quoted-only true b o s e = refl
quoted-only false true o s e = absurd (false≢true e)
quoted-only false false true s e = absurd (false≢true e)
quoted-only false false false true e = absurd (false≢true e)
quoted-only false false false false e = absurd (false≢true e)

-- behind a quote stands UTF-8
behind-quote : (pre xs : List ℕ) (x : ℕ) → class x ≡ quote → IsUtf8 (pre ++ x ∷ xs) → IsUtf8 xs
behind-quote pre xs x e u =
    let is : x ≡ 34 = eqb-true x 34 (quoted-only (x == 34) (x == 92) (is_operator x) (is_space x) (ap is_quote e)) in
    let bs = pre ++ x ∷ xs in
    let at : get_or bs (length pre) 0 ≡ x = get_or-append_seam pre x xs 0 in
    let rest : drop (length pre + 1) bs ≡ xs =
    ap (λ (l : List ℕ). drop (length pre + 1) l) (sym (append_assoc pre (x ∷ []) xs))
    ∙ drop_at (pre ++ x ∷ []) xs (length pre + 1) (omega (arith, length-append pre (x ∷ []))) in
    subst IsUtf8 rest
    (IsUtf8-drop bs (length pre + 1) u
    (IsCharBoundary-after_ascii bs (length pre) u (omega (arith, length-append pre (x ∷ xs))) (omega arith)))

abbrev Lexed : Mode → List ℕ → Type 0
Lexed m xs = AreUtf8Lexemes (lex m xs)

step : (m : Mode) (c : Class) (pre : List ℕ) (x : ℕ) (xs : List ℕ) → class x ≡ c → IsUtf8 (pre ++ x ∷ xs)
    → ((next : Mode) → Lexed next xs) → AreUtf8Lexemes (lex_byte m c x xs (λ next. lex next xs))
step between quote pre x xs e u h =
    (string-IsUtf8Token (content plain xs) (string-IfUtf8 xs (behind-quote pre xs x e u)), h in_string)
step between backslash pre x xs e u h = (tt, h in_word)
step between operator pre x xs e u h = (operator-IsUtf8 x, h between)
step between space pre x xs e u h = h between
step between other pre x xs e u h = (word-IsUtf8Token (x ∷ xs), h in_word)
step in_word quote pre x xs e u h = h in_word
step in_word backslash pre x xs e u h = h in_word
step in_word operator pre x xs e u h = (operator-IsUtf8 x, h between)
step in_word space pre x xs e u h = h between
step in_word other pre x xs e u h = h in_word
step in_string quote pre x xs e u h = h between
step in_string backslash pre x xs e u h = h in_escape
step in_string operator pre x xs e u h = h in_string
step in_string space pre x xs e u h = h in_string
step in_string other pre x xs e u h = h in_string
step in_escape c pre x xs e u h = h in_string

lexed : (m : Mode) (pre xs : List ℕ) → IsUtf8 (pre ++ xs) → Lexed m xs
unfolding lex
lexed m pre [] u = tt
lexed m pre (x ∷ xs) u = step m (class x) pre x xs refl u
    (λ next. lexed next (pre ++ x ∷ []) xs (subst IsUtf8 (sym (append_assoc pre (x ∷ []) xs)) u))

-- ---- tokens

abbrev AreUtf8Tokens : List Token → Type 0
AreUtf8Tokens [] = ⊤
AreUtf8Tokens (t ∷ ts) = IsUtf8Token t × AreUtf8Tokens ts

allowed : (b : Bool) (t : Token) (k : Place → List Token) (next : Place) → IsUtf8Token t
    → ((p : Place) → AreUtf8Tokens (k p)) → AreUtf8Tokens (if_allowed b t k next)
allowed true t k next h each = (h, each next)
allowed false t k next h each = (tt, tt)

placed : (p : Place) (t : Token) (b : Bool) (k : Place → List Token) → IsUtf8Token t
    → ((next : Place) → AreUtf8Tokens (k next)) → AreUtf8Tokens (place_token p t b k)
placed p begin_object b k h each = allowed (may_begin p) begin_object k fresh tt each
placed p end_object b k h each = allowed (may_close p) end_object k after_value tt each
placed p begin_array b k h each = allowed (may_begin p) begin_array k fresh tt each
placed p end_array b k h each = allowed (may_close p) end_array k after_value tt each
placed p (key s) b k h each = (tt, tt)
placed p (string s) true k h each = allowed (may_begin p) (key s) k after_key h each
placed p (string s) false k h each = allowed (may_begin p) (string s) k after_value h each
placed p (number s) b k h each = allowed (may_begin p) (number s) k after_value tt each
placed p (boolean v) b k h each = allowed (may_begin p) (boolean v) k after_value tt each
placed p null b k h each = allowed (may_begin p) null k after_value tt each
placed p bad b k h each = (tt, tt)

punctuated : (p : Place) (ls : List Lexeme) → AreUtf8Lexemes ls → AreUtf8Tokens (punctuate p ls)
unfolding punctuate
punctuated fresh [] h = tt
punctuated after_value [] h = tt
punctuated after_comma [] h = (tt, tt)
punctuated after_key [] h = (tt, tt)
punctuated fresh (token t ∷ ls) h =
    placed fresh t (begins_colon ls) (λ next. punctuate next ls) h.0 (λ next. punctuated next ls h.1)
punctuated after_value (token t ∷ ls) h =
    placed after_value t (begins_colon ls) (λ next. punctuate next ls) h.0 (λ next. punctuated next ls h.1)
punctuated after_comma (token t ∷ ls) h =
    placed after_comma t (begins_colon ls) (λ next. punctuate next ls) h.0 (λ next. punctuated next ls h.1)
punctuated after_key (token t ∷ ls) h =
    placed after_key t (begins_colon ls) (λ next. punctuate next ls) h.0 (λ next. punctuated next ls h.1)
punctuated fresh (comma ∷ ls) h = (tt, tt)
punctuated after_value (comma ∷ ls) h = punctuated after_comma ls h.1
punctuated after_comma (comma ∷ ls) h = (tt, tt)
punctuated after_key (comma ∷ ls) h = (tt, tt)
punctuated fresh (colon ∷ ls) h = (tt, tt)
punctuated after_value (colon ∷ ls) h = (tt, tt)
punctuated after_comma (colon ∷ ls) h = (tt, tt)
punctuated after_key (colon ∷ ls) h = punctuated fresh ls h.1

tokens-AreUtf8 : (bytes : List ℕ) → IsUtf8 bytes → AreUtf8Tokens (tokens bytes)
tokens-AreUtf8 bytes u = punctuated fresh (lex between bytes) (lexed between [] bytes u)

-- ---- values

abbrev mutual
  IsUtf8Json : json.Json → Type 0
  IsUtf8Json json.null = ⊤
  IsUtf8Json (json.boolean b) = ⊤
  IsUtf8Json (json.number s) = ⊤
  IsUtf8Json (json.string s) = IsUtf8 s
  IsUtf8Json (json.array js) = AreUtf8Items js
  IsUtf8Json (json.object ms) = AreUtf8Members ms

  AreUtf8Items : json.Items → Type 0
  AreUtf8Items json.no_items = ⊤
  AreUtf8Items (json.item j js) = IsUtf8Json j × AreUtf8Items js

  AreUtf8Members : json.Members → Type 0
  AreUtf8Members json.no_members = ⊤
  AreUtf8Members (json.member k j ms) = IsUtf8 k × IsUtf8Json j × AreUtf8Members ms

-- what was read is such, and so is what is left
abbrev Read : {A : Type 0} → (A → Type 0) → Option (A × List Token) → Type 0
Read P None = ⊤
Read P (Some p) = P p.0 × AreUtf8Tokens p.1

abbrev Reads : {A : Type 0} → (A → Type 0) → Parse A → Type 0
Reads P p = (ts : List Token) → AreUtf8Tokens ts → Read P (p ts)

mapped : {A B : Type 0} (P : A → Type 0) (Q : B → Type 0) (h : A → B) → ((a : A) → P a → Q (h a))
    → (o : Option (A × List Token)) → Read P o → Read Q (parse_map h o)
mapped P Q h k None x = tt
mapped P Q h k (Some p) x = (k p.0 x.0, x.1)

and_more : {B : Type 0} (P : B → Type 0) (Q : B → Type 0) (h : json.Json → B → B)
    → ((j : json.Json) (b : B) → IsUtf8Json j → P b → Q (h j b)) → (more : Parse B) → Reads P more
    → (o : Option (json.Json × List Token)) → Read IsUtf8Json o
    → Read Q (option_and_then (λ q. parse_map (h q.0) (more q.1)) o)
and_more P Q h k more again None x = tt
and_more P Q h k more again (Some q) x = mapped P Q (h q.0) (λ b y. k q.0 b x.0 y) (more q.1) (again q.1 x.1)

module _ (p : Parse json.Json) (reads : Reads IsUtf8Json p) where
  item_turn : (more : Parse json.Items) → Reads AreUtf8Items more → (ts : List Token) (o : Option (List Token))
      → after_end_array ts ≡ o → AreUtf8Tokens ts → Read AreUtf8Items (items_step p more ts o)
  item_turn more again ts (Some r) e h = let both = subst AreUtf8Tokens (closed_array ts r e) h in (tt, both.1)
  item_turn more again ts None e h =
      and_more AreUtf8Items AreUtf8Items json.item (λ j js x y. (x, y)) more again (p ts) (reads ts h)

  Reads-items : (n : ℕ) → Reads AreUtf8Items (items p n)
  unfolding items
  Reads-items zero ts h = tt
  Reads-items (suc n) ts h = item_turn (items p n) (Reads-items n) ts (after_end_array ts) refl h

  member_turn : (more : Parse json.Members) → Reads AreUtf8Members more
      → (ts : List Token) (o : Option (Option (List ℕ) × List Token)) → read_key ts ≡ o → AreUtf8Tokens ts
      → Read AreUtf8Members (option_and_then (λ q. members_step p more q.0 q.1) o)
  member_turn more again ts None e h = tt
  member_turn more again ts (Some (None, s)) e h =
      let both = subst AreUtf8Tokens (read_key_is ts None s e) h in (tt, both.1)
  member_turn more again ts (Some (Some k, s)) e h =
      let both = subst AreUtf8Tokens (read_key_is ts (Some k) s e) h in
      and_more AreUtf8Members AreUtf8Members (json.member k) (λ j ms x y. (both.0, x, y)) more again (p s)
      (reads s both.1)

  Reads-members : (n : ℕ) → Reads AreUtf8Members (members p n)
  unfolding members
  Reads-members zero ts h = tt
  Reads-members (suc n) ts h = member_turn (members p n) (Reads-members n) ts (read_key ts) refl h

one_level : (a : Parse json.Items) (o : Parse json.Members) → Reads AreUtf8Items a → Reads AreUtf8Members o
    → Reads IsUtf8Json (value_with a o)
one_level a o p q [] h = tt
one_level a o p q (begin_object ∷ ts) h = mapped AreUtf8Members IsUtf8Json json.object (λ ms x. x) (o ts) (q ts h.1)
one_level a o p q (end_object ∷ ts) h = tt
one_level a o p q (begin_array ∷ ts) h = mapped AreUtf8Items IsUtf8Json json.array (λ js x. x) (a ts) (p ts h.1)
one_level a o p q (end_array ∷ ts) h = tt
one_level a o p q (key s ∷ ts) h = tt
one_level a o p q (string s ∷ ts) h = h
one_level a o p q (number s ∷ ts) h = h
one_level a o p q (boolean b ∷ ts) h = h
one_level a o p q (null ∷ ts) h = h
one_level a o p q (bad ∷ ts) h = tt

Reads-value : (d : ℕ) → Reads IsUtf8Json (value d)
unfolding value
Reads-value zero = one_level (λ ts. None) (λ ts. None) (λ ts h. tt) (λ ts h. tt)
Reads-value (suc d) =
    one_level (λ ts. items (value d) (length ts) ts) (λ ts. members (value d) (length ts) ts)
    (λ ts. Reads-items (value d) (Reads-value d) (length ts) ts)
    (λ ts. Reads-members (value d) (Reads-value d) (length ts) ts)

-- ---- from JSON to data

abbrev IfAny : {A : Type 0} → (A → Type 0) → Option A → Type 0
IfAny P None = ⊤
IfAny P (Some a) = P a

turned : {A B : Type 0} (P : A → Type 0) (Q : B → Type 0) (h : A → B) → ((a : A) → P a → Q (h a))
    → (o : Option A) → IfAny P o → IfAny Q (option_map h o)
turned P Q h k None x = tt
turned P Q h k (Some a) x = k a x

and_then : {A B : Type 0} (P : A → Type 0) (Q : B → Type 0) (h : A → Option B)
    → ((a : A) → P a → IfAny Q (h a)) → (o : Option A) → IfAny P o → IfAny Q (option_and_then h o)
and_then P Q h k None x = tt
and_then P Q h k (Some a) x = k a x

number-IsSound : (o : Option Num) → IfInRange o → IfAny IsSound (option_map dat.number o)
number-IsSound None h = tt
number-IsSound (Some n) h = h

abbrev IsSoundObject : dat.Members → Type 0
IsSoundObject ms = MembersAreSound ms × AreSorted ms

mutual
  json-IsSound : (j : json.Json) → IsUtf8Json j → IfAny IsSound (of_json j)
  json-IsSound json.null h = tt
  json-IsSound (json.boolean b) h = tt
  json-IsSound (json.number s) h = number-IsSound (number_of s) (number-IfInRange s)
  json-IsSound (json.string s) h = h
  json-IsSound (json.array js) h = turned AreSound IsSound dat.array (λ ds x. x) (of_items js) (items-AreSound js h)
  json-IsSound (json.object ms) h = turned IsSoundObject IsSound dat.object (λ ds x. x)
      (of_members ms dat.no_members) (members-AreSound ms dat.no_members h (tt, tt))

  items-AreSound : (js : json.Items) → AreUtf8Items js → IfAny AreSound (of_items js)
  items-AreSound json.no_items h = tt
  items-AreSound (json.item j js) h =
      and_then IsSound AreSound (λ d. option_map (dat.item d) (of_items js))
      (λ d x. turned AreSound AreSound (dat.item d) (λ ds y. (x, y)) (of_items js) (items-AreSound js h.1))
      (of_json j) (json-IsSound j h.0)

  members-AreSound : (ms : json.Members) (found : dat.Members) → AreUtf8Members ms → IsSoundObject found
      → IfAny IsSoundObject (of_members ms found)
  members-AreSound json.no_members found h k = k
  members-AreSound (json.member name j ms) found h k =
      and_then IsSound IsSoundObject (λ d. of_members ms (put name d found))
      (λ d x.
      members-AreSound ms (put name d found) h.2 (put-AreSound name d found h.0 x k.0, put-AreSorted name d found k.1))
      (of_json j) (json-IsSound j h.1)

last : (o : Option (json.Json × List Token)) → Read IsUtf8Json o
    → IfAny IsUtf8Json (option_and_then (λ p. if_last p.0 p.1) o)
last None h = tt
last (Some (j, [])) h = h.0
last (Some (j, t ∷ ts)) h = tt

pub read-IsSound : (bytes : List ℕ) (d : Data) → IsUtf8 bytes → read bytes ≡ Some d → IsSound d
read-IsSound bytes d u e =
    let o = value max_depth (tokens bytes) in
    subst (IfAny IsSound) e
    (and_then IsUtf8Json IsSound of_json (λ j x. json-IsSound j x) (option_and_then (λ p. if_last p.0 p.1) o)
    (last o (Reads-value max_depth (tokens bytes) (tokens-AreUtf8 bytes u))))
