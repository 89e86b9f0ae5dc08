-- The text of a value is no longer than the JSON that it is read as.
use Rattle.std.proofs.Common.{◌≡◌, ℕ, ◌+◌, ◌≤◌, Bool, true, false, List, [], ◌∷◌, ◌++◌, length, Option, Some, None, option_map, option_and_then, Ordering, Less, Equal, Greater, nat_cmp, refl, subst, arith}
use Rattle.std.proofs.lemmas.List.{length-append}
use Rattle.std.specs.Prelude.{⊤}
use Rattle.std.specs.Cmp.Lexicographic.{slice_cmp}
use Rattle.std.specs.Ordering.{match_ordering}
use Rattle.json.specs.Lex.{tokens}
use Rattle.json.specs.Json as json
use Rattle.json.specs.Print.{escape, quoted}
use Rattle.serde_json.specs.Data.{Num, Data, number, array, object, Items, item, Members, no_members, member, put}
use Rattle.serde_json.specs.Read.{number_of, of_json, of_items, of_members, max_depth, read}
use Rattle.serde_json.specs.Written.{comma_if, compact_text, items_text, members_text}
use Rattle.json_text.proofs.Lexemes.{comma_length, written_length, written-tokens}
use Rattle.json_text.proofs.Values.{json_length, items_length, members_length, value-written}
use Rattle.json_text.proofs.Values as values
use Rattle.json_text.proofs.Numbers.{number-fits}
use Rattle.json_text.proofs.Numbers as numbers

-- ---- lengths of texts

length-quoted : (s : List ℕ) → length (quoted s) ≡ length (escape s) + 2
length-quoted s = omega (arith, length-append (escape s) (34 ∷ []))

length-comma : (later : Bool) → length (comma_if later) ≡ comma_length later
length-comma true = refl
length-comma false = refl

length-item : (later : Bool) (d : Data) (ds : Items)
    → length (items_text later (item d ds)) ≡ comma_length later + length (compact_text d) + length (items_text true ds)
length-item later d ds = omega (
  arith,
  length-append (comma_if later) (compact_text d ++ items_text true ds),
  length-append (compact_text d) (items_text true ds),
  length-comma later,
)

length-member : (later : Bool) (k : List ℕ) (d : Data) (ms : Members)
    → length (members_text later (member k d ms))
    ≡ comma_length later + (length (escape k) + 3) + length (compact_text d) + length (members_text true ms)
length-member later k d ms =
    let rest = compact_text d ++ members_text true ms in
    omega (
      arith,
      length-append (comma_if later) (quoted k ++ 58 ∷ rest),
      length-append (quoted k) (58 ∷ rest),
      length-append (compact_text d) (members_text true ms),
      length-comma later,
      length-quoted k,
    )

-- ---- members, put one after another

chosen : (n : ℕ) (later : Bool) (o : Ordering) (a b c : Members) → length (members_text later a) ≤ n
    → length (members_text later b) ≤ n → length (members_text later c) ≤ n
    → length (members_text later (match_ordering o a b c)) ≤ n
chosen n later Less a b c x y z = x
chosen n later Equal a b c x y z = y
chosen n later Greater a b c x y z = z

-- whether a comma stands before a member that is put
abbrev is_some_member : Members → Bool
is_some_member no_members = false
is_some_member (member k d ms) = true

put-behind : (k : List ℕ) (d : Data) (ms : Members)
    → length (members_text true (put k d ms))
    ≤ length (members_text true ms) + (1 + (length (escape k) + 3) + length (compact_text d))
put-behind k d no_members = omega (arith, length-member true k d no_members)
put-behind k d (member l e ms) =
    chosen _ true (slice_cmp nat_cmp k l) (member k d (member l e ms)) (member l d ms) (member l e (put k d ms))
    (omega (arith, length-member true k d (member l e ms)))
    (omega (arith, length-member true l d ms, length-member true l e ms))
    (omega (arith, length-member true l e (put k d ms), length-member true l e ms, put-behind k d ms))

put-first : (k : List ℕ) (d : Data) (ms : Members)
    → length (members_text false (put k d ms))
    ≤ length (members_text false ms)
    + (comma_length (is_some_member ms) + (length (escape k) + 3) + length (compact_text d))
put-first k d no_members = omega (arith, length-member false k d no_members)
put-first k d (member l e ms) =
    chosen _ false (slice_cmp nat_cmp k l) (member k d (member l e ms)) (member l d ms) (member l e (put k d ms))
    (omega (arith, length-member false k d (member l e ms), length-member true l e ms, length-member false l e ms))
    (omega (arith, length-member false l d ms, length-member false l e ms))
    (omega (arith, length-member false l e (put k d ms), length-member false l e ms, put-behind k d ms))

put-some : (k : List ℕ) (d : Data) (ms : Members) → is_some_member (put k d ms) ≡ true
put-some k d no_members = refl
put-some k d (member l e ms) = some (slice_cmp nat_cmp k l)
  where
    some : (o : Ordering)
        → is_some_member (match_ordering o (member k d (member l e ms)) (member l d ms) (member l e (put k d ms)))
        ≡ true
    some Less = refl
    some Equal = refl
    some Greater = refl

-- ---- from JSON to data

abbrev AtMost : {A : Type 0} → (A → ℕ) → ℕ → Option A → Type 0
AtMost f n None = ⊤
AtMost f n (Some a) = f a ≤ n

mapped : {A B : Type 0} (f : A → ℕ) (g : B → ℕ) (m n : ℕ) (h : A → B) → ((a : A) → f a ≤ m → g (h a) ≤ n)
    → (o : Option A) → AtMost f m o → AtMost g n (option_map h o)
mapped f g m n h k None x = tt
mapped f g m n h k (Some a) x = k a x

and_then : {A B : Type 0} (f : A → ℕ) (g : B → ℕ) (m n : ℕ) (h : A → Option B)
    → ((a : A) → f a ≤ m → AtMost g n (h a)) → (o : Option A) → AtMost f m o → AtMost g n (option_and_then h o)
and_then f g m n h k None x = tt
and_then f g m n h k (Some a) x = k a x

more : {A : Type 0} (f : A → ℕ) (m n : ℕ) → m ≤ n → (o : Option A) → AtMost f m o → AtMost f n o
more f m n h None x = tt
more f m n h (Some a) x = omega arith

abbrev text_length : Data → ℕ
text_length d = length (compact_text d)

number-length : (s : List ℕ) (o : Option Num) → numbers.FitsIn (length s) o
    → AtMost text_length (length s) (option_map number o)
number-length s None h = tt
number-length s (Some n) h = h

mutual
  of_json-length : (j : json.Json) → AtMost text_length (json_length j) (of_json j)
  of_json-length json.null = omega arith
  of_json-length (json.boolean b) = omega arith
  of_json-length (json.number s) = number-length s (number_of s) (number-fits s)
  of_json-length (json.string s) = omega (arith, length-quoted s)
  of_json-length (json.array js) = mapped (λ ds. length (items_text false ds)) text_length (items_length false js)
      (1 + items_length false js) array (λ ds h. omega arith) (of_items js) (of_items-length false js)
  of_json-length (json.object ms) =
      mapped (λ ds. length (members_text false ds) + 1) text_length (1 + members_length false ms)
      (1 + members_length false ms) object (λ ds h. omega arith) (of_members ms no_members)
      (of_members-length ms no_members)

  of_items-length : (later : Bool) (js : json.Items)
      → AtMost (λ ds. length (items_text later ds)) (items_length later js) (of_items js)
  of_items-length later json.no_items = omega arith
  of_items-length later (json.item j js) =
      and_then text_length (λ ds. length (items_text later ds)) (json_length j)
      (items_length later (json.item j js)) (λ d. option_map (item d) (of_items js))
      (λ d h. mapped (λ ds. length (items_text true ds)) (λ ds. length (items_text later ds))
      (items_length true js) (items_length later (json.item j js)) (item d)
      (λ ds k. omega (arith, length-item later d ds)) (of_items js) (of_items-length true js))
      (of_json j) (of_json-length j)

  of_members-length : (ms : json.Members) (found : Members)
      → AtMost (λ ds. length (members_text false ds) + 1)
      (length (members_text false found) + members_length (is_some_member found) ms) (of_members ms found)
  of_members-length json.no_members found = omega arith
  of_members-length (json.member k j ms) found =
      let n = length (members_text false found) + members_length (is_some_member found) (json.member k j ms) in
      and_then text_length (λ ds. length (members_text false ds) + 1) (json_length j) n
      (λ d. of_members ms (put k d found))
      (λ d h.
      let all : AtMost (λ ds. length (members_text false ds) + 1)
      (length (members_text false (put k d found)) + members_length true ms) (of_members ms (put k d found)) =
      subst (λ (t : Bool). AtMost (λ ds. length (members_text false ds) + 1)
      (length (members_text false (put k d found)) + members_length t ms) (of_members ms (put k d found)))
      (put-some k d found) (of_members-length ms (put k d found)) in
      more (λ ds. length (members_text false ds) + 1)
      (length (members_text false (put k d found)) + members_length true ms) n
      (omega (arith, put-first k d found)) (of_members ms (put k d found)) all)
      (of_json j) (of_json-length j)

-- ---- the whole text

whole : (n : ℕ) (o : Option json.Json) → values.FitsIn n o → AtMost text_length n (option_and_then of_json o)
whole n None h = tt
whole n (Some j) h = more text_length (json_length j) n h (of_json j) (of_json-length j)

pub read-length : (bytes : List ℕ) (d : Data) → read bytes ≡ Some d → length (compact_text d) ≤ length bytes
read-length bytes d e =
    let n = written_length false (tokens bytes) in
    let text : length (compact_text d) ≤ n = subst (AtMost text_length n) e
    (whole n (option_and_then (λ p. json.if_last p.0 p.1) (json.value max_depth (tokens bytes)))
    (value-written max_depth (tokens bytes))) in
    omega (arith, written-tokens bytes)
