-- A value is no longer than the tokens that it is read from.
use Rattle.std.proofs.Common.{ℕ, zero, suc, ◌+◌, ◌≤◌, ◌≡◌, Bool, true, false, List, [], ◌∷◌, length, Option, Some, None, option_and_then, refl, sym, subst, arith}
use Rattle.std.specs.Prelude.{⊤}
use Rattle.json.specs.Token.{Token}
use Rattle.json.specs.Json.{Json, null, boolean, number, string, array, object, Items, no_items, item, Members, no_members, member, Parse, parse_map, after_end_array, read_key, items_step, members_step, items, members, value_with, value, if_last}
use Rattle.json.specs.Print.{token_text, escape}
use Rattle.json.proofs.Grammar.{closed_array, read_key_is}
use Rattle.json_text.proofs.Lexemes.{comma_length, written_length}

-- how long a value is written
abbrev mutual
  pub json_length : Json → ℕ
  json_length null = 4
  json_length (boolean b) = length (token_text (Token.boolean b))
  json_length (number s) = length s
  json_length (string s) = length (escape s) + 2
  json_length (array js) = 1 + items_length false js
  json_length (object ms) = 1 + members_length false ms

  -- with the closing bracket
  pub items_length : Bool → Items → ℕ
  items_length later no_items = 1
  items_length later (item j js) = comma_length later + json_length j + items_length true js

  pub members_length : Bool → Members → ℕ
  members_length later no_members = 1
  members_length later (member k j ms) =
      comma_length later + (length (escape k) + 3) + json_length j + members_length true ms

-- what was read is written in n, with what is left
abbrev AtMost : {A : Type 0} → (A → ℕ) → ℕ → Option (A × List Token) → Type 0
AtMost f n None = ⊤
AtMost f n (Some p) = f p.0 + written_length true p.1 ≤ n

-- whatever a parser reads, after a comma or not, is no longer than its tokens
abbrev Spends : {A : Type 0} → (Bool → A → ℕ) → Parse A → Type 0
Spends f p = (later : Bool) (ts : List Token) → AtMost (f later) (written_length later ts) (p ts)

abbrev value_length : Bool → Json → ℕ
value_length later j = comma_length later + json_length j

mapped : {A B : Type 0} (f : A → ℕ) (g : B → ℕ) (m n : ℕ) (h : A → B)
    → ((a : A) (k : ℕ) → f a + k ≤ m → g (h a) + k ≤ n) → (o : Option (A × List Token)) → AtMost f m o
    → AtMost g n (parse_map h o)
mapped f g m n h le None x = tt
mapped f g m n h le (Some p) x = le p.0 (written_length true p.1) x

-- a value and more behind it
and_more : {B : Type 0} (f : Bool → B → ℕ) (h : Json → B → B) (g : B → ℕ) (later : Bool) (m n : ℕ)
    → ((j : Json) (b : B) (k : ℕ) → f true b + k + (value_length later j) ≤ m → g (h j b) + k ≤ n)
    → (more : Parse B) → Spends f more
    → (o : Option (Json × List Token)) → AtMost (value_length later) m o
    → AtMost g n (option_and_then (λ q. parse_map (h q.0) (more q.1)) o)
and_more f h g later m n le more again None x = tt
and_more f h g later m n le more again (Some q) x =
    mapped (f true) g (written_length true q.1) n (h q.0) (λ b k y. le q.0 b k (omega arith)) (more q.1)
    (again true q.1)

module _ (p : Parse Json) (spends : Spends value_length p) where
  item_turn : (more : Parse Items) → Spends items_length more
      → (later : Bool) (ts : List Token) (o : Option (List Token)) → after_end_array ts ≡ o
      → AtMost (items_length later) (written_length later ts) (items_step p more ts o)
  item_turn more again later ts (Some r) e =
      subst (λ (us : List Token). 1 + written_length true r ≤ written_length later us)
      (sym (closed_array ts r e)) (omega arith)
  item_turn more again later ts None e =
      and_more items_length item (items_length later) later (written_length later ts)
      (written_length later ts) (λ j b k x. omega arith) more again (p ts) (spends later ts)

  Spends-items : (n : ℕ) → Spends items_length (items p n)
  unfolding items
  Spends-items zero later ts = tt
  Spends-items (suc n) later ts = item_turn (items p n) (Spends-items n) later ts (after_end_array ts) refl

  member_turn : (more : Parse Members) → Spends members_length more
      → (later : Bool) (ts : List Token) (o : Option (Option (List ℕ) × List Token)) → read_key ts ≡ o
      → AtMost (members_length later) (written_length later ts) (option_and_then (λ q. members_step p more q.0 q.1) o)
  member_turn more again later ts None e = tt
  member_turn more again later ts (Some (None, s)) e =
      subst (λ (us : List Token). 1 + written_length true s ≤ written_length later us)
      (sym (read_key_is ts None s e)) (omega arith)
  member_turn more again later ts (Some (Some k, s)) e =
      let n = comma_length later + (length (escape k) + 3) + written_length false s in
      let inner : AtMost (members_length later) n (option_and_then (λ q. parse_map (member k q.0) (more q.1)) (p s)) =
      and_more members_length (member k) (members_length later) false (written_length false s) n
      (λ j b x h. omega arith) more again (p s) (spends false s) in
      subst (λ (us : List Token). AtMost (members_length later) (written_length later us)
      (option_and_then (λ q. parse_map (member k q.0) (more q.1)) (p s)))
      (sym (read_key_is ts (Some k) s e)) inner

  Spends-members : (n : ℕ) → Spends members_length (members p n)
  unfolding members
  Spends-members zero later ts = tt
  Spends-members (suc n) later ts = member_turn (members p n) (Spends-members n) later ts (read_key ts) refl

one_level : (a : Parse Items) (o : Parse Members) → Spends items_length a → Spends members_length o
    → Spends value_length (value_with a o)
one_level a o p q later [] = tt
one_level a o p q later (Token.begin_object ∷ ts) =
    mapped (members_length false) (value_length later) (written_length false ts)
    (comma_length later + 1 + written_length false ts) object (λ ms k h. omega arith) (o ts) (q false ts)
one_level a o p q later (Token.end_object ∷ ts) = tt
one_level a o p q later (Token.begin_array ∷ ts) =
    mapped (items_length false) (value_length later) (written_length false ts)
    (comma_length later + 1 + written_length false ts) array (λ js k h. omega arith) (a ts) (p false ts)
one_level a o p q later (Token.end_array ∷ ts) = tt
one_level a o p q later (Token.key s ∷ ts) = tt
one_level a o p q later (Token.string s ∷ ts) = omega arith
one_level a o p q later (Token.number s ∷ ts) = omega arith
one_level a o p q later (Token.boolean b ∷ ts) = omega arith
one_level a o p q later (Token.null ∷ ts) = omega arith
one_level a o p q later (Token.bad ∷ ts) = tt

Spends-value : (d : ℕ) → Spends value_length (value d)
unfolding value
Spends-value zero = one_level (λ ts. None) (λ ts. None) (λ later ts. tt) (λ later ts. tt)
Spends-value (suc d) =
    one_level (λ ts. items (value d) (length ts) ts) (λ ts. members (value d) (length ts) ts)
    (λ later ts. Spends-items (value d) (Spends-value d) (length ts) later ts)
    (λ later ts. Spends-members (value d) (Spends-value d) (length ts) later ts)

-- a value that is the whole of its tokens
abbrev pub FitsIn : ℕ → Option Json → Type 0
FitsIn n None = ⊤
FitsIn n (Some j) = json_length j ≤ n

last : (n : ℕ) (o : Option (Json × List Token)) → AtMost (value_length false) n o
    → FitsIn n (option_and_then (λ p. if_last p.0 p.1) o)
last n None h = tt
last n (Some (j, [])) h = omega arith
last n (Some (j, t ∷ ts)) h = tt

pub value-written : (d : ℕ) (ts : List Token)
    → FitsIn (written_length false ts) (option_and_then (λ p. if_last p.0 p.1) (value d ts))
value-written d ts = last (written_length false ts) (value d ts) (Spends-value d false ts)
