-- A sound value without floats is read back from its text, which is UTF-8.
use Rattle.std.proofs.Common.{◌≡◌, ℕ, suc, ◌≤◌, pos, negsuc, Bool, true, false, List, [], ◌∷◌, ◌++◌, decimal, Option, Some, option_map, option_and_then, IsUtf8, Ordering, Less, Greater, nat_cmp, refl, sym, ap, ap₂, ◌∙◌, arith, append-nil, max}
use Rattle.std.proofs.lemmas.Bool.{or_parts}
use Rattle.std.proofs.lemmas.Cmp.{nat_list_cmp_total}
use Rattle.std.proofs.lemmas.Fmt.{decimal_is_IsNumeral, IsAscii-from_digits}
use Rattle.std.proofs.lemmas.Str.{IsUtf8-append, IsUtf8-nil, IsUtf8-from_ascii, IsUtf8-from_is_utf8, is_utf8-from_IsUtf8}
use Rattle.std.specs.Prelude.{⊤}
use Rattle.std.specs.Str.{is_utf8}
use Rattle.std.specs.Cmp.Lexicographic.{slice_cmp}
use Rattle.std.specs.Ordering.{match_ordering, ordering_reverse}
use Rattle.json.specs.Token.{Token}
use Rattle.json.specs.Lex.{tokens}
use Rattle.json.specs.Json as json
use Rattle.json.specs.Print.{quoted, token_text}
use Rattle.json.specs.Tree as tree
use Rattle.json.proofs.Printed.Decimals.{IsNumber-decimal, IsNumber-signed_decimal}
use Rattle.json.proofs.Printed.Tokens.{tokens-print}
use Rattle.json.proofs.Printed.Trees.{value-json_tokens, ArePrintable-json_tokens}
use Rattle.json.proofs.Printed.Utf8.{IsUtf8-quoted, IsUtf8-boolean, IsUtf8-are_ascii}
use Rattle.serde_json.specs.Data.{Num, unsigned, negative, float, Data, null, boolean, number, string, array, object, Items, no_items, item, Members, no_members, member, put, depth, items_depth, members_depth}
use Rattle.serde_json.specs.Find.{is_float}
use Rattle.serde_json.specs.Read.{number_of, of_json, of_items, of_members, max_depth, read}
use Rattle.serde_json.specs.Written.{number_text, outline, items_outline, members_outline, has_float, items_have_float, members_have_float, comma_if, compact_text, items_text, members_text}
use Rattle.serde_json.proofs.Numbers.{number_of-decimal, number_of-negative}
use Rattle.serde_json.proofs.Nesting.{depth-read}
use Rattle.serde_json.proofs.Texts.{print-outline}
use Rattle.json_text.proofs.Kept.{read-IsSound}
use Rattle.json_text.proofs.Sound.{IsInRange, IsBefore, AreSorted, IsSound, AreSound, MembersAreSound}

-- ---- members in order

-- the members of one object, and then those of another
abbrev joined : Members → Members → Members
joined no_members ms = ms
joined (member k d found) ms = member k d (joined found ms)

-- a name comes behind all of these
abbrev IsBehind : Members → List ℕ → Type 0
IsBehind no_members k = ⊤
IsBehind (member l d found) k = (slice_cmp nat_cmp k l ≡ Greater) × IsBehind found k

abbrev AreBehind : Members → Members → Type 0
AreBehind found no_members = ⊤
AreBehind found (member k d ms) = IsBehind found k × AreBehind found ms

put-joined : (k : List ℕ) (d : Data) (found : Members) → IsBehind found k
    → put k d found ≡ joined found (member k d no_members)
put-joined k d no_members h = refl
put-joined k d (member l e found) h =
    ap (λ (o : Ordering).
    match_ordering o (member k d (member l e found)) (member l d found) (member l e (put k d found)))
    h.0
    ∙ ap (member l e) (put-joined k d found h.1)

joined-joined : (found : Members) (k : List ℕ) (d : Data) (ms : Members)
    → joined (joined found (member k d no_members)) ms ≡ joined found (member k d ms)
joined-joined no_members k d ms = refl
joined-joined (member l e found) k d ms = ap (member l e) (joined-joined found k d ms)

joined-none : (found : Members) → joined found no_members ≡ found
joined-none no_members = refl
joined-none (member k d found) = ap (member k d) (joined-none found)

one-more : (found : Members) (k l : List ℕ) (d : Data) → IsBehind found l → slice_cmp nat_cmp k l ≡ Less
    → IsBehind (joined found (member k d no_members)) l
one-more no_members k l d h e = (nat_list_cmp_total.antisymm l k ∙ ap ordering_reverse e, tt)
one-more (member j f found) k l d h e = (h.0, one-more found k l d h.1 e)

behind-more : (found : Members) (k : List ℕ) (d : Data) (ms : Members) → AreBehind found ms → IsBefore k ms
    → AreBehind (joined found (member k d no_members)) ms
behind-more found k d no_members h b = tt
behind-more found k d (member l e ms) h b = (one-more found k l d h.0 b.0, behind-more found k d ms h.1 b.1)

behind-none : (ms : Members) → AreBehind no_members ms
behind-none no_members = tt
behind-none (member k d ms) = (tt, behind-none ms)

-- ---- the outline is read as the value

number-outline : (n : Num) → IsInRange n → is_float n ≡ false → number_of (number_text n) ≡ Some n
number-outline (unsigned n) h w = number_of-decimal n h
number-outline (negative (pos n)) h w = absurd h
number-outline (negative (negsuc n)) h w = number_of-negative n h
number-outline (float x) h w = absurd cc

mutual
  of_json-outline : (d : Data) → IsSound d → has_float d ≡ false → of_json (outline d) ≡ Some d
  of_json-outline null h w = refl
  of_json-outline (boolean b) h w = refl
  of_json-outline (number n) h w = ap (option_map number) (number-outline n h w)
  of_json-outline (string s) h w = refl
  of_json-outline (array ds) h w = ap (option_map array) (of_items-outline ds h w)
  of_json-outline (object ms) h w = ap (option_map object) (of_members-outline ms no_members h.0 h.1 (behind-none ms) w)

  of_items-outline : (ds : Items) → AreSound ds → items_have_float ds ≡ false → of_items (items_outline ds) ≡ Some ds
  of_items-outline no_items h w = refl
  of_items-outline (item d ds) h w =
      let p = or_parts (has_float d) (items_have_float ds) w in
      ap (option_and_then (λ x. option_map (item x) (of_items (items_outline ds)))) (of_json-outline d h.0 p.0)
      ∙ ap (option_map (item d)) (of_items-outline ds h.1 p.1)

  of_members-outline : (ms found : Members) → MembersAreSound ms → AreSorted ms → AreBehind found ms
      → members_have_float ms ≡ false → of_members (members_outline ms) found ≡ Some (joined found ms)
  of_members-outline no_members found h s b w = ap Some (sym (joined-none found))
  of_members-outline (member k d ms) found h s b w =
      let p = or_parts (has_float d) (members_have_float ms) w in
      let next = joined found (member k d no_members) in
      ap (option_and_then (λ x. of_members (members_outline ms) (put k x found))) (of_json-outline d h.1 p.0)
      ∙ ap (of_members (members_outline ms)) (put-joined k d found b.0)
      ∙ of_members-outline ms next h.2 s.1 (behind-more found k d ms b.1 s.0) p.1
      ∙ ap Some (joined-joined found k d ms)

-- ---- the outline can be written

number-IsNumber : (n : Num) → IsInRange n → is_float n ≡ false → tree.HasNumbers (json.number (number_text n))
number-IsNumber (unsigned n) h w = IsNumber-decimal n h
number-IsNumber (negative (pos n)) h w = absurd h
number-IsNumber (negative (negsuc n)) h w = IsNumber-signed_decimal (negsuc n) h
number-IsNumber (float x) h w = absurd cc

mutual
  outline-HasNumbers : (d : Data) → IsSound d → has_float d ≡ false → tree.HasNumbers (outline d)
  outline-HasNumbers null h w = tt
  outline-HasNumbers (boolean b) h w = tt
  outline-HasNumbers (number n) h w = number-IsNumber n h w
  outline-HasNumbers (string s) h w = tt
  outline-HasNumbers (array ds) h w = items-HaveNumbers ds h w
  outline-HasNumbers (object ms) h w = members-HaveNumbers ms h.0 w

  items-HaveNumbers : (ds : Items) → AreSound ds → items_have_float ds ≡ false
      → tree.ItemsHaveNumbers (items_outline ds)
  items-HaveNumbers no_items h w = tt
  items-HaveNumbers (item d ds) h w = let p = or_parts (has_float d) (items_have_float ds) w in
      (outline-HasNumbers d h.0 p.0, items-HaveNumbers ds h.1 p.1)

  members-HaveNumbers : (ms : Members) → MembersAreSound ms → members_have_float ms ≡ false
      → tree.MembersHaveNumbers (members_outline ms)
  members-HaveNumbers no_members h w = tt
  members-HaveNumbers (member k d ms) h w = let p = or_parts (has_float d) (members_have_float ms) w in
      (outline-HasNumbers d h.1 p.0, members-HaveNumbers ms h.2 p.1)

mutual
  outline-depth : (d : Data) → tree.depth (outline d) ≡ depth d
  outline-depth null = refl
  outline-depth (boolean b) = refl
  outline-depth (number n) = refl
  outline-depth (string s) = refl
  outline-depth (array ds) = ap suc (items_outline-depth ds)
  outline-depth (object ms) = ap suc (members_outline-depth ms)

  items_outline-depth : (ds : Items) → tree.items_depth (items_outline ds) ≡ items_depth ds
  items_outline-depth no_items = refl
  items_outline-depth (item d ds) = ap₂ max (outline-depth d) (items_outline-depth ds)

  members_outline-depth : (ms : Members) → tree.members_depth (members_outline ms) ≡ members_depth ms
  members_outline-depth no_members = refl
  members_outline-depth (member k d ms) = ap₂ max (outline-depth d) (members_outline-depth ms)

-- ---- the text

abbrev whole : Option (json.Json × List Token) → Option Data
whole o = option_and_then of_json (option_and_then (λ p. json.if_last p.0 p.1) o)

text-reads_back : (d : Data) → IsSound d → has_float d ≡ false → depth d ≤ max_depth → read (compact_text d) ≡ Some d
text-reads_back d h w shallow =
    let ts = tree.json_tokens (outline d) in
    let same : tokens (compact_text d) ≡ ts = ap tokens (sym (print-outline d))
    ∙ tokens-print ts (ArePrintable-json_tokens (outline d) (outline-HasNumbers d h w)) in
    ap whole
    (ap (json.value max_depth) (same ∙ sym (append-nil ts))
    ∙ value-json_tokens (outline d) max_depth [] (omega (arith, outline-depth d)))
    ∙ of_json-outline d h w

number-IsUtf8 : (n : Num) → IsInRange n → IsUtf8 (number_text n)
number-IsUtf8 (unsigned n) h =
    IsUtf8-from_ascii (decimal n) (IsAscii-from_digits (decimal n) (decimal_is_IsNumeral n h).0.1)
number-IsUtf8 (negative (pos n)) h = absurd h
number-IsUtf8 (negative (negsuc n)) h =
    IsUtf8-append (45 ∷ []) (decimal (suc n)) (IsUtf8-are_ascii (45 ∷ []) refl)
    (IsUtf8-from_ascii (decimal (suc n))
    (IsAscii-from_digits (decimal (suc n)) (decimal_is_IsNumeral (suc n) (omega arith)).0.1))
number-IsUtf8 (float x) h = IsUtf8-nil

comma-IsUtf8 : (later : Bool) → IsUtf8 (comma_if later)
comma-IsUtf8 true = IsUtf8-are_ascii (44 ∷ []) refl
comma-IsUtf8 false = IsUtf8-nil

mutual
  text-IsUtf8 : (d : Data) → IsSound d → IsUtf8 (compact_text d)
  text-IsUtf8 null h = IsUtf8-are_ascii (token_text Token.null) refl
  text-IsUtf8 (boolean b) h = IsUtf8-boolean b
  text-IsUtf8 (number n) h = number-IsUtf8 n h
  text-IsUtf8 (string s) h = IsUtf8-quoted s h
  text-IsUtf8 (array ds) h =
      IsUtf8-append (91 ∷ []) (items_text false ds) (IsUtf8-are_ascii (91 ∷ []) refl) (items-AreUtf8 false ds h)
  text-IsUtf8 (object ms) h =
      IsUtf8-append (123 ∷ []) (members_text false ms) (IsUtf8-are_ascii (123 ∷ []) refl) (members-AreUtf8 false ms h.0)

  items-AreUtf8 : (later : Bool) (ds : Items) → AreSound ds → IsUtf8 (items_text later ds)
  items-AreUtf8 later no_items h = IsUtf8-are_ascii (93 ∷ []) refl
  items-AreUtf8 later (item d ds) h =
      IsUtf8-append (comma_if later) (compact_text d ++ items_text true ds) (comma-IsUtf8 later)
      (IsUtf8-append (compact_text d) (items_text true ds) (text-IsUtf8 d h.0) (items-AreUtf8 true ds h.1))

  members-AreUtf8 : (later : Bool) (ms : Members) → MembersAreSound ms → IsUtf8 (members_text later ms)
  members-AreUtf8 later no_members h = IsUtf8-are_ascii (125 ∷ []) refl
  members-AreUtf8 later (member k d ms) h =
      let rest = compact_text d ++ members_text true ms in
      IsUtf8-append (comma_if later) (quoted k ++ 58 ∷ rest) (comma-IsUtf8 later)
      (IsUtf8-append (quoted k) (58 ∷ rest) (IsUtf8-quoted k h.0)
      (IsUtf8-append (58 ∷ []) rest (IsUtf8-are_ascii (58 ∷ []) refl)
      (IsUtf8-append (compact_text d) (members_text true ms) (text-IsUtf8 d h.1) (members-AreUtf8 true ms h.2))))

-- what was read without floats is UTF-8 again, and is read again as what it was
pub text-is-read : (d : Data) → IsSound d → has_float d ≡ false → depth d ≤ max_depth
    → (is_utf8 (compact_text d) ≡ true) × (read (compact_text d) ≡ Some d)
text-is-read d h w shallow = (is_utf8-from_IsUtf8 (compact_text d) (text-IsUtf8 d h), text-reads_back d h w shallow)

pub compact-is-read : (bytes : List ℕ) (d : Data) → is_utf8 bytes ≡ true → read bytes ≡ Some d
    → has_float d ≡ false → (is_utf8 (compact_text d) ≡ true) × (read (compact_text d) ≡ Some d)
compact-is-read bytes d u e w =
    text-is-read d (read-IsSound bytes d (IsUtf8-from_is_utf8 bytes u) e) w (depth-read bytes d e)
