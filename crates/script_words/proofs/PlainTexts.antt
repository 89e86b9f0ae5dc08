-- Words of plain bytes.
use Rattle.std.proofs.Common.{◌≡◌, ℕ, ◌+◌, ◌^◌, ◌≤◌, ◌<◌, ◌&&◌, ◌==◌, nat_lt, not, Bool, true, List, [], ◌∷◌, ◌++◌, length, ◌%◌, refl, ◌∙◌, arith, length-append}
use Rattle.std.specs.Fmt.{decimal}
use Rattle.std.specs.List.{list_all}
use Rattle.std.specs.Str.{is_utf8}
use Rattle.std.proofs.lemmas.Bool.{and_parts, and_from}
use Rattle.std.proofs.lemmas.Bool.Decides.{nat_tests}
use Rattle.std.proofs.lemmas.Fmt.{decimal_by_steps, length-decimal-le}
use Rattle.std.proofs.lemmas.List.Folds.{list_all-append}
use Rattle.std.proofs.lemmas.Str.{IsUtf8-from_ascii, is_utf8-from_IsUtf8}
use Rattle.pat_base.specs.Bounded.{list_all-ascii, is_text-bytes, is_text-fits}
use Rattle.pat_base.specs.Name.{name_bytes}
use Rattle.pat_base.specs.NameText.{is_name, is_name_byte}
use Rattle.pat_base.specs.declared.name.Name.{Name}
use Rattle.script_words.specs.Lines.{is_in_line}

-- a byte of ASCII that ends no line
abbrev pub is_plain : ℕ → Bool
is_plain b = nat_lt b 128 && not (b == 10)

-- words of plain bytes, and no more than so many
pub record IsPlain (text : List ℕ) (most : ℕ) : Type 0 where
  pub plain : list_all is_plain text ≡ true
  pub short : length text ≤ most

pub plain-append : (xs ys : List ℕ) → list_all is_plain xs ≡ true → list_all is_plain ys ≡ true
    → list_all is_plain (xs ++ ys) ≡ true
plain-append xs ys h k = list_all-append is_plain xs ys ∙ and_from (list_all is_plain xs) (list_all is_plain ys) h k

pub IsPlain-append : (xs ys : List ℕ) (m n : ℕ) → IsPlain xs m → IsPlain ys n → IsPlain (xs ++ ys) (m + n)
IsPlain-append xs ys m n h k =
    record { plain = plain-append xs ys h.plain k.plain; short = omega (arith, length-append xs ys, h.short, k.short) }

pub IsPlain-most : (xs : List ℕ) (m n : ℕ) → m ≤ n → IsPlain xs m → IsPlain xs n
IsPlain-most xs m n le h = record { plain = h.plain; short = omega (arith, h.short) }

pub blank-IsPlain : (rest : List ℕ) (n : ℕ) → IsPlain rest n → IsPlain (32 ∷ rest) (n + 1)
blank-IsPlain rest n h = record { plain = h.plain; short = omega (arith, h.short) }

name-byte : (b : ℕ) → is_name_byte b ≡ true → is_plain b ≡ true
name-byte b h = grind (arith, nat_tests)

name-bytes : (v : List ℕ) → list_all is_name_byte v ≡ true → list_all is_plain v ≡ true
name-bytes [] h = refl
name-bytes (b ∷ bs) h =
    let both = and_parts (is_name_byte b) (list_all is_name_byte bs) h in
    and_from (is_plain b) (list_all is_plain bs) (name-byte b both.0) (name-bytes bs both.1)

text-IsPlain : (v : List ℕ) → is_name v ≡ true → IsPlain v 32
text-IsPlain v h =
    record { plain = name-bytes v (is_text-bytes 32 is_name_byte v h); short = is_text-fits 32 is_name_byte v h }

pub name-IsPlain : (name : Name) → IsPlain (name_bytes name) 32
name-IsPlain name = text-IsPlain (name_bytes name) name.legal

a_digit : (d : ℕ) → d < 10 → list_all is_plain ((48 + d) ∷ []) ≡ true
a_digit d h = let t : is_plain (48 + d) ≡ true = grind (arith, nat_tests) in rw t refl

pub decimal-IsPlain : (n : ℕ) → n < 2 ^ 64 → IsPlain (decimal n) 20
decimal-IsPlain n fits = record {
  plain = decimal_by_steps (λ n ds. list_all is_plain ds ≡ true) (λ n h. a_digit n h)
      (λ n ds h front. plain-append ds ((48 + n % 10) ∷ []) front (a_digit (n % 10) (omega arith))) n fits;
  short = length-decimal-le 20 n (omega arith) (omega arith) fits;
}

-- words of plain bytes are text that ends no line
ascii-byte : (b : ℕ) → is_plain b ≡ true → b < 128
ascii-byte b h = grind (arith, nat_tests)

pub plain-is_utf8 : (v : List ℕ) → list_all is_plain v ≡ true → is_utf8 v ≡ true
plain-is_utf8 v h = is_utf8-from_IsUtf8 v (IsUtf8-from_ascii v (list_all-ascii is_plain ascii-byte v h))

no-feed : (b : ℕ) → is_plain b ≡ true → is_in_line b ≡ true
no-feed b h = grind (arith, nat_tests)

pub no-feeds : (v : List ℕ) → list_all is_plain v ≡ true → list_all is_in_line v ≡ true
no-feeds [] h = refl
no-feeds (b ∷ bs) h =
    let both = and_parts (is_plain b) (list_all is_plain bs) h in
    and_from (is_in_line b) (list_all is_in_line bs) (no-feed b both.0) (no-feeds bs both.1)
