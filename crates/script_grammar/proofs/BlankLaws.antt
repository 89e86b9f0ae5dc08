-- Bytes that are cut at blanks.
use Rattle.std.proofs.Common.{◌≡◌, ℕ, ◌+◌, ◌<◌, ◌==◌, Bool, true, false, cond, List, [], ◌∷◌, ◌++◌, length, take, drop, get_or, Option, Some, None, IsUtf8, refl, ◌∙◌, ap, sym, subst, suc, arith, append_assoc, length-append}
use Rattle.std.specs.List.{list_all}
use Rattle.std.proofs.Math.Seq.{get_or-append_seam, take-append_seam}
use Rattle.std.proofs.lemmas.Bool.{and_parts, eqb-true}
use Rattle.std.proofs.lemmas.List.{drop_at}
use Rattle.std.proofs.lemmas.List.Folds.{list_all-append}
use Rattle.std.proofs.lemmas.Str.{IsUtf8-take, IsUtf8-drop, IsCharBoundary-before_ascii, IsCharBoundary-after_ascii, IsUtf8-from_is_utf8, is_utf8-from_IsUtf8}
use Rattle.script_words.specs.Lines.{first_at, one_more, is_in_line}
use Rattle.script_words.specs.Words.{cut_at, cut_word}
use Rattle.script_words.proofs.Outcomes.{some_is, none_is}
use Rattle.script_model.specs.Script.{IsWholeLine}

-- bytes of a kind that has no blank
not-blank : (p : ℕ → Bool) (b : ℕ) (t : Bool) → (b == 32) ≡ t → p 32 ≡ false → p b ≡ true → t ≡ false
not-blank p b true is none h = let same : p b ≡ p 32 = ap p (eqb-true b 32 is) in cc
not-blank p b false is none h = refl

pub first_at-all : (p : ℕ → Bool) (v : List ℕ) → p 32 ≡ false → list_all p v ≡ true → first_at 32 v ≡ None
first_at-all p [] none h = refl
first_at-all p (b ∷ bs) none h =
    let both = and_parts (p b) (list_all p bs) h in
    rw (not-blank p b (b == 32) refl none both.0, first_at-all p bs none both.1) refl

-- a word that is cut off has no blank
before-first : (t : Bool) (b : ℕ) (bs : List ℕ) (o : Option ℕ) (n : ℕ) → (b == 32) ≡ t
    → ((m : ℕ) → o ≡ Some m → first_at 32 (take m bs) ≡ None) → cond t (Some 0) (one_more o) ≡ Some n
    → first_at 32 (take n (b ∷ bs)) ≡ None
before-first true b bs o n is rest e = let z : n ≡ 0 = sym (some_is 0 n e) in rw z refl
before-first false b bs None n is rest e = absurd (none_is n e)
before-first false b bs (Some m) n is rest e =
    let z : n ≡ suc m = omega (arith, some_is (m + 1) n e) in
    rw z (rw (is, rest m refl) refl)

first_at-take : (bs : List ℕ) (n : ℕ) → first_at 32 bs ≡ Some n → first_at 32 (take n bs) ≡ None
first_at-take [] n e = absurd (none_is n e)
first_at-take (b ∷ bs) n e = before-first (b == 32) b bs (first_at 32 bs) n refl (λ m h. first_at-take bs m h) e

cut-unbroken : (bytes : List ℕ) (o : Option ℕ) → first_at 32 bytes ≡ o → first_at 32 (cut_at bytes o).0 ≡ None
cut-unbroken bytes None is = is
cut-unbroken bytes (Some n) is = first_at-take bytes n is

pub cut_word-unbroken : (bytes : List ℕ) → first_at 32 (cut_word bytes).0 ≡ None
cut_word-unbroken bytes = cut-unbroken bytes (first_at 32 bytes) refl

-- text before a blank, and text behind it
blank-within : (xs ys : List ℕ) → length xs < length (xs ++ (32 ∷ ys))
blank-within xs ys = omega (arith, length-append xs (32 ∷ ys))

blank-ascii : (xs ys : List ℕ) → get_or (xs ++ (32 ∷ ys)) (length xs) 0 < 128
blank-ascii xs ys =
    let at : get_or (xs ++ (32 ∷ ys)) (length xs) 0 ≡ 32 = get_or-append_seam xs 32 ys 0 in omega (arith, at)

pub text-before : (xs ys : List ℕ) → IsUtf8 (xs ++ (32 ∷ ys)) → IsUtf8 xs
text-before xs ys text =
    subst IsUtf8 (take-append_seam xs (32 ∷ ys))
    (IsUtf8-take (xs ++ (32 ∷ ys)) (length xs) text
    (IsCharBoundary-before_ascii (xs ++ (32 ∷ ys)) (length xs) (blank-within xs ys) (blank-ascii xs ys)))

pub text-behind : (xs ys : List ℕ) → IsUtf8 (xs ++ (32 ∷ ys)) → IsUtf8 ys
text-behind xs ys text =
    let rest : drop (length xs + 1) (xs ++ (32 ∷ ys)) ≡ ys =
    ap (drop (length xs + 1)) (sym (append_assoc xs (32 ∷ []) ys))
    ∙ drop_at (xs ++ 32 ∷ []) ys (length xs + 1) (omega (arith, length-append xs (32 ∷ [])))
    in
    subst IsUtf8 rest
    (IsUtf8-drop (xs ++ (32 ∷ ys)) (length xs + 1) text
    (IsCharBoundary-after_ascii (xs ++ (32 ∷ ys)) (length xs) text (blank-within xs ys) (blank-ascii xs ys)))

-- what stands before a blank of a line may be a line
pub line-before : (xs ys : List ℕ) → IsWholeLine (xs ++ (32 ∷ ys)) → IsWholeLine xs
line-before xs ys line = record {
  form = record {
    text = is_utf8-from_IsUtf8 xs (text-before xs ys (IsUtf8-from_is_utf8 (xs ++ (32 ∷ ys)) line.form.text));
    short = omega (arith, line.form.short, length-append xs (32 ∷ ys));
  };
  one_line =
      (and_parts (list_all is_in_line xs) (list_all is_in_line (32 ∷ ys))
      (sym (list_all-append is_in_line xs (32 ∷ ys)) ∙ line.one_line)).0;
}
