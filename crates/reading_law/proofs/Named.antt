-- Lines with a moment, a name and words are read again.
use Rattle.std.proofs.Common.{◌≡◌, ℕ, ◌<◌, ◌^◌, ◌==◌, true, false, List, [], ◌∷◌, ◌++◌, Option, Some, None, refl, ◌∙◌, ap, arith}
use Rattle.std.specs.Fmt.{decimal}
use Rattle.std.specs.List.{list_all}
use Rattle.std.proofs.lemmas.Bool.{and_parts}
use Rattle.std.proofs.lemmas.Bool.Decides.{nat_tests}
use Rattle.pat_base.specs.Bounded.{is_text-bytes}
use Rattle.pat_base.specs.Name.{name_bytes}
use Rattle.pat_base.specs.NameText.{is_name_byte}
use Rattle.pat_base.specs.declared.name.Name.{Name}
use Rattle.pat_base.proofs.Names.{name_of-name_bytes}
use Rattle.script_words.specs.Lines.{first_at}
use Rattle.script_words.specs.Numbers.{number}
use Rattle.script_words.proofs.NumberLaws.{first_at-decimal, number-decimal}
use Rattle.script_words.proofs.WordLaws.{cut_word-again}
use Rattle.run_reading.specs.declared.happening.Happening.{Happening}
use Rattle.run_reading.specs.declared.told.Told.{Told}
use Rattle.run_reading.specs.Forms.{named_of}
use Rattle.run_reading.specs.Told.{first_of, told_at, told_by_name, told_by_words, told_named, told_of, told_unnamed}
use Rattle.reading_law.specs.Lines.{one_told}

-- a name has no blank
other-byte : (b : ℕ) → is_name_byte b ≡ true → (b == 32) ≡ false
other-byte b h = grind (arith, nat_tests)

no-blank : (v : List ℕ) → list_all is_name_byte v ≡ true → first_at 32 v ≡ None
no-blank [] h = refl
no-blank (b ∷ bs) h =
    let both = and_parts (is_name_byte b) (list_all is_name_byte bs) h in
    rw (other-byte b both.0, no-blank bs both.1) refl

pub name-unbroken : (name : Name) → first_at 32 (name_bytes name) ≡ None
name-unbroken name = no-blank (name_bytes name) (is_text-bytes 32 is_name_byte (name_bytes name) name.legal)

-- a moment is read, and then the words behind it
pub told_of-words : (tick : ℕ) (words : List ℕ) → tick < 2 ^ 64
    → told_of (decimal tick ++ (32 ∷ words)) ≡ told_by_words tick words
told_of-words tick words fits =
    let below : 32 < 48 = omega arith in
    ap (λ cut. told_at (number cut.0) cut.1) (cut_word-again (decimal tick) words (first_at-decimal 32 tick below fits))
    ∙ ap (λ n. told_at n (Some words)) (number-decimal tick fits)

named : (tick : ℕ) (name : Name) (words : List ℕ) (happening : Happening) → named_of words ≡ Some happening
    → told_by_name tick (name_bytes name, Some words) ≡ Some (one_told tick name happening)
named tick name words happening e =
    ap (λ n. told_named tick n (named_of words)) (name_of-name_bytes name) ∙ ap (λ h. told_named tick (Some name) h) e

pub by-words : (tick : ℕ) (name : Name) (words : List ℕ) (happening : Happening) → named_of words ≡ Some happening
    → told_by_words tick (name_bytes name ++ (32 ∷ words)) ≡ Some (one_told tick name happening)
by-words tick name words happening e =
    let other : Option Told = told_unnamed tick (name_bytes name ++ (32 ∷ words)) in
    ap (λ cut. first_of (told_by_name tick cut) other) (cut_word-again (name_bytes name) words (name-unbroken name))
    ∙ ap (λ told. first_of told other) (named tick name words happening e)
