-- Words from the front.
use Rattle.std.proofs.Common.{◌≡◌, ℕ, ◌+◌, ◌==◌, Bool, true, false, cond, List, [], ◌∷◌, length, Option, Some, None, Result, arith, refl, ◌∙◌, ap, sym, suc}
use Rattle.script_words.specs.Lines.{first_at, push_byte, one_more}
use Rattle.script_words.specs.Words.{cut_at, cut_word}
use Rattle.script_words.specs.declared.fault.Fault.{Fault}
use Rattle.member_options.specs.OptionReading.{words_in, option_words, with_word, with_words}
use Rattle.member_options.specs.declared.member_option.SaidOptions.{SaidOptions}

word-step : (t : Bool) (b : ℕ) (bs : List ℕ) (o : Option ℕ)
    → (words_in bs ≡ (cut_at bs o).0 ∷ option_words (cut_at bs o).1)
    → cond t ([] ∷ words_in bs) (push_byte b (words_in bs))
    ≡ (cut_at (b ∷ bs) (cond t (Some 0) (one_more o))).0
    ∷ option_words (cut_at (b ∷ bs) (cond t (Some 0) (one_more o))).1
word-step true b bs o ih = refl
word-step false b bs None ih = rw ih refl
word-step false b bs (Some m) ih =
    let z : m + 1 ≡ suc m = omega arith in
    let y : (m + 1) + 1 ≡ suc (m + 1) = omega arith in
    rw (ih, y, z) refl

-- the first word, and then the others
pub words_in-first : (bs : List ℕ) → words_in bs ≡ (cut_word bs).0 ∷ option_words (cut_word bs).1
words_in-first [] = refl
words_in-first (b ∷ bs) = word-step (b == 32) b bs (first_at 32 bs) (words_in-first bs)

-- how many bytes are left, and whether there is a word
abbrev pub words_left : Option (List ℕ) → ℕ
words_left None = 0
words_left (Some words) = length words + 1

-- one more word is judged
pub word-judged : (outcome next said : Result SaidOptions Fault) (rest : Option (List ℕ)) (words : List ℕ)
    (cut : List ℕ × Option (List ℕ))
    → rest ≡ Some words → cut ≡ cut_word words → next ≡ with_word outcome cut.0
    → with_words outcome (option_words rest) ≡ said → with_words next (option_words cut.1) ≡ said
word-judged outcome next said rest words cut some same is all =
    ap (λ r. with_words r (option_words cut.1)) is
    ∙ ap (λ p. with_words (with_word outcome p.0) (option_words p.1)) same
    ∙ sym (ap (with_words outcome) (words_in-first words))
    ∙ sym (ap (λ r. with_words outcome (option_words r)) some)
    ∙ all
