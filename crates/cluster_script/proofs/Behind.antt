-- What a function answers of the last words of a line.
use Rattle.std.proofs.Common.{◌≡◌, ℕ, List, Option, Some, Result, ◌∙◌, ap, sym}
use Rattle.pat_base.specs.declared.name.Name.{Name}
use Rattle.script_grammar.specs.Arguments.{last_word, word_behind, words_behind}
use Rattle.script_words.specs.Faults.{both}
use Rattle.script_words.specs.Words.{cut_word}
use Rattle.script_words.specs.declared.fault.Fault.{Fault}

pub word_behind-is : {A B : Type 0} (members : List Name) (before : Result A Fault)
    (read : List ℕ → Result B Fault) (rest : Option (List ℕ)) (words : List ℕ)
    (cut : List ℕ × Option (List ℕ)) (value : Result B Fault) (r : Result (A × B) Fault)
    → rest ≡ Some words → cut ≡ cut_word words → value ≡ read cut.0
    → r ≡ last_word members (both before value) cut.1 → r ≡ word_behind members before read rest
word_behind-is members before read rest words cut value r some same read_is is =
    is
    ∙ ap (λ v. last_word members (both before v) cut.1) read_is
    ∙ ap (λ p. last_word members (both before (read p.0)) p.1) same
    ∙ ap (word_behind members before read) (sym some)

pub words_behind-is : {A B C : Type 0} (members : List Name) (before : Result A Fault) (read : List ℕ → Result B Fault)
    (last : List ℕ → Result C Fault) (rest : Option (List ℕ)) (words : List ℕ) (cut : List ℕ × Option (List ℕ))
    (value : Result B Fault) (pair : Result (A × B) Fault) (r : Result ((A × B) × C) Fault)
    → rest ≡ Some words → cut ≡ cut_word words → value ≡ read cut.0 → pair ≡ both before value
    → r ≡ word_behind members pair last cut.1 → r ≡ words_behind members before read last rest
words_behind-is members before read last rest words cut value pair r some same read_is both_is is =
    is
    ∙ ap (λ p. word_behind members p last cut.1) (both_is ∙ ap (both before) read_is)
    ∙ ap (λ p. word_behind members (both before (read p.0)) last p.1) same
    ∙ ap (words_behind members before read last) (sym some)
