-- What is read as the options of a member says each thing at most once, and is spelled so.
use Rattle.std.proofs.Common.{◌≡◌, ℕ, List, [], ◌∷◌, ◌++◌, map, Option, Result, Ok, Err, refl, ◌∙◌, ap, sym, append-nil}
use Rattle.script_words.specs.Faults.{on_ok, both, earlier}
use Rattle.script_words.specs.declared.fault.Fault.{Fault}
use Rattle.script_words.specs.declared.fault.Fault.TheVariants as faults
use Rattle.script_words.proofs.Outcomes.{ok_is, err_is, on_ok-Ok, both-Ok, cond-Err}
use Rattle.member_options.specs.Options.{name_of_option, options_of_name, option_text, said_by, SayOnce, nothing_said, options_or_default}
use Rattle.member_options.specs.OptionReading.{option_words, option_in, is_said, saying, with_option, with_word, with_words, said_in, options_in}
use Rattle.member_options.specs.declared.member_option.MemberOptions.{MemberOptions}
use Rattle.member_options.specs.declared.member_option.MemberOption.{MemberOption}
use Rattle.member_options.specs.declared.member_option.SaidOptions.{SaidOptions}
use Rattle.member_options.proofs.OptionWords.{option_in-Ok}
use Rattle.member_options.proofs.SaidLaws.{SayMore, moved, none-said}

one-more : (said more all : SaidOptions) (option : MemberOption) (os : List MemberOption)
    → with_option said option ≡ Ok more → SayMore more os all → SayMore said (option ∷ os) all
one-more said more all option os e rest =
    let p = cond-Err (is_said (name_of_option option) said) (Ok (saying option said)) faults.Duplicate more e in
    λ name. moved said option os name p.0
    ∙ ap (λ (s : SaidOptions). said_by name s ++ options_of_name name os) (ok_is (saying option said) more p.1)
    ∙ rest name

-- behind a fault nothing is said
still-Err : (f : Fault) (r : Result MemberOption Fault)
    → (g : Fault) × (on_ok (both (Err f) r) (λ p. with_option p.0 p.1) ≡ Err g)
still-Err f (Ok o) = (f, refl)
still-Err f (Err g) = (earlier f g, refl)

with_words-Err : (ws : List (List ℕ)) (f : Fault) (all : SaidOptions) → with_words (Err f) ws ≡ Ok all → ⊥
with_words-Err [] f all e = err_is f all e
with_words-Err (w ∷ ws) f all e =
    let s = still-Err f (option_in w) in with_words-Err ws s.0 all (sym (ap (λ r. with_words r ws) s.1) ∙ e)

first-Ok : (ws : List (List ℕ)) (r : Result SaidOptions Fault) (all : SaidOptions) → with_words r ws ≡ Ok all
    → (said : SaidOptions) × (r ≡ Ok said)
first-Ok ws (Ok said) all e = (said, refl)
first-Ok ws (Err f) all e = absurd (with_words-Err ws f all e)

-- words that say this
record AreSaid (ws : List (List ℕ)) (said all : SaidOptions) : Type 0 where
  pub os : List MemberOption
  pub text : map option_text os ≡ ws
  pub more : SayMore said os all

words-Ok : (ws : List (List ℕ)) (said all : SaidOptions) → with_words (Ok said) ws ≡ Ok all → AreSaid ws said all
words-Ok [] said all e = record {
  os = [];
  text = refl;
  more = λ name. append-nil (said_by name said) ∙ ap (said_by name) (ok_is said all e);
}
words-Ok (w ∷ ws) said all e =
    let m = first-Ok ws (with_word (Ok said) w) all e in
    let p = on_ok-Ok (both (Ok said) (option_in w)) (λ p. with_option p.0 p.1) m.0 m.1 in
    let b = both-Ok (Ok said) (option_in w) p.0 p.1 in
    let one : with_option said p.0.1 ≡ Ok m.0 = ap (λ s. with_option s p.0.1) (ok_is said p.0.0 b.0) ∙ p.2 in
    let rest = words-Ok ws m.0 all (sym (ap (λ r. with_words r ws) m.1) ∙ e) in
    record {
      os = p.0.1 ∷ rest.os;
      text = ap (λ t. t ∷ map option_text rest.os) (option_in-Ok w p.0.1 b.1) ∙ ap (λ t. w ∷ t) rest.text;
      more = one-more said m.0 all p.0.1 rest.os one rest.more;
    }

-- what is declared behind a name
pub record AreDeclared (rest : Option (List ℕ)) (declared : MemberOptions) : Type 0 where
  pub words : List MemberOption
  pub said : SaidOptions
  pub once : SayOnce words said
  pub text : map option_text words ≡ option_words rest
  pub is : options_or_default said ≡ declared

pub options_in-Ok : (rest : Option (List ℕ)) (declared : MemberOptions) → options_in rest ≡ Ok declared
    → AreDeclared rest declared
options_in-Ok rest declared e =
    let p = on_ok-Ok (said_in rest) (λ said. Ok (options_or_default said)) declared e in
    let q = words-Ok (option_words rest) nothing_said p.0 p.1 in
    record {
      words = q.os;
      said = p.0;
      once = λ name. ap (λ xs. xs ++ options_of_name name q.os) (sym (none-said name)) ∙ q.more name;
      text = q.text;
      is = ok_is (options_or_default p.0) declared p.2;
    }
