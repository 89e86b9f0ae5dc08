-- Lines of commits are read again.
use Rattle.std.proofs.Common.{◌≡◌, ℕ, ◌+◌, ◌<◌, ◌≤◌, ◌%◌, ◌^◌, ◌==◌, false, List, [], ◌∷◌, ◌++◌, Some, None, refl, ◌∙◌, ap, arith}
use Rattle.std.specs.Prelude.{codes}
use Rattle.std.specs.Fmt.{decimal}
use Rattle.std.specs.Option.{option_and_then}
use Rattle.std.proofs.lemmas.Bool.Decides.{nat_tests}
use Rattle.std.proofs.lemmas.Fmt.{decimal_by_steps}
use Rattle.pat_base.specs.Name.{name_bytes, name_of}
use Rattle.pat_base.specs.declared.name.Name.{Name}
use Rattle.pat_base.proofs.Names.{name_of-name_bytes}
use Rattle.script_words.specs.Numbers.{number}
use Rattle.script_words.proofs.NumberLaws.{first_at-decimal, number-decimal}
use Rattle.script_words.proofs.WordLaws.{cut_word-again}
use Rattle.run_reading.specs.declared.happening.Happening.TheVariants.{Commits, IsAcknowledged}
use Rattle.run_reading.specs.declared.told.Told.{Told}
use Rattle.run_reading.specs.Forms.{behind, named_of}
use Rattle.run_reading.specs.Told.{behind_number, commits_on, counted_behind, first_of, of_nobody, told_by_words, told_named, told_of_commit}

-- text that begins with a digit
record BeginsByDigit (text : List ℕ) : Type 0 where
  pub first : ℕ
  pub others : List ℕ
  pub is : text ≡ first ∷ others
  pub digit : first < 58

one : (n : ℕ) → n < 10 → BeginsByDigit ((48 + n) ∷ [])
one n small = record { first = 48 + n; others = []; is = refl; digit = omega arith }

more : (n : ℕ) (ds : List ℕ) → BeginsByDigit ds → BeginsByDigit (ds ++ ((48 + n % 10) ∷ []))
more n ds front = record {
  first = front.first;
  others = front.others ++ ((48 + n % 10) ∷ []);
  is = ap (λ t. t ++ ((48 + n % 10) ∷ [])) front.is;
  digit = front.digit;
}

begins : (n : ℕ) → n < 2 ^ 64 → BeginsByDigit (decimal n)
begins n fits = decimal_by_steps (λ n ds. BeginsByDigit ds) one (λ n ds some front. more n ds front) n fits

apart : (digit letter : ℕ) → digit < 58 → 58 ≤ letter → (letter == digit) ≡ false
apart digit letter low high = grind (arith, nat_tests)

-- no words that stand behind a name begin with a digit
by-digit : (digit : ℕ) (others : List ℕ) → digit < 58 → named_of (digit ∷ others) ≡ None
unfolding named_of
by-digit digit others low =
    let t : (116 == digit) ≡ false = apart digit 116 low (omega arith) in
    let r : (114 == digit) ≡ false = apart digit 114 low (omega arith) in
    let c : (99 == digit) ≡ false = apart digit 99 low (omega arith) in
    let w : (119 == digit) ≡ false = apart digit 119 low (omega arith) in
    let i : (105 == digit) ≡ false = apart digit 105 low (omega arith) in
    let n : (110 == digit) ≡ false = apart digit 110 low (omega arith) in
    let s : (115 == digit) ≡ false = apart digit 115 low (omega arith) in
    let g : (103 == digit) ≡ false = apart digit 103 low (omega arith) in
    let d : (100 == digit) ≡ false = apart digit 100 low (omega arith) in
    let p : (112 == digit) ≡ false = apart digit 112 low (omega arith) in
    let a : (97 == digit) ≡ false = apart digit 97 low (omega arith) in
    let f : (102 == digit) ≡ false = apart digit 102 low (omega arith) in
    let h : (104 == digit) ≡ false = apart digit 104 low (omega arith) in
    let e : (101 == digit) ≡ false = apart digit 101 low (omega arith) in
    rw (t, r, c, w, i, n, s, g, d, p, a, f, h, e) refl

by-number : (n : ℕ) (rest : List ℕ) → n < 2 ^ 64 → named_of (decimal n ++ rest) ≡ None
by-number n rest fits =
    let b = begins n fits in
    ap (λ t. named_of (t ++ rest)) b.is ∙ by-digit b.first (b.others ++ rest) b.digit

-- a number and a blank are passed
past-number : (n : ℕ) (rest : List ℕ) → n < 2 ^ 64 → behind_number (decimal n ++ (32 ∷ rest)) ≡ Some rest
past-number n rest fits =
    let below : 32 < 48 = omega arith in
    ap (λ cut. counted_behind (number cut.0) cut.1) (cut_word-again (decimal n) rest (first_at-decimal 32 n below fits))
    ∙ ap (λ m. counted_behind m (Some rest)) (number-decimal n fits)

-- what is told behind the number of a commit
numbered : (tick n : ℕ) (rest : List ℕ) (told : Told) → n < 2 ^ 64 → told_of_commit tick rest ≡ Some told
    → told_by_words tick (codes "commit " ++ (decimal n ++ (32 ∷ rest))) ≡ Some told
numbered tick n rest told fits e =
    ap (λ h. first_of (told_named tick (name_of (codes "commit")) h)
    (first_of (option_and_then (told_of_commit tick) (behind_number (decimal n ++ (32 ∷ rest)))) None))
    (by-number n (32 ∷ rest) fits)
    ∙ ap (λ o. first_of (option_and_then (told_of_commit tick) o) None) (past-number n rest fits)
    ∙ ap (λ o. first_of o None) e

pub acknowledged-read : (tick n : ℕ) → n < 2 ^ 64
    → told_by_words tick (codes "commit " ++ (decimal n ++ codes " is acknowledged"))
    ≡ Some (of_nobody tick IsAcknowledged)
acknowledged-read tick n fits = numbered tick n (codes "is acknowledged") (of_nobody tick IsAcknowledged) fits refl

committed : (tick bytes : ℕ) (server : Name) → bytes < 2 ^ 64
    → told_of_commit tick (codes "of " ++ (decimal bytes ++ (codes " bytes on " ++ name_bytes server)))
    ≡ Some (of_nobody tick Commits)
committed tick bytes server fits =
    ap (λ o. commits_on tick (option_and_then name_of (option_and_then (behind (codes "bytes on ")) o)))
    (past-number bytes (codes "bytes on " ++ name_bytes server) fits)
    ∙ ap (commits_on tick) (name_of-name_bytes server)

pub commits-read : (tick n bytes : ℕ) (server : Name) → n < 2 ^ 64 → bytes < 2 ^ 64
    → told_by_words tick
    (codes "commit " ++ (decimal n ++ (codes " of " ++ (decimal bytes ++ (codes " bytes on " ++ name_bytes server)))))
    ≡ Some (of_nobody tick Commits)
commits-read tick n bytes server fits room =
    numbered tick n (codes "of " ++ (decimal bytes ++ (codes " bytes on " ++ name_bytes server)))
    (of_nobody tick Commits) fits (committed tick bytes server room)
