-- Words from the front.
use Rattle.std.proofs.Common.{◌≡◌, ℕ, ◌+◌, ◌==◌, nat_lt, not, Bool, true, false, cond, List, [], ◌∷◌, length, Option, Some, None, Result, arith, refl, ◌∙◌, ap, sym}
use Rattle.std.specs.List.{onto_first, position_or_len, before_first, after_first}
use Rattle.std.proofs.lemmas.Bool.{ltb-true}
use Rattle.std.proofs.lemmas.Bool.Decides.{nat_tests}
use Rattle.std.proofs.lemmas.List.Splits.{slice_split_first}
use Rattle.pat_base.specs.declared.host.Host.{Host}
use Rattle.pat_base.specs.declared.name.Name.{Name}
use Rattle.ctl_command.specs.Reading.{with_next, with_words, command_by, command_of}
use Rattle.ctl_command.specs.Commands.{CommandText}
use Rattle.ctl_command.specs.Tables.{command_named}
use Rattle.ctl_command.specs.Texts.{SaidText, FaultText}
use Rattle.ctl_command.specs.Words.{space, is_byte, cut_once, parts_between, words_behind, line_words}
use Rattle.ctl_command.specs.declared.command_name.CommandName.{CommandName}

-- how many bytes are left, and whether there is a word
abbrev pub words_left : Option (List ℕ) → ℕ
words_left None = 0
words_left (Some words) = length words + 1

last-step : (t : Bool) (b : ℕ) (bs : List ℕ) (parts : List (List ℕ)) (n : ℕ)
    → (nat_lt n (length bs) ≡ false → parts ≡ bs ∷ []) → nat_lt (cond (not t) (1 + n) 0) (length (b ∷ bs)) ≡ false
    → cond t ([] ∷ parts) (onto_first b parts) ≡ (b ∷ bs) ∷ []
last-step true b bs parts n ih h = absurd (grind (arith, nat_tests))
last-step false b bs parts n ih h =
    let k : nat_lt n (length bs) ≡ false = grind (arith, nat_tests) in
    rw (ih k) refl

-- without the mark there is one part
last-part : (mark : ℕ) (bytes : List ℕ) → nat_lt (position_or_len (is_byte mark) bytes) (length bytes) ≡ false
    → parts_between mark bytes ≡ bytes ∷ []
last-part mark [] h = refl
last-part mark (b ∷ bs) h =
    last-step (is_byte mark b) b bs (parts_between mark bs) (position_or_len (is_byte mark) bs) (last-part mark bs) h

first-by : (bytes : List ℕ) (t : Bool) → nat_lt (position_or_len (is_byte space) bytes) (length bytes) ≡ t
    → let cut : List ℕ × Option (List ℕ) =
    cond t (before_first (is_byte space) bytes, Some (after_first (is_byte space) bytes)) (bytes, None) in
    parts_between space bytes ≡ cut.0 ∷ words_behind cut.1
first-by bytes true h = slice_split_first (is_byte space) bytes 0 (ltb-true _ _ h)
first-by bytes false h = last-part space bytes h

-- the first word, and then the others
pub words-first : (bytes : List ℕ)
    → parts_between space bytes ≡ (cut_once space bytes).0 ∷ words_behind (cut_once space bytes).1
words-first bytes = first-by bytes (nat_lt (position_or_len (is_byte space) bytes) (length bytes)) refl

-- one more word is judged
pub word-judged : (command : CommandName) (cluster : Name) (members : List (Name × Host))
    (outcome next said : Result SaidText FaultText) (rest : Option (List ℕ)) (words : List ℕ)
    (cut : List ℕ × Option (List ℕ))
    → rest ≡ Some words → cut ≡ cut_once space words → next ≡ with_next command cluster members outcome cut.0
    → with_words command cluster members outcome (words_behind rest) ≡ said
    → with_words command cluster members next (words_behind cut.1) ≡ said
word-judged command cluster members outcome next said rest words cut some same is all =
    ap (λ r. with_words command cluster members r (words_behind cut.1)) is
    ∙ ap (λ p. with_words command cluster members (with_next command cluster members outcome p.0) (words_behind p.1))
    same
    ∙ sym (ap (with_words command cluster members outcome) (words-first words))
    ∙ sym (ap (λ r. with_words command cluster members outcome (words_behind r)) some)
    ∙ all

-- a line that isn't empty is read from its first word on
pub line-read : (cluster : Name) (members : List (Name × Host)) (line : List ℕ)
    (cut : List ℕ × Option (List ℕ)) (command : Option CommandName) (read : Result CommandText FaultText)
    → false ≡ (length line == 0) → cut ≡ cut_once space line → command ≡ command_named cut.0
    → read ≡ command_by cluster members command cut.0 (words_behind cut.1)
    → read ≡ command_of cluster members (line_words line)
line-read cluster members [] cut command read some cuts names reads = cc
line-read cluster members (b ∷ bs) cut command read some cuts names reads =
    reads
    ∙ ap (λ n. command_by cluster members n cut.0 (words_behind cut.1)) names
    ∙ ap (λ p. command_of cluster members (p.0 ∷ words_behind p.1)) cuts
    ∙ sym (ap (command_of cluster members) (words-first (b ∷ bs)))
