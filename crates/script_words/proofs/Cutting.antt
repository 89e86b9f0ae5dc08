-- Lines from the front.
use Rattle.std.proofs.Common.{◌≡◌, ℕ, ◌+◌, ◌-◌, ◌<◌, ◌==◌, Bool, true, false, cond, List, [], ◌∷◌, ◌++◌, length, take, drop, Option, Some, None, arith, refl, ap, suc, take_all, length-drop}
use Rattle.std.specs.List.{list_all}
use Rattle.std.proofs.lemmas.Bool.{and_parts}
use Rattle.std.proofs.lemmas.Bool.Decides.{nat_tests}
use Rattle.script_words.specs.Lines.{lines_in, first_at, push_byte, one_more, is_in_line}

cut-step : (t : Bool) (b : ℕ) (bs : List ℕ) (o : Option ℕ) (n : ℕ)
    → ((m : ℕ) → o ≡ Some m → lines_in bs ≡ take m bs ∷ lines_in (drop (m + 1) bs))
    → cond t (Some 0) (one_more o) ≡ Some n
    → cond t ([] ∷ lines_in bs) (push_byte b (lines_in bs)) ≡ take n (b ∷ bs) ∷ lines_in (drop (n + 1) (b ∷ bs))
cut-step true b bs o n ih h =
    let z : n ≡ 0 = cc in
    rw z refl
cut-step false b bs None n ih h = cc
cut-step false b bs (Some m) n ih h =
    let y : m + 1 ≡ n = cc in
    let z : n ≡ suc m = omega arith in
    let after : n + 1 ≡ suc (m + 1) = omega arith in
    rw (after, z, ih m refl) refl

-- the first line, and then the others
lines_in-first : (bs : List ℕ) (n : ℕ) → first_at 10 bs ≡ Some n → lines_in bs ≡ take n bs ∷ lines_in (drop (n + 1) bs)
lines_in-first [] n h = cc
lines_in-first (b ∷ bs) n h = cut-step (b == 10) b bs (first_at 10 bs) n (λ m e. lines_in-first bs m e) h

pub first-cut : (bs : List ℕ) (n : ℕ) → first_at 10 bs ≡ Some n
    → lines_in bs ≡ take n bs ∷ lines_in (take (length bs - (n + 1)) (drop (n + 1) bs))
first-cut bs n h =
    let all : take (length bs - (n + 1)) (drop (n + 1) bs) ≡ drop (n + 1) bs =
    take_all (length bs - (n + 1)) (drop (n + 1) bs) (omega (arith, length-drop (n + 1) bs)) in
    rw all (lines_in-first bs n h)

last-step : (t : Bool) (b : ℕ) (bs : List ℕ) (o : Option ℕ) → (o ≡ None → push_byte b (lines_in bs) ≡ (b ∷ bs) ∷ [])
    → cond t (Some 0) (one_more o) ≡ None → cond t ([] ∷ lines_in bs) (push_byte b (lines_in bs)) ≡ (b ∷ bs) ∷ []
last-step true b bs o ih h = cc
last-step false b bs None ih h = ih refl
last-step false b bs (Some m) ih h = cc

-- with no line feed there is one line
pub lines_in-last : (b : ℕ) (bs : List ℕ) → first_at 10 (b ∷ bs) ≡ None → lines_in (b ∷ bs) ≡ (b ∷ bs) ∷ []
lines_in-last b [] h = last-step (b == 10) b [] None (λ e. refl) h
lines_in-last b (c ∷ cs) h =
    last-step (b == 10) b (c ∷ cs) (first_at 10 (c ∷ cs)) (λ e. ap (push_byte b) (lines_in-last c cs e)) h

pub last-line : (bs : List ℕ) → 0 < length bs → first_at 10 bs ≡ None → lines_in bs ≡ bs ∷ []
last-line [] l h = absurd (omega arith)
last-line (b ∷ bs) l h = lines_in-last b bs h

-- a line is cut again where it was ended
feeds-apart : (b : ℕ) → is_in_line b ≡ true → (b == 10) ≡ false
feeds-apart b h = grind (arith, nat_tests)

pub line-again : (line rest : List ℕ) → list_all is_in_line line ≡ true
    → lines_in (line ++ (10 ∷ rest)) ≡ line ∷ lines_in rest
line-again [] rest h = refl
line-again (b ∷ bs) rest h =
    let both = and_parts (is_in_line b) (list_all is_in_line bs) h in
    rw (feeds-apart b both.0, line-again bs rest both.1) refl
