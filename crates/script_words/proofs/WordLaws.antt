-- Words between blanks.
use Rattle.std.proofs.Common.{◌≡◌, ℕ, ◌+◌, ◌==◌, Bool, true, false, cond, List, [], ◌∷◌, ◌++◌, take, drop, length, Option, Some, None, refl, ◌∙◌, ap, sym, suc, arith}
use Rattle.std.specs.List.{find}
use Rattle.std.proofs.lemmas.Bool.{eqb-true}
use Rattle.script_words.specs.Lines.{first_at, one_more}
use Rattle.script_words.specs.Words.{cut_at, cut_word}
use Rattle.script_words.proofs.Outcomes.{some_is, none_is}

found : (t : Bool) (c b : ℕ) (bs : List ℕ) (o : Option ℕ) (n : ℕ) → (b == c) ≡ t
    → ((m : ℕ) → o ≡ Some m → bs ≡ take m bs ++ (c ∷ drop (m + 1) bs)) → cond t (Some 0) (one_more o) ≡ Some n
    → b ∷ bs ≡ take n (b ∷ bs) ++ (c ∷ drop (n + 1) (b ∷ bs))
found true c b bs o n is rest e =
    let z : n ≡ 0 = sym (some_is 0 n e) in
    let same : b ≡ c = eqb-true b c is in
    rw z (ap (λ t. t ∷ bs) same)
found false c b bs None n is rest e = absurd (none_is n e)
found false c b bs (Some m) n is rest e =
    let z : n ≡ suc m = omega (arith, some_is (m + 1) n e) in
    let after : n + 1 ≡ suc (m + 1) = omega arith in
    rw (after, z) (ap (λ t. b ∷ t) (rest m refl))

-- what stands before and behind the first of a byte
pub first_at-parts : (c : ℕ) (bs : List ℕ) (n : ℕ) → first_at c bs ≡ Some n → bs ≡ take n bs ++ (c ∷ drop (n + 1) bs)
first_at-parts c [] n e = absurd (none_is n e)
first_at-parts c (b ∷ bs) n e = found (b == c) c b bs (first_at c bs) n refl (λ m h. first_at-parts c bs m h) e

passes : {X : Type 0} (p : X → Bool) (t : Bool) (x : X) (xs : List X) (y : X) → p x ≡ t
    → (find p xs ≡ Some y → p y ≡ true) → cond t (Some x) (find p xs) ≡ Some y → p y ≡ true
passes p true x xs y is rest e = let same : x ≡ y = some_is x y e in rw (← same) is
passes p false x xs y is rest e = rest e

pub find-passes : {X : Type 0} (p : X → Bool) (xs : List X) (y : X) → find p xs ≡ Some y → p y ≡ true
find-passes p [] y e = absurd (none_is y e)
find-passes p (x ∷ xs) y e = passes p (p x) x xs y refl (find-passes p xs y) e

-- a word alone
cut-None : (bytes : List ℕ) (o : Option ℕ) → (cut_at bytes o).1 ≡ None → (cut_at bytes o).0 ≡ bytes
cut-None bytes None e = refl
cut-None bytes (Some n) e = cc

pub cut_word-None : (bytes : List ℕ) → (cut_word bytes).1 ≡ None → (cut_word bytes).0 ≡ bytes
cut_word-None bytes e = cut-None bytes (first_at 32 bytes) e

-- a word, a blank and the rest
pub cut-Some : (c : ℕ) (bytes rest : List ℕ) (o : Option ℕ) → first_at c bytes ≡ o
    → (cut_at bytes o).1 ≡ Some rest → bytes ≡ (cut_at bytes o).0 ++ (c ∷ rest)
cut-Some c bytes rest None is e = absurd (none_is rest e)
cut-Some c bytes rest (Some n) is e =
    first_at-parts c bytes n is ∙ ap (λ t. take n bytes ++ (c ∷ t)) (some_is (drop (n + 1) bytes) rest e)

pub cut_word-Some : (bytes rest : List ℕ) → (cut_word bytes).1 ≡ Some rest → bytes ≡ (cut_word bytes).0 ++ (32 ∷ rest)
cut_word-Some bytes rest e = cut-Some 32 bytes rest (first_at 32 bytes) refl e

-- a byte that is nowhere in a word stands first behind it
pub passed : (t : Bool) (o : Option ℕ) → cond t (Some 0) (one_more o) ≡ None → (t ≡ false) × (o ≡ None)
passed true o e = cc
passed false None e = (refl, refl)
passed false (Some n) e = cc

pub first_at-behind : (c : ℕ) (word rest : List ℕ) → first_at c word ≡ None → (c == c) ≡ true
    → first_at c (word ++ (c ∷ rest)) ≡ Some (length word)
first_at-behind c [] rest e same = rw same refl
first_at-behind c (b ∷ bs) rest e same =
    let p = passed (b == c) (first_at c bs) e in
    rw (p.0, first_at-behind c bs rest p.1 same) (ap Some (omega arith))

cut-behind : (word rest : List ℕ) → take (length word) (word ++ (32 ∷ rest)) ≡ word
cut-behind [] rest = refl
cut-behind (b ∷ bs) rest = ap (λ t. b ∷ t) (cut-behind bs rest)

drop-behind : (word rest : List ℕ) (n : ℕ) → n ≡ suc (length word) → drop n (word ++ (32 ∷ rest)) ≡ rest
drop-behind [] rest n e = rw e refl
drop-behind (b ∷ bs) rest n e = rw e (drop-behind bs rest (suc (length bs)) refl)

-- a word without blanks is cut off again
pub cut_word-again : (word rest : List ℕ) → first_at 32 word ≡ None → cut_word (word ++ (32 ∷ rest)) ≡ (word, Some rest)
cut_word-again word rest h =
    ap (cut_at (word ++ (32 ∷ rest))) (first_at-behind 32 word rest h refl)
    ∙ (λ i. (cut-behind word rest i, Some (drop-behind word rest (length word + 1) (omega arith) i)))

-- and so is one alone
pub cut_word-alone : (word : List ℕ) → first_at 32 word ≡ None → cut_word word ≡ (word, None)
cut_word-alone word h = ap (cut_at word) h
