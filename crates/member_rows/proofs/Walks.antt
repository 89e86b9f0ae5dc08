-- Walks over the members and over the keys of a snapshot.
use Rattle.std.proofs.Common.{◌≡◌, ◌∙◌, ap, refl, arith, ℕ, ◌+◌, ◌<◌, zero, suc, List, [], ◌∷◌, ◌++◌, length, take, fold, get_or, Option, Some, None}
use Rattle.std.specs.List.{filter_map, range_with_len}
use Rattle.std.specs.Option.{option_to_list}
use Rattle.std.proofs.Math.Seq.{take-suc}
use Rattle.std.proofs.lemmas.List.Elements.{filter_map-append}
use Rattle.std.proofs.lemmas.List.Sums.{fold-append}
use Rattle.member_rows.specs.Rows.{with_found}

range-more : (a n j : ℕ) → a + n ≡ j → range_with_len a (suc n) ≡ range_with_len a n ++ j ∷ []
range-more a zero j e = let same : a ≡ j = omega arith in ap (λ k. k ∷ []) same
range-more a (suc n) j e = ap (λ ks. a ∷ ks) (range-more (a + 1) n j (omega arith))

fold-found : {A B : Type 0} (add : B → A → B) (before : B) (found : Option A) (f : ℕ → Option A) (n : ℕ)
    → f n ≡ found → fold add before (filter_map f (n ∷ [])) ≡ with_found add before found
fold-found add before None f n is = rw is refl
fold-found add before (Some a) f n is = rw is refl

-- a walk over one more number finds what is at that number, if something is
pub walk-more : {A B : Type 0} (add : B → A → B) (start : B) (f : ℕ → Option A) (n : ℕ)
    → fold add start (filter_map f (range_with_len 0 (n + 1)))
    ≡ with_found add (fold add start (filter_map f (range_with_len 0 n))) (f n)
walk-more add start f n =
    let on : n + 1 ≡ suc n = omega arith in
    ap (λ k. fold add start (filter_map f (range_with_len 0 k))) on
    ∙ ap (λ ks. fold add start (filter_map f ks)) (range-more 0 n n (omega arith))
    ∙ ap (fold add start) (filter_map-append f (range_with_len 0 n) (n ∷ []))
    ∙ fold-append add start (filter_map f (range_with_len 0 n)) (filter_map f (n ∷ []))
    ∙ fold-found add (fold add start (filter_map f (range_with_len 0 n))) (f n) f n refl

found-listed : {A B : Type 0} (f : A → Option B) (x : A) (found : Option B) → f x ≡ found
    → filter_map f (x ∷ []) ≡ option_to_list found
found-listed f x None is = rw is refl
found-listed f x (Some b) is = rw is refl

-- of one item more there is one more where something is found at it
pub found-more : {A B : Type 0} (f : A → Option B) (xs : List A) (i : ℕ) (d : A) → i < length xs
    → filter_map f (take (i + 1) xs) ≡ filter_map f (take i xs) ++ option_to_list (f (get_or xs i d))
found-more f xs i d below =
    let on : i + 1 ≡ suc i = omega arith in
    ap (λ k. filter_map f (take k xs)) on
    ∙ ap (filter_map f) (take-suc xs i d below)
    ∙ filter_map-append f (take i xs) (get_or xs i d ∷ [])
    ∙ ap (λ ys. filter_map f (take i xs) ++ ys) (found-listed f (get_or xs i d) (f (get_or xs i d)) refl)
