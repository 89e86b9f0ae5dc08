-- Lists, place by place.
use Rattle.std.proofs.Common.{◌≡◌, ℕ, ◌+◌, ◌<◌, List, ◌∷◌, length, drop, get_or, Some, ◌∙◌, ap, sym}
use Rattle.std.specs.Prelude.{slice_get}
use Rattle.std.proofs.lemmas.List.{drop_more}
use Rattle.std.proofs.lemmas.Option.{slice_get_within, slice_get-get_or}

-- the list from a place on, where something is at that place
pub drop-get : (X : Type 0) (xs : List X) (i : ℕ) (x : X) → slice_get xs i ≡ Some x → drop i xs ≡ x ∷ drop (i + 1) xs
drop-get X xs i x is =
    let there : i < length xs = slice_get_within xs i x is in
    let same : Some x ≡ Some (get_or xs i x) = sym is ∙ slice_get-get_or xs i x there in
    let one : x ≡ get_or xs i x = cc in
    drop_more xs i x there ∙ ap (λ y. y ∷ drop (i + 1) xs) (sym one)
