-- The text of forests that stand one behind another.
use Rattle.std.proofs.Common.{◌≡◌, ℕ, List, [], ◌∷◌, ◌++◌, refl, ◌∙◌, ap, sym, append_assoc}
use Rattle.svg.specs.Escaping.{escaped}
use Rattle.svg.specs.Forests.{Forest, nothing, characters, element, beside, closing_tag_text, forest_text, opening_text}

around : (a b c d e : List ℕ) → a ++ (b ++ (c ++ (d ++ e))) ≡ (a ++ (b ++ (c ++ d))) ++ e
around a b c d e = simp append_assoc

-- one text behind the other
pub text_beside : (first second : Forest) → forest_text (beside first second) ≡ forest_text first ++ forest_text second
text_beside nothing second = refl
text_beside (characters bytes behind) second = ap (λ t. escaped bytes ++ t) (text_beside behind second)
    ∙ sym (append_assoc (escaped bytes) (forest_text behind) (forest_text second))
text_beside (element tag attributes inner behind) second =
    ap (λ t. opening_text tag attributes ++ (forest_text inner ++ (closing_tag_text tag ++ t)))
    (text_beside behind second)
    ∙ around (opening_text tag attributes) (forest_text inner) (closing_tag_text tag) (forest_text behind)
    (forest_text second)

-- what grew by a forest and then by another grew by both
pub grew_by_both : (had between new : List ℕ) (first second : Forest) → between ≡ had ++ forest_text first
    → new ≡ between ++ forest_text second → new ≡ had ++ forest_text (beside first second)
grew_by_both had between new first second e f =
    f ∙ ap (λ t. t ++ forest_text second) e ∙ append_assoc had (forest_text first) (forest_text second)
    ∙ ap (λ t. had ++ t) (sym (text_beside first second))

-- what is left is less by what was written
pub left_by_one : (had new : List ℕ) (first rest : Forest) → new ≡ had ++ forest_text first
    → new ++ forest_text rest ≡ had ++ forest_text (beside first rest)
left_by_one had new first rest e =
    ap (λ t. t ++ forest_text rest) e ∙ append_assoc had (forest_text first) (forest_text rest)
    ∙ ap (λ t. had ++ t) (sym (text_beside first rest))

empty_end : (xs : List ℕ) → xs ++ [] ≡ xs
empty_end [] = refl
empty_end (x ∷ xs) = ap (λ t. x ∷ t) (empty_end xs)

joined : (a b c d : List ℕ) → ((a ++ b) ++ c) ++ d ≡ a ++ (b ++ (c ++ (d ++ [])))
joined a b c d = simp (append_assoc, empty_end)

-- an element with what stands in it
pub grew_within : (had opened new closed : List ℕ) (opening closing : List ℕ) (inner : Forest)
    → opened ≡ had ++ opening → new ≡ opened ++ forest_text inner → closed ≡ new ++ closing
    → closed ≡ had ++ (opening ++ (forest_text inner ++ (closing ++ [])))
grew_within had opened new closed opening closing inner e f g =
    g ∙ ap (λ t. t ++ closing) (f ∙ ap (λ t. t ++ forest_text inner) e) ∙ joined had opening (forest_text inner) closing
