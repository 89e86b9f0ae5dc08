-- Where the first line of a text ends.
use Rattle.std.proofs.Common.{◌≡◌, ℕ, zero, suc, ◌+◌, ◌<◌, ◌==◌, ◌∙◌, Bool, true, List, [], ◌∷◌, length, slice_index, arith, refl, ap}
use Rattle.std.proofs.lemmas.Bool.{false_from_ne_true}
use Rattle.run_printing.specs.LineParts.{length_if, line_length}

-- behind its first line feed
pub line-ends : (text : List ℕ) (place : ℕ) → place < length text
    → ((before : ℕ) → before < place → (slice_index text before == 10) ≡ true → ⊥)
    → (slice_index text place == 10) ≡ true → line_length text ≡ place + 1
line-ends [] place within none is = absurd (omega (arith, within))
line-ends (byte ∷ text) zero within none is = ap (λ (test : Bool). length_if test (line_length text)) is
line-ends (byte ∷ text) (suc place) within none is =
    let rest =
    line-ends text place (omega (arith, within)) (λ before less. none (suc before) (omega (arith, less))) is in
    ap (λ (test : Bool). length_if test (line_length text)) (false_from_ne_true (byte == 10) (none 0 (omega arith)))
    ∙ ap (λ (n : ℕ). 1 + n) rest ∙ omega arith

-- with its last byte, where it has none
pub line-whole : (text : List ℕ) → ((place : ℕ) → place < length text → (slice_index text place == 10) ≡ true → ⊥)
    → line_length text ≡ length text
line-whole [] none = refl
line-whole (byte ∷ text) none =
    let rest = line-whole text (λ place less. none (suc place) (omega (arith, less))) in
    ap (λ (test : Bool). length_if test (line_length text)) (false_from_ne_true (byte == 10) (none 0 (omega arith)))
    ∙ ap (λ (n : ℕ). 1 + n) rest ∙ omega arith
