-- The texts of shapes.
use Rattle.std.proofs.Common.{◌≡◌, ℕ, ◌+◌, ◌%◌, ◌^◌, ◌<◌, ◌==◌, ◌&&◌, nat_le, true, false, List, [], ◌∷◌, ◌++◌, refl, ◌∙◌, ap, append_assoc, append-nil, arith}
use Rattle.std.specs.Prelude.{codes}
use Rattle.std.specs.Fmt.{decimal}
use Rattle.std.proofs.lemmas.Fmt.{decimal_by_steps}
use Rattle.std.proofs.lemmas.Bool.Decides.{nat_tests}
use Rattle.std.proofs.lemmas.Grind.{flat_map-append}
use Rattle.svg.specs.Escaping.{escape, escaped}
use Rattle.svg.specs.Forests.{opening_text}
use Rattle.svg.specs.declared.key.Key.TheVariants.{X, Y, Width, Height, Class, ViewBox, Namespace}
use Rattle.svg.specs.declared.tag.Tag.TheVariants.{Rect, Root, Text}
use Rattle.svg.specs.Shapes.{class_word, label_opening, rect_opening, root_opening}
use Rattle.svg.specs.declared.paint.Paint.{Paint}
use Rattle.svg.specs.declared.paint.Paint.TheVariants as paints

escape-digit : (d : ℕ) → d < 10 → escape (48 + d) ≡ (48 + d) ∷ []
escape-digit d small =
    let a : ((48 + d) == 38) ≡ false = grind (arith, nat_tests) in
    let l : ((48 + d) == 60) ≡ false = grind (arith, nat_tests) in
    let g : ((48 + d) == 62) ≡ false = grind (arith, nat_tests) in
    let q : ((48 + d) == 34) ≡ false = grind (arith, nat_tests) in
    let p : (nat_le 32 (48 + d) && nat_le (48 + d) 126) ≡ true = grind (arith, nat_tests) in
    rw (a, l, g, q, p) refl

one-digit : (d : ℕ) → d < 10 → escaped ((48 + d) ∷ []) ≡ (48 + d) ∷ []
one-digit d small = rw (escape-digit d small) refl

more-digits : (n : ℕ) (ds : List ℕ) → escaped ds ≡ ds
    → escaped (ds ++ ((48 + n % 10) ∷ [])) ≡ ds ++ ((48 + n % 10) ∷ [])
more-digits n ds front =
    flat_map-append escape ds ((48 + n % 10) ∷ []) ∙ ap (λ t. t ++ escaped ((48 + n % 10) ∷ [])) front
    ∙ ap (λ t. ds ++ t) (one-digit (n % 10) (omega arith))

-- a number has no byte that is escaped
pub escaped-decimal : (n : ℕ) → n < 2 ^ 64 → escaped (decimal n) ≡ decimal n
escaped-decimal n fits =
    decimal_by_steps (λ n ds. escaped ds ≡ ds) one-digit (λ n ds some front. more-digits n ds front) n fits

-- nor has a class
escaped-class : (paint : Paint) → escaped (class_word paint) ≡ class_word paint
escaped-class paints.Replica = refl
escaped-class _ = refl

-- the beginning of a rectangle
rect-shape : (x y width height class : List ℕ) → escaped x ≡ x → escaped y ≡ y → escaped width ≡ width
    → escaped height ≡ height → escaped class ≡ class
    → codes "<rect x=\""
    ++ (x
    ++ (codes "\" y=\""
    ++ (y ++ (codes "\" width=\""
    ++ (width ++ (codes "\" height=\"" ++ (height ++ (codes "\" class=\"" ++ (class ++ codes "\">")))))))))
    ≡ opening_text Rect
    (record { key = X; value = x } ∷ record { key = Y; value = y } ∷ record { key = Width; value = width }
    ∷ record { key = Height; value = height } ∷ record { key = Class; value = class } ∷ [])
rect-shape x y width height class ex ey ew eh ec = simp (append_assoc, append-nil, ex, ey, ew, eh, ec)

pub rect-text : (x y width height : ℕ) (paint : Paint) (class : List ℕ) → class ≡ class_word paint
    → x < 2 ^ 64 → y < 2 ^ 64 → width < 2 ^ 64 → height < 2 ^ 64
    → codes "<rect x=\""
    ++ (decimal x
    ++ (codes "\" y=\""
    ++ (decimal y ++ (codes "\" width=\"" ++ (decimal width
    ++ (codes "\" height=\"" ++ (decimal height ++ (codes "\" class=\"" ++ (class ++ codes "\">")))))))))
    ≡ rect_opening x y width height paint
rect-text x y width height paint class is fx fy fw fh =
    rw is
    (rect-shape (decimal x) (decimal y) (decimal width) (decimal height) (class_word paint) (escaped-decimal x fx)
    (escaped-decimal y fy) (escaped-decimal width fw) (escaped-decimal height fh) (escaped-class paint))

-- the beginning of a label
label-shape : (x y class : List ℕ) → escaped x ≡ x → escaped y ≡ y → escaped class ≡ class
    → codes "<text x=\"" ++ (x ++ (codes "\" y=\"" ++ (y ++ (codes "\" class=\"" ++ (class ++ codes "\">")))))
    ≡ opening_text Text
    (record { key = X; value = x } ∷ record { key = Y; value = y } ∷ record { key = Class; value = class } ∷ [])
label-shape x y class ex ey ec = simp (append_assoc, append-nil, ex, ey, ec)

pub label-text : (x y : ℕ) (paint : Paint) (class : List ℕ) → class ≡ class_word paint → x < 2 ^ 64 → y < 2 ^ 64
    → codes "<text x=\""
    ++ (decimal x ++ (codes "\" y=\"" ++ (decimal y ++ (codes "\" class=\"" ++ (class ++ codes "\">")))))
    ≡ label_opening x y paint
label-text x y paint class is fx fy = rw is
    (label-shape (decimal x) (decimal y) (class_word paint) (escaped-decimal x fx) (escaped-decimal y fy)
    (escaped-class paint))

-- a text within an element within an element, put together part by part
pub titled : (had opening begun text ended end : List ℕ)
    → (((had ++ opening) ++ begun) ++ text) ++ (ended ++ end)
    ≡ had ++ (opening ++ ((begun ++ ((text ++ []) ++ (ended ++ []))) ++ (end ++ [])))
titled had opening begun text ended end = simp (append_assoc, append-nil)

-- a text within an element
pub worded : (had opening text end : List ℕ)
    → ((had ++ opening) ++ text) ++ end ≡ had ++ (opening ++ ((text ++ []) ++ (end ++ [])))
worded had opening text end = simp (append_assoc, append-nil)

-- the beginning of a picture
root-shape : (width height : List ℕ) → escaped width ≡ width → escaped height ≡ height
    → codes "<svg xmlns=\"http://www.w3.org/2000/svg\" width=\""
    ++ (width
    ++ (codes "\" height=\""
    ++ (height ++ (codes "\" viewBox=\"0 0 " ++ (width ++ (codes " " ++ (height ++ codes "\">")))))))
    ≡ opening_text Root
    (record { key = Namespace; value = codes "http://www.w3.org/2000/svg" }
    ∷ record { key = Width; value = width } ∷ record { key = Height; value = height }
    ∷ record { key = ViewBox; value = codes "0 0 " ++ (width ++ (32 ∷ height)) } ∷ [])
root-shape width height ew eh = simp (flat_map-append, append_assoc, append-nil, ew, eh)

pub root-text : (width height : ℕ) → width < 2 ^ 64 → height < 2 ^ 64
    → codes "<svg xmlns=\"http://www.w3.org/2000/svg\" width=\""
    ++ (decimal width
    ++ (codes "\" height=\""
    ++ (decimal height
    ++ (codes "\" viewBox=\"0 0 " ++ (decimal width ++ (codes " " ++ (decimal height ++ codes "\">")))))))
    ≡ root_opening width height
root-text width height fw fh =
    root-shape (decimal width) (decimal height) (escaped-decimal width fw) (escaped-decimal height fh)
