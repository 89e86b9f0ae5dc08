-- A route without braces is read as itself.
use Rattle.std.proofs.Common.{◌≡◌, ℕ, ◌==◌, ◌&&◌, not, ltb, Bool, true, false, IsTrue, List, [], ◌∷◌, ◌++◌, None, Ok, arith, refl, ap, sym, ◌∙◌}
use Rattle.std.specs.List.{list_all}
use Rattle.std.proofs.lemmas.Bool.Decides.{nat_tests}
use Rattle.std.proofs.lemmas.List.{append-nil, append_assoc}
use Rattle.matchit.specs.Rows.{param_token, catch_all_token}
use Rattle.matchit.specs.Route.{Scan, scan, after_shape, on_shape, shape_error, parse_route, open_brace, close_brace, outside}
use Rattle.rest_paths.proofs.Literals.{is_byte, both}

-- a byte that stands for itself in a route
abbrev pub is_plain : ℕ → Bool
is_plain byte = is_byte byte && (not (byte == open_brace) && not (byte == close_brace))

-- a scan that read these bytes, each as itself
abbrev pub plain_scan : List ℕ → Scan
plain_scan text = record { pattern = text; text = text; names = []; name_start = 0; catch_all = false; mode = outside }

not-false : (b : Bool) → IsTrue (not b) → b ≡ false
not-false true e = cc
not-false false e = refl

scan-plain : (done rest : List ℕ) → IsTrue (list_all is_plain rest)
    → scan (plain_scan done) rest ≡ Ok (plain_scan (done ++ rest))
unfolding scan
scan-plain done [] all = ap (λ text. Ok (plain_scan text)) (sym (append-nil done))
scan-plain done (byte ∷ rest) all =
    let parts = both (is_plain byte) (list_all is_plain rest) all in
    let braces = both (not (byte == open_brace)) (not (byte == close_brace))
    (both (is_byte byte) (not (byte == open_brace) && not (byte == close_brace)) parts.0).1 in
    rw (not-false (byte == open_brace) braces.0, not-false (byte == close_brace) braces.1)
    (scan-plain (done ++ byte ∷ []) rest parts.1
    ∙ ap (λ text. Ok (plain_scan text)) (append_assoc done (byte ∷ []) rest))

byte-shape : (byte : ℕ) → IsTrue (is_byte byte)
    → (ltb catch_all_token byte ≡ false) × ((byte == param_token) ≡ false) × ((byte == catch_all_token) ≡ false)
byte-shape byte e = (grind (arith, nat_tests), grind (arith, nat_tests), grind (arith, nat_tests))

shape_error-plain : (text : List ℕ) → IsTrue (list_all is_plain text) → shape_error text ≡ None
shape_error-plain [] all = refl
shape_error-plain (byte ∷ rest) all =
    let parts = both (is_plain byte) (list_all is_plain rest) all in
    let shape =
    byte-shape byte (both (is_byte byte) (not (byte == open_brace) && not (byte == close_brace)) parts.0).0 in
    rw (shape.0, shape.1, shape.2) (shape_error-plain rest parts.1)

pub parse_route-plain : (text : List ℕ) → IsTrue (list_all is_plain text) → parse_route text ≡ Ok (plain_scan text)
parse_route-plain text all =
    ap after_shape (scan-plain [] text all)
    ∙ ap (λ error. on_shape error (plain_scan text)) (shape_error-plain text all)
