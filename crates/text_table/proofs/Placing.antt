-- Columns and cells one after another.
use Rattle.std.proofs.Common.{◌≡◌, ◌∙◌, ℕ, ◌+◌, ◌<◌, suc, List, [], ◌∷◌, ◌++◌, length, take, get_or, refl, sym, ap, arith, append_assoc}
use Rattle.std.proofs.Math.Seq.{take-suc}
use Rattle.std.proofs.lemmas.List.{length-take}
use Rattle.text_table.specs.declared.slot.Slot.{Slot}
use Rattle.text_table.specs.Tables.{ColumnText, cell_at, cell_text, cells_from, slot_of, slots_from}

slots-append : (place : ℕ) (columns others : List ColumnText) (rows : List (List (List ℕ)))
    → slots_from place (columns ++ others) rows
    ≡ slots_from place columns rows ++ slots_from (place + length columns) others rows
slots-append place [] others rows =
    let same : place ≡ place + 0 = omega arith in
    ap (λ k. slots_from k others rows) same
slots-append place (column ∷ columns) others rows =
    let same : (place + 1) + length columns ≡ place + suc (length columns) = omega arith in
    ap (λ slots. slot_of place column rows ∷ slots)
    (slots-append (place + 1) columns others rows
    ∙ ap (λ k. slots_from (place + 1) columns rows ++ slots_from k others rows) same)

-- of one column more there is one place more
pub slots-more : (columns : List ColumnText) (rows : List (List (List ℕ))) (n : ℕ) (d : ColumnText) → n < length columns
    → slots_from 0 (take (n + 1) columns) rows
    ≡ slots_from 0 (take n columns) rows ++ slot_of n (get_or columns n d) rows ∷ []
slots-more columns rows n d below =
    let on : n + 1 ≡ suc n = omega arith in
    let taken : 0 + length (take n columns) ≡ n = omega (arith, length-take n columns) in
    ap (λ k. slots_from 0 (take k columns) rows) on
    ∙ ap (λ cs. slots_from 0 cs rows) (take-suc columns n d below)
    ∙ slots-append 0 (take n columns) (get_or columns n d ∷ []) rows
    ∙ ap (λ k. slots_from 0 (take n columns) rows ++ slot_of k (get_or columns n d) rows ∷ []) taken

cells-append : (place : ℕ) (slots others : List Slot) (row : List (List ℕ))
    → cells_from place (slots ++ others) row
    ≡ cells_from place slots row ++ cells_from (place + length slots) others row
cells-append place [] others row =
    let same : place ≡ place + 0 = omega arith in
    ap (λ k. cells_from k others row) same
cells-append place (slot ∷ slots) others row =
    let same : (place + 1) + length slots ≡ place + suc (length slots) = omega arith in
    ap (λ text. cell_text slot (cell_at row place) ++ text)
    (cells-append (place + 1) slots others row
    ∙ ap (λ k. cells_from (place + 1) slots row ++ cells_from k others row) same)
    ∙ sym (append_assoc (cell_text slot (cell_at row place)) (cells_from (place + 1) slots row)
    (cells_from (place + suc (length slots)) others row))

append-nil : (text : List ℕ) → text ++ [] ≡ text
append-nil [] = refl
append-nil (c ∷ text) = ap (λ t. c ∷ t) (append-nil text)

-- of one column more there is one cell more
pub cells-more : (slots : List Slot) (row : List (List ℕ)) (n : ℕ) (d : Slot) → n < length slots
    → cells_from 0 (take (n + 1) slots) row
    ≡ cells_from 0 (take n slots) row ++ cell_text (get_or slots n d) (cell_at row n)
cells-more slots row n d below =
    let on : n + 1 ≡ suc n = omega arith in
    let taken : 0 + length (take n slots) ≡ n = omega (arith, length-take n slots) in
    ap (λ k. cells_from 0 (take k slots) row) on
    ∙ ap (λ ss. cells_from 0 ss row) (take-suc slots n d below)
    ∙ cells-append 0 (take n slots) (get_or slots n d ∷ []) row
    ∙ ap (λ text. cells_from 0 (take n slots) row ++ text)
    (append-nil (cell_text (get_or slots n d) (cell_at row (0 + length (take n slots)))))
    ∙ ap (λ k. cells_from 0 (take n slots) row ++ cell_text (get_or slots n d) (cell_at row k)) taken
