-- How wide lines are.
use Rattle.std.proofs.Common.{◌≡◌, ◌∙◌, ℕ, ◌+◌, ◌-◌, ◌≤◌, ◌<◌, suc, List, [], ◌∷◌, ◌++◌, length, map, fold, drop, replicate, codes, Option, Some, None, All, refl, sym, ap, arith, length-append, length-drop}
use Rattle.std.specs.List.{flat_map}
use Rattle.std.proofs.lemmas.List.{length-replicate}
use Rattle.std.proofs.lemmas.List.Elements.{All-append, All-cons, All-map, All-nil}
use Rattle.text_table.specs.declared.alignment.Alignment.{Alignment}
use Rattle.text_table.specs.declared.alignment.Alignment.TheVariants as sides
use Rattle.text_table.specs.declared.slot.Slot.{Slot}
use Rattle.text_table.specs.Laws.{HasRoom, heading_room, rule_of}
use Rattle.text_table.specs.Tables.{ColumnText, TableText, aligned, cell_at, cell_text, cells_from, column_width, dashes, headings, hyphen, on_side, over, row_line, rule_line, slot_of, slots_from, slots_of, space, spaces, table_lines, top_line, wider}

length-side : (side : Alignment) (text room : List ℕ) → length (on_side side text room) ≡ length text + length room
length-side sides.Left text room = length-append text room
length-side sides.Right text room = omega (arith, length-append room text)

-- a cell that fits its column takes the width of that and three signs
cell-width : (slot : Slot) (text : List ℕ) → length text ≤ slot.width → length (cell_text slot text) ≡ slot.width + 3
cell-width slot text fits =
    omega (
      arith,
      length-append (aligned slot text) (codes " |"),
      length-side slot.alignment text (spaces (slot.width - length text)),
      length-replicate {A = ℕ} (slot.width - length text) space,
    )

dashes-width : (slot : Slot) → length (dashes slot) ≡ slot.width + 3
dashes-width slot =
    omega (arith, length-append (replicate slot.width hyphen) (codes "-+"), length-replicate {A = ℕ} slot.width hyphen)

-- the cells of the row fit the columns, of which the first stands at this place
abbrev Fits : ℕ → List Slot → List (List ℕ) → Type 0
Fits place [] row = Unit {0}
Fits place (slot ∷ slots) row = (length (cell_at row place) ≤ slot.width) × Fits (place + 1) slots row

cells-width : (place : ℕ) (slots : List Slot) (row : List (List ℕ)) → Fits place slots row
    → length (cells_from place slots row) ≡ length (flat_map dashes slots)
cells-width place [] row fits = refl
cells-width place (slot ∷ slots) row fits =
    omega (
      arith,
      length-append (cell_text slot (cell_at row place)) (cells_from (place + 1) slots row),
      length-append (dashes slot) (flat_map dashes slots),
      cell-width slot (cell_at row place) fits.0,
      dashes-width slot,
      cells-width (place + 1) slots row fits.1,
    )

line-width : (slots : List Slot) (row : List (List ℕ)) → Fits 0 slots row
    → length (row_line slots row) ≡ length (rule_line slots)
line-width slots row fits = ap suc (cells-width 0 slots row fits)

-- a width only grows
width-grows : (place width : ℕ) (rows : List (List (List ℕ))) → width ≤ fold (wider place) width rows
width-grows place width [] = omega arith
width-grows place width (row ∷ rows) =
    omega (arith, width-grows place (wider place width row) rows)

-- it covers the cell of each row
width-covers : (place width : ℕ) (rows : List (List (List ℕ)))
    → All (λ row. length (cell_at row place) ≤ fold (wider place) width rows) rows
width-covers place width [] = All-nil (λ row. length (cell_at row place) ≤ width)
width-covers place width (row ∷ rows) =
    All-cons (λ r. length (cell_at r place) ≤ fold (wider place) (wider place width row) rows) row rows
    (omega (arith, width-grows place (wider place width row) rows))
    (width-covers place (wider place width row) rows)

-- a row that each column of the table covers
abbrev IsCovered : List (List (List ℕ)) → List (List ℕ) → Type 0
IsCovered rows row = (place : ℕ) (column : ColumnText) → length (cell_at row place) ≤ column_width place column rows

covered-fits : (place : ℕ) (columns : List ColumnText) (rows : List (List (List ℕ))) (row : List (List ℕ))
    → IsCovered rows row → Fits place (slots_from place columns rows) row
covered-fits place [] rows row covered = tt
covered-fits place (column ∷ columns) rows row covered =
    (covered place column, covered-fits (place + 1) columns rows row covered)

rows-are-covered : (rows : List (List (List ℕ))) → All (IsCovered rows) rows
rows-are-covered rows k d below = λ place column. width-covers place (length column.heading) rows k d below

-- a row that has these headings from a place on fits the columns from there
headings-fit : (place : ℕ) (columns : List ColumnText) (rows : List (List (List ℕ))) (row : List (List ℕ))
    → ((k : ℕ) → k < length columns → cell_at row (place + k) ≡ cell_at (headings columns) k)
    → Fits place (slots_from place columns rows) row
headings-fit place [] rows row same = tt
headings-fit place (column ∷ columns) rows row same = (here, headings-fit (place + 1) columns rows row next)
  where
    at-place : place + 0 ≡ place
    at-place = omega arith

    own : cell_at row place ≡ column.heading
    own = ap (cell_at row) (sym at-place) ∙ same 0 (omega arith)

    here : length (cell_at row place) ≤ column_width place column rows
    here = omega (arith, ap length own, width-grows place (length column.heading) rows)

    next : (k : ℕ) → k < length columns → cell_at row ((place + 1) + k) ≡ cell_at (headings columns) k
    next k below =
        let on : (place + 1) + k ≡ place + suc k = omega arith in
        ap (cell_at row) on ∙ same (suc k) (omega arith)

heading-width : (columns : List ColumnText) (rows : List (List (List ℕ)))
    → length (row_line (slots_of columns rows) (headings columns)) ≡ length (rule_line (slots_of columns rows))
heading-width columns rows =
    line-width (slots_of columns rows) (headings columns)
    (headings-fit 0 columns rows (headings columns)
    (λ k below. let same : 0 + k ≡ k = omega arith in ap (cell_at (headings columns)) same))

rows-width : (columns : List ColumnText) (rows : List (List (List ℕ)))
    → All (λ row. length (row_line (slots_of columns rows) row) ≡ length (rule_line (slots_of columns rows))) rows
rows-width columns rows k d below =
    line-width (slots_of columns rows) _ (covered-fits 0 columns rows _ (rows-are-covered rows k d below))

over-width : (text line : List ℕ) → length text ≤ length line → length (over text line) ≡ length line
over-width text line room = omega (arith, length-append text (drop (length text) line), length-drop (length text) line)

top-width : (title : Option (List ℕ)) (slots : List Slot) → HasRoom title (rule_line slots)
    → length (top_line title slots) ≡ length (rule_line slots)
top-width None slots room = refl
top-width (Some title) slots room =
    over-width (codes "+ " ++ (title ++ codes " ")) (rule_line slots) (omega (arith, length-append title (codes " ")))

-- each line is as wide as the rule
pub as-wide-as-the-rule : (table : TableText) → HasRoom table.title (rule_of table)
    → All (λ line. length line ≡ length (rule_of table)) (table_lines table)
as-wide-as-the-rule table room =
    All-cons IsWide (top_line table.title slots)
    (row_line slots (headings table.columns) ∷ rule_line slots ∷ body) (top-width table.title slots room)
    (All-cons IsWide (row_line slots (headings table.columns)) (rule_line slots ∷ body)
    (heading-width table.columns table.rows)
    (All-cons IsWide (rule_line slots) body refl
    (All-append IsWide (map (row_line slots) table.rows) (rule_line slots ∷ [])
    (All-map IsWide (row_line slots) table.rows (rows-width table.columns table.rows))
    (All-cons IsWide (rule_line slots) [] refl (All-nil IsWide)))))
  where
    slots : List Slot
    slots = slots_of table.columns table.rows

    IsWide : List ℕ → Type 0
    IsWide line = length line ≡ length (rule_line slots)

    body : List (List ℕ)
    body = map (row_line slots) table.rows ++ rule_line slots ∷ []

room-from : (place : ℕ) (columns : List ColumnText) (rows : List (List (List ℕ)))
    → heading_room columns ≤ 1 + length (flat_map dashes (slots_from place columns rows))
room-from place [] rows = omega arith
room-from place (column ∷ columns) rows =
    omega (
      arith,
      length-append (dashes (slot_of place column rows)) (flat_map dashes (slots_from (place + 1) columns rows)),
      dashes-width (slot_of place column rows),
      width-grows place (length column.heading) rows,
      room-from (place + 1) columns rows,
    )

-- a rule has room for the headings
pub headings-have-room : (columns : List ColumnText) (rows : List (List (List ℕ)))
    → heading_room columns ≤ length (rule_line (slots_of columns rows))
headings-have-room columns rows =
    let all : heading_room columns ≤ 1 + length (flat_map dashes (slots_of columns rows)) = room-from 0 columns rows in
    omega arith
