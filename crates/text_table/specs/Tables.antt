-- Tables as text: columns between bars, with rules above and below.
use Rattle.std.specs.Prelude.{ℕ, ◌+◌, ◌-◌, max, List, [], ◌∷◌, ◌++◌, length, map, fold, drop, replicate, codes, slice_get, unwrap_or, Option, Some, None}
use Rattle.std.specs.List.{flat_map}
use Rattle.text_table.specs.declared.alignment.Alignment.{Alignment}
use Rattle.text_table.specs.declared.alignment.Alignment.TheVariants as sides
use Rattle.text_table.specs.declared.slot.Slot.{Slot}

-- a column: its heading, and on which side its texts stand
pub record ColumnText : Type 0 where
  pub heading : List ℕ
  pub alignment : Alignment

-- the column of this heading, whose texts stand on this side
abbrev pub column : List ℕ → Alignment → ColumnText
column heading alignment = record { heading = heading; alignment = alignment }

-- a table: its title, if it has one, its columns, and the cells of its rows
pub record TableText : Type 0 where
  pub title : Option (List ℕ)
  pub columns : List ColumnText
  pub rows : List (List (List ℕ))

-- the text of the cell at a place of a row, empty where the row has none there
abbrev pub cell_at : List (List ℕ) → ℕ → List ℕ
cell_at row place = unwrap_or (slice_get row place) []

-- the width, or that of the row's cell at this place where that is more
abbrev pub wider : ℕ → ℕ → List (List ℕ) → ℕ
wider place width row = max width (length (cell_at row place))

-- the width of a heading or of the widest cell below it
abbrev pub column_width : ℕ → ColumnText → List (List (List ℕ)) → ℕ
column_width place column rows = fold (wider place) (length column.heading) rows

-- the place of a column of a table with these rows
abbrev pub slot_of : ℕ → ColumnText → List (List (List ℕ)) → Slot
slot_of place column rows = record { width = column_width place column rows; alignment = column.alignment }

-- the places of columns, of which the first stands at this place
abbrev pub slots_from : ℕ → List ColumnText → List (List (List ℕ)) → List Slot
slots_from place [] rows = []
slots_from place (column ∷ columns) rows = slot_of place column rows ∷ slots_from (place + 1) columns rows

-- the places of the columns of a table with these rows
abbrev pub slots_of : List ColumnText → List (List (List ℕ)) → List Slot
slots_of columns rows = slots_from 0 columns rows

-- the byte that fills a cell
abbrev pub space : ℕ
space = 32

-- the byte of a rule between two corners
abbrev pub hyphen : ℕ
hyphen = 45

-- so many spaces
abbrev pub spaces : ℕ → List ℕ
spaces count = replicate count space

-- a text with room on its other side
abbrev pub on_side : Alignment → List ℕ → List ℕ → List ℕ
on_side sides.Left text room = text ++ room
on_side sides.Right text room = room ++ text

-- a text, on its side of the column, as wide as that
abbrev pub aligned : Slot → List ℕ → List ℕ
aligned slot text = on_side slot.alignment text (spaces (slot.width - length text))

-- a cell, with a space on both sides and the bar behind it
abbrev pub cell_text : Slot → List ℕ → List ℕ
cell_text slot text = codes " " ++ (aligned slot text ++ codes " |")

-- the cells of a row in columns of which the first stands at this place
abbrev pub cells_from : ℕ → List Slot → List (List ℕ) → List ℕ
cells_from place [] row = []
cells_from place (slot ∷ slots) row = cell_text slot (cell_at row place) ++ cells_from (place + 1) slots row

-- the line of a row: its cells between bars
abbrev pub row_line : List Slot → List (List ℕ) → List ℕ
row_line slots row = codes "|" ++ cells_from 0 slots row

-- the part of a rule that a column has
abbrev pub dashes : Slot → List ℕ
dashes slot = codes "-" ++ (replicate slot.width hyphen ++ codes "-+")

-- a rule, from the first bar to the last
abbrev pub rule_line : List Slot → List ℕ
rule_line slots = codes "+" ++ flat_map dashes slots

-- a text over the beginning of a line
abbrev pub over : List ℕ → List ℕ → List ℕ
over text line = text ++ drop (length text) line

-- a rule with a title over it from its second sign, with a space on both sides
abbrev pub titled : List ℕ → List ℕ → List ℕ
titled title rule = over (codes "+ " ++ (title ++ codes " ")) rule

-- the first line: a rule, with the title over it where there is one
abbrev pub top_line : Option (List ℕ) → List Slot → List ℕ
top_line None slots = rule_line slots
top_line (Some title) slots = titled title (rule_line slots)

-- the headings of the columns, as a row
abbrev pub headings : List ColumnText → List (List ℕ)
headings columns = map (λ column. column.heading) columns

-- the lines of a table whose columns have these places
abbrev pub lines_in : List Slot → TableText → List (List ℕ)
lines_in slots table =
    top_line table.title slots ∷ row_line slots (headings table.columns) ∷ rule_line slots
    ∷ (map (row_line slots) table.rows ++ rule_line slots ∷ [])

-- the lines of a table
abbrev pub table_lines : TableText → List (List ℕ)
table_lines table = lines_in (slots_of table.columns table.rows) table
