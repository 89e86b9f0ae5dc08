-- What is said of the lines of tables.
use Rattle.std.specs.Prelude.{ℕ, ◌+◌, ◌≤◌, List, [], ◌∷◌, length, Option, Some, None}
use Rattle.text_table.specs.Tables.{ColumnText, TableText, rule_line, slots_of}

-- the rule of a table
abbrev pub rule_of : TableText → List ℕ
rule_of table = rule_line (slots_of table.columns table.rows)

-- what stands around a title over a rule: a space and a corner at both ends
abbrev pub title_frame : ℕ
title_frame = 4

-- what stands around a heading: a space at both ends, and the bar behind it
abbrev pub cell_frame : ℕ
cell_frame = 3

-- a title has room over a rule
abbrev pub HasRoom : Option (List ℕ) → List ℕ → Type 0
HasRoom None rule = Unit {0}
HasRoom (Some title) rule = length title + title_frame ≤ length rule

-- the lines of a table above its rows: the first rule, the headings and the second rule
abbrev pub lines_above : ℕ
lines_above = 3

-- the lines of a table beside its rows: those above, and the last rule
abbrev pub lines_around : ℕ
lines_around = lines_above + 1

-- how wide a rule of these columns is at least
abbrev pub heading_room : List ColumnText → ℕ
heading_room [] = 1
heading_room (column ∷ columns) = length column.heading + cell_frame + heading_room columns
