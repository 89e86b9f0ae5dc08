-- Where rows stand.
use Rattle.std.proofs.Common.{◌≡◌, ◌∙◌, ℕ, ◌+◌, zero, suc, List, [], ◌∷◌, ◌++◌, length, map, slice_get, option_map, Some, ap, arith, length-append}
use Rattle.std.proofs.lemmas.List.{length-map}
use Rattle.std.proofs.lemmas.Option.{none-some, slice_get-map}
use Rattle.text_table.specs.Laws.{lines_above, lines_around}
use Rattle.text_table.specs.Tables.{TableText, row_line, rule_line, slots_of, table_lines}

get-append : {A : Type 0} (xs ys : List A) (k : ℕ) (x : A) → slice_get xs k ≡ Some x → slice_get (xs ++ ys) k ≡ Some x
get-append [] ys k x is = absurd (none-some x is)
get-append (a ∷ xs) ys zero x is = is
get-append (a ∷ xs) ys (suc k) x is = get-append xs ys k x is

-- behind three lines stand those of the rows
pub line-of-row : (table : TableText) (place : ℕ) (row : List (List ℕ)) → slice_get table.rows place ≡ Some row
    → slice_get (table_lines table) (lines_above + place) ≡ Some (row_line (slots_of table.columns table.rows) row)
line-of-row table place row is =
    let behind : lines_above + place ≡ suc (suc (suc place)) = omega arith in
    ap (slice_get (table_lines table)) behind
    ∙ get-append (map line table.rows) (rule_line (slots_of table.columns table.rows) ∷ []) place (line row)
    (slice_get-map line table.rows place ∙ ap (option_map line) is)
  where
    line : List (List ℕ) → List ℕ
    line r = row_line (slots_of table.columns table.rows) r

-- there are four lines more than rows
pub lines-count : (table : TableText) → length (table_lines table) ≡ length table.rows + lines_around
lines-count table =
    omega (
      arith,
      length-append (map (row_line (slots_of table.columns table.rows)) table.rows)
          (rule_line (slots_of table.columns table.rows) ∷ []),
      length-map table.rows (row_line (slots_of table.columns table.rows)),
    )
