use Rattle.std.proofs.Common.{◌∙◌, ◌++◌, List, ℕ, ap, sym, arith, codes, get_or, take}
use Rattle.text_table.specs.declared.alignment.Alignment.TheVariants.{Left}
use Rattle.text_table.specs.declared.slot.Slot.{Slot}
use Rattle.text_table.specs.Tables.{cell_text, cells_from}
use Rattle.text_table.proofs.Placing.{cells-more}
use Rattle.text_table.proofs.printing.row_line.Goals as goal

pub loop-place-preserved : goal.loop-place-preserved
loop-place-preserved c =
    let slots = c.args.slots.now in
    let none : Slot = record { width = 0; alignment = Left } in
    let slot : Slot = get_or slots c.loop-place.place none in
    let done : List ℕ = cells_from 0 (take c.loop-place.place slots) c.args.row.now in
    c.in_ok-push_cell.ensures
    ∙ ap (λ line. line ++ cell_text slot c.cell.result.now) c.loop-place.invariant
    ∙ ap (λ text. codes "|" ++ (done ++ cell_text slot text)) c.cell.ensures
    ∙ ap (λ text. codes "|" ++ text) (sym (cells-more slots c.args.row.now c.loop-place.place none (omega arith)))
