use Rattle.std.proofs.Common.{arith}
use Rattle.text_table.proofs.Placing.{slots-more}
use Rattle.text_table.proofs.layout.slots_of.Goals as goal

pub loop-place-preserved : goal.loop-place-preserved
loop-place-preserved c =
    cc (
      slots-more c.args.columns.now c.args.rows.now c.loop-place.place c.index-columns-place.result (omega arith),
      c.in_ok-push.ensures.items,
      c.slot_of.ensures,
    )
