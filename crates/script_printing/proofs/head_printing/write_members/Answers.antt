use Rattle.std.proofs.Common.{◌+◌, arith}
use Rattle.script_model.specs.Script.{shortest_line}
use Rattle.script_printing.proofs.LineLaws.{left-more}
use Rattle.script_printing.proofs.head_printing.write_members.Goals as goal

pub loop-place-preserved : goal.loop-place-preserved
loop-place-preserved c = left-more shortest_line c.args.head.now.members c.loop-place.place
    (c.loop-place.place + 1) _ _ _ (omega arith) c.in_ok-write_member_at.ensures c.loop-place.invariant
