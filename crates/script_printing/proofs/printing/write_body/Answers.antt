use Rattle.std.proofs.Common.{◌+◌, arith}
use Rattle.script_model.specs.Script.{names_of, line_text}
use Rattle.script_printing.proofs.LineLaws.{left-more}
use Rattle.script_printing.proofs.printing.write_body.Goals as goal

pub loop-place-preserved : goal.loop-place-preserved
loop-place-preserved c = left-more (line_text (names_of c.args.script.now.head)) c.args.script.now.body
    c.loop-place.place (c.loop-place.place + 1) _ _ _ (omega arith) c.in_ok-write_line_at.ensures c.loop-place.invariant
