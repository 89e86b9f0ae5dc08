use Rattle.std.proofs.Common.{sym}
use Rattle.script_model.specs.Script.{names_of}
use Rattle.script_printing.proofs.LineLaws.{line-at-IsLine}
use Rattle.script_printing.proofs.printing.write_line_at.Goals as goal

pub write_line-requires : goal.write_line-requires
write_line-requires c = rw c.head.ensures.value
    (line-at-IsLine (names_of c.args.script.now.head) c.args.script.now.body c.args.place c.in-Some.line.now
    c.head.ensures.script.body (sym c.in-Some.ensures.value))
