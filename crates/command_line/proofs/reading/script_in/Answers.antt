use Rattle.std.proofs.Common.{◌∙◌, ap, sym}
use Rattle.script_grammar.specs.Limits.{limit_of}
use Rattle.script_grammar.specs.Reading.{script_of}
use Rattle.script_grammar.proofs.LimitLaws.{within-limits}
use Rattle.command_line.proofs.reading.script_in.Goals as goal

pub returns-clause-few : goal.returns-clause-few
returns-clause-few c =
    let cut = sym c.of-lines.ensures in
    let few =
    within-limits c.args.waited c.args.bytes.now c.in_ok-script.script (ap script_of cut ∙ c.in_ok-script.ensures.value)
    (ap (limit_of c.args.waited) cut ∙ sym c.limit_passed.ensures ∙ c.in_default.is) in
    record { ticks = few.0; lines = few.1 }
