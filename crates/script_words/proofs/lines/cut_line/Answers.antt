use Rattle.std.proofs.Common.{◌<◌, ◌∙◌, length, arith, sym}
use Rattle.std.proofs.lemmas.Bool.Decides.{nat_tests}
use Rattle.script_words.proofs.Cutting.{first-cut, last-line}
use Rattle.script_words.proofs.lines.cut_line.Goals as goal

pub returns-in-Some-clause-lines : goal.returns-in-Some-clause-lines
returns-in-Some-clause-lines c = first-cut c.args.bytes.now c.in-Some.end (sym c.first_at.ensures.place ∙ c.in-Some.is)

pub returns-in-None-clause-lines : goal.returns-in-None-clause-lines
returns-in-None-clause-lines c =
    let some : 0 < length c.args.bytes.now = grind (arith, nat_tests) in
    last-line c.args.bytes.now some (sym c.first_at.ensures.place ∙ c.in-None.is)
