use Rattle.std.proofs.Common.{sym, arith}
use Rattle.run_printing.proofs.LineEnds.{line-ends, line-whole}
use Rattle.run_printing.proofs.printing.line_length.Goals as goal

pub returns-in-None-clause-value : goal.returns-in-None-clause-value
returns-in-None-clause-value c =
    sym (line-whole c.args.text.now (λ place less. c.in-None.ensures place (omega arith) less))

pub returns-in-Some-clause-value : goal.returns-in-Some-clause-value
returns-in-Some-clause-value c =
    sym (line-ends c.args.text.now c.in-Some.place c.in-Some.ensures.0.high
    (λ place less. c.in-Some.ensures.0.before place (omega arith) less) c.in-Some.ensures.1)
