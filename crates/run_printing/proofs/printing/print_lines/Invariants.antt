use Rattle.std.proofs.Common.{length}
use Rattle.pat_outside.proofs.Printing.{IsPrinting}
use Rattle.pat_outside.specs.Prints.{failed}
use Rattle.run_printing.proofs.printing.print_lines.Given as goal

abbrev pub invariant-loop-rest : goal.invariant-loop-rest
invariant-loop-rest g l = IsPrinting g.K.Sink l.fn.out l.out failed l.text l.rest

abbrev pub decreases-loop-rest : goal.decreases-loop-rest
decreases-loop-rest g l = length l.rest
