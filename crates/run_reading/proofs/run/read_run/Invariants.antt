use Rattle.std.proofs.Common.{◌≡◌, fold, length}
use Rattle.script_words.specs.Lines.{lines_in}
use Rattle.run_reading.specs.Runs.{add_line, run_of}
use Rattle.run_reading.proofs.run.read_run.Given as goal

abbrev pub invariant-loop-line : goal.invariant-loop-line
invariant-loop-line l = fold add_line l.run (lines_in l.rest) ≡ run_of (lines_in l.fn.bytes)

abbrev pub decreases-loop-line : goal.decreases-loop-line
decreases-loop-line l = length l.rest
