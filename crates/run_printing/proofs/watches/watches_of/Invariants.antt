use Rattle.std.proofs.Common.{◌≡◌, ◌++◌, drop}
use Rattle.run_model.specs.Watches.{watches_of}
use Rattle.run_printing.proofs.watches.watches_of.Given as goal

abbrev pub invariant-loop-place : goal.invariant-loop-place
invariant-loop-place l = l.watches.items ++ drop l.place (watches_of l.head) ≡ watches_of l.head
