use Rattle.std.proofs.Common.{drop, map}
use Rattle.run_printing.proofs.Shown.{Showing}
use Rattle.run_printing.proofs.showing.show.Given as goal

abbrev pub invariant-loop-events : goal.invariant-loop-events
invariant-loop-events g l = Showing g.K.Sink l.fn.summary l.summary l.trace l.fn.out l.out
    (map (λ v. v.items) l.brought) (map (λ v. v.items) (drop l.events-index l.brought))
