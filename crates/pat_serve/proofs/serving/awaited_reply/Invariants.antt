use Rattle.pat_serve.proofs.Waiting.{Waiting}
use Rattle.pat_serve.proofs.serving.awaited_reply.Given as goal

abbrev pub invariant-loop-left : goal.invariant-loop-left
invariant-loop-left g l = Waiting (g.W.Simulation.facts l.fn.world)
    (g.W.Simulation.facts l.world) l.fn.events.items l.events.items l.member l.left

abbrev pub decreases-loop-left : goal.decreases-loop-left
decreases-loop-left g l = l.left
