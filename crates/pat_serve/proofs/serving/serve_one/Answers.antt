use Rattle.std.proofs.lemmas.Result.{on_ok_weaker}
use Rattle.pat_serve.proofs.Answering.{serves-ended}
use Rattle.pat_serve.proofs.Bringing.{goes-on}
use Rattle.pat_serve.proofs.serving.serve_one.Goals as goal

pub returns-clause-serves : goal.returns-clause-serves
returns-clause-serves g c =
    on_ok_weaker c.serve_present-served.result
    (λ s. (
      s.0,
      s.1,
      serves-ended g.D.Door c.args.door.now c.serve_present-served.new.door c.hang_up.new.self
          (g.W.Simulation.facts c.args.world.now).cluster c.args.member s.0 s.2 c.hang_up.ensures.after
          c.hang_up.ensures.line c.hang_up.ensures.spare c.hang_up.ensures.heard c.hang_up.ensures.counts,
    ))
    c.serve_present-served.ensures.serves

pub returns-clause-goes_on : goal.returns-clause-goes_on
returns-clause-goes_on g c =
    on_ok_weaker c.serve_present-served.result
    (λ s played stands. goes-on (g.W.Simulation.facts c.args.world.now)
    (g.W.Simulation.facts c.serve_present-served.new.world)
    _ _ _ s.1 played stands)
    c.serve_present-served.ensures.serves
