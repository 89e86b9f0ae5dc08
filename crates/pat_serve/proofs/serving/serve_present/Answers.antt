use Rattle.std.proofs.Common.{Ok, arith, ap}
use Rattle.std.specs.Prelude.{is_none}
use Rattle.std.proofs.lemmas.Result.{err_from_is_err_and, on_ok_weaker}
use Rattle.simulation.proofs.Stepping.{steps-left-fewer}
use Rattle.serve_model.specs.Connections.{connection_cost}
use Rattle.pat_serve.specs.Serving.{course_of}
use Rattle.pat_serve.proofs.Answering.{connection_of, early-so, match-none, match-some, of-some, serves-answered, serves-unread, unread}
use Rattle.pat_serve.proofs.Bringing.{none-brought}
use Rattle.pat_serve.proofs.serving.serve_present.Goals as goal

pub returns-in_err-asks-clause-serves : goal.returns-in_err-asks-clause-serves
returns-in_err-asks-clause-serves g c =
    let p = err_from_is_err_and c.from_residual.result c.from_residual.ensures.1 in
    none-brought c.from_residual.result _ p.0 p.1

pub fail-requires-clause-room : goal.fail-requires-clause-room
fail-requires-clause-room g c =
    steps-left-fewer (g.W.Simulation.facts c.args.world.now) connection_cost 1 (omega arith) c.requires.room

pub returns-in-Some-clause-serves : goal.returns-in-Some-clause-serves
returns-in-Some-clause-serves g c =
    let known = of-some c.in_ok-asks.field-0 c.in-Some.asks _ c.in-Some.is c.in_ok-asks.ensures.asks in
    on_ok_weaker c.answer_to.result
    (λ a. (
      connection_of c.in-Some.asks (course_of a.0),
      a.1.brings,
      serves-answered g.D.Door c.args.door.now c.asked_on.new.door c.answer_to.new.door
          (g.W.Simulation.facts c.args.world.now)
          (g.W.Simulation.facts c.answer_to.new.world) _ _ c.args.member c.in-Some.asks a.0
          known c.in_ok-asks.ensures.left c.in_ok-asks.ensures.grows
          (λ n takes. (c.in_ok-asks.ensures.reliable n takes).0)
          (early-so g.D.Door _ _ (ap is_none c.in-Some.is) c.in_ok-asks.ensures.early) c.asked_on.ensures.spare
          (λ calls had. match-some c.in_ok-asks.field-0 c.in-Some.asks _ _ c.in-Some.is
          (c.in_ok-asks.ensures.heard calls had)) a.1,
    ))
    c.answer_to.ensures.answers

pub returns-in-None-clause-serves : goal.returns-in-None-clause-serves
returns-in-None-clause-serves g c =
    on_ok_weaker c.fail.result
    (λ b. (
      unread,
      b,
      serves-unread g.D.Door c.args.door.now c.asked_on.new.door
          (g.W.Simulation.facts c.args.world.now).cluster c.args.member
          c.in_ok-asks.ensures.left (c.in_ok-asks.ensures.failed c.in-None.is)
          (λ n takes. (c.in_ok-asks.ensures.reliable n takes).1 (ap Ok c.in-None.is))
          (early-so g.D.Door _ _ (ap is_none c.in-None.is) c.in_ok-asks.ensures.early)
          (λ calls had. match-none c.in_ok-asks.field-0 _ _ c.in-None.is (c.in_ok-asks.ensures.heard calls had)),
    ))
    c.fail.ensures
