use Rattle.std.proofs.Common.{◌+◌, true, false, length, arith, ap}
use Rattle.std.proofs.lemmas.Result.{err_from_is_err_and, on_ok_weaker}
use Rattle.simulation.proofs.Stepping.{steps-left-fewer}
use Rattle.rest_message.specs.Replies.{reply_text}
use Rattle.rest_reply.specs.Replies.{reply_bytes}
use Rattle.serve_model.specs.Connections.{Whole, connection_cost, most_waiting, read_steps, replied_steps}
use Rattle.pat_serve.proofs.Answering.{answers-front, answers-whole, connection_of, due-is, heard-so, not-written, sent-so}
use Rattle.pat_serve.proofs.Bringing.{brings-declared, brings-so, none-brought, room-behind}
use Rattle.pat_serve.proofs.Waiting.{read-few}
use Rattle.pat_serve.proofs.serving.answer_to.Goals as goal

pub reply_to-requires-clause-room : goal.reply_to-requires-clause-room
reply_to-requires-clause-room g c = steps-left-fewer (g.W.Simulation.facts c.args.world.now) connection_cost
    (most_waiting + 2) (omega arith) c.requires.room

pub returns-in_err-reply-clause-answers : goal.returns-in_err-reply-clause-answers
returns-in_err-reply-clause-answers g c =
    let p = err_from_is_err_and c.from_residual.result c.from_residual.ensures.1 in
    none-brought c.from_residual.result _ p.0 p.1

pub returns-in_err-is_written-clause-answers : goal.returns-in_err-is_written-clause-answers
returns-in_err-is_written-clause-answers g c =
    let p = err_from_is_err_and c.from_residual-in_err-is_written.result c.from_residual-in_err-is_written.ensures.1 in
    none-brought c.from_residual-in_err-is_written.result _ p.0 p.1

pub fail-requires-clause-room : goal.fail-requires-clause-room
fail-requires-clause-room g c =
    let connection = connection_of c.args.asks Whole in
    room-behind (g.W.Simulation.facts c.args.world.now) (g.W.Simulation.facts c.reply_to.new.world) _ _
    (read_steps (g.W.Simulation.facts c.args.world.now).cluster c.args.member connection) connection_cost 1
    (brings-so (ap (replied_steps (g.W.Simulation.facts c.args.world.now).cluster c.args.member)
    c.first_visit-visit.ensures)
    c.in_ok-reply.ensures.brings)
    (omega (arith, read-few (g.W.Simulation.facts c.args.world.now).cluster c.args.member connection)) c.requires.room

pub fail-requires-clause-declared : goal.fail-requires-clause-declared
fail-requires-clause-declared g c =
    brings-declared (g.W.Simulation.facts c.args.world.now) (g.W.Simulation.facts c.reply_to.new.world) _ _
    (replied_steps (g.W.Simulation.facts c.args.world.now).cluster c.args.member c.first_visit-visit.result)
    c.args.member c.in_ok-reply.ensures.brings c.requires.declared

pub returns-then-branch-clause-answers : goal.returns-then-branch-clause-answers
returns-then-branch-clause-answers g c =
    let cluster = (g.W.Simulation.facts c.args.world.now).cluster in
    let bytes = reply_bytes (reply_text c.in_ok-reply.reply) c.asks_for_a_head-head_only.result in (
      true,
      answers-whole g.D.Door c.args.door.now c.is_written.new.door (g.W.Simulation.facts c.args.world.now)
          (g.W.Simulation.facts c.reply_to.new.world) _ _ c.args.member c.args.asks bytes
          (due-is cluster c.args.member c.args.asks c.first_visit-visit.result
          (reply_text c.in_ok-reply.reply) c.asks_for_a_head-head_only.result c.first_visit-visit.ensures
          c.in_ok-reply.ensures.replied c.asks_for_a_head-head_only.ensures)
          (brings-so (ap (replied_steps cluster c.args.member) c.first_visit-visit.ensures)
          c.in_ok-reply.ensures.brings)
          (sent-so (g.D.Door.told c.args.door.now)
          (g.D.Door.told c.is_written.new.door) bytes c.if-branch.true c.in_ok-is_written.ensures.sent)
          (λ n can. c.in_ok-is_written.ensures.spare n can c.if-branch.true)
          (λ calls had. heard-so g.D.Door _ calls c.if-branch.true (c.in_ok-is_written.ensures.heard calls had))
          c.is_written.ensures.counts,
    )

pub returns-clause-answers : goal.returns-clause-answers
returns-clause-answers g c =
    let cluster = (g.W.Simulation.facts c.args.world.now).cluster in
    let bytes = reply_bytes (reply_text c.in_ok-reply.reply) c.asks_for_a_head-head_only.result in
    on_ok_weaker c.fail.result
    (λ b. (
      false,
      answers-front g.D.Door c.args.door.now c.is_written.new.door (g.W.Simulation.facts c.args.world.now)
          (g.W.Simulation.facts c.fail.new.world) _ _ c.args.member c.args.asks bytes
          (g.W.Simulation.facts c.reply_to.new.world) _
          (due-is cluster c.args.member c.args.asks c.first_visit-visit.result
          (reply_text c.in_ok-reply.reply) c.asks_for_a_head-head_only.result c.first_visit-visit.ensures
          c.in_ok-reply.ensures.replied c.asks_for_a_head-head_only.ensures)
          (brings-so (ap (replied_steps cluster c.args.member) c.first_visit-visit.ensures)
          c.in_ok-reply.ensures.brings)
          b
          (sent-so (g.D.Door.told c.args.door.now)
          (g.D.Door.told c.is_written.new.door) bytes c.if-branch.false c.in_ok-is_written.ensures.sent)
          (c.in_ok-is_written.ensures.failed c.if-branch.false)
          (not-written g.D.Door.takes c.args.door.now (length bytes) c.is_written.result
          c.in_ok-is_written.field-0 c.in_ok-is_written.was c.if-branch.false c.is_written.ensures.room)
          (λ calls had. heard-so g.D.Door _ calls c.if-branch.false (c.in_ok-is_written.ensures.heard calls had))
          c.is_written.ensures.counts,
    ))
    c.fail.ensures
