use Rattle.std.proofs.Common.{◌+◌, ◌∷◌, ◌∙◌, arith, ap, sym, []}
use Rattle.std.specs.Prelude.{option_map}
use Rattle.std.proofs.lemmas.Result.{err_from_is_err_and, on_ok_weaker}
use Rattle.cluster_model.specs.declared.step.Step.TheVariants as steps
use Rattle.simulation.proofs.Stepping.{steps-left-fewer}
use Rattle.rest_message.specs.Replies.{reply_text}
use Rattle.serve_model.specs.Connections.{most_waiting, replied, waiting_steps}
use Rattle.pat_serve.proofs.Bringing.{Brings-then, brings-declared, brings-so, none-brought, room-behind}
use Rattle.serve_model.proofs.Replies.{first-replied, replied-once}
use Rattle.pat_serve.proofs.Replied.{first-waits, replied-later, replied-so}
use Rattle.pat_serve.proofs.serving.reply_to.Goals as goal

pub bring-requires-clause-room : goal.bring-requires-clause-room
bring-requires-clause-room g c =
    steps-left-fewer (g.W.Simulation.facts c.args.world.now) (most_waiting + 2) 1 (omega arith) c.requires.room

pub returns-in_err-reply-clause-brings : goal.returns-in_err-reply-clause-brings
returns-in_err-reply-clause-brings g c =
    let p = err_from_is_err_and c.from_residual.result c.from_residual.ensures.1 in
    none-brought c.from_residual.result _ p.0 p.1

pub awaited_reply-requires-clause-room : goal.awaited_reply-requires-clause-room
awaited_reply-requires-clause-room g c = room-behind (g.W.Simulation.facts c.args.world.now)
    (g.W.Simulation.facts c.bring.new.world) _ _ (steps.Connection c.args.member c.args.visit ∷ [])
    (most_waiting + 2) (most_waiting + 1) c.in_ok-reply.ensures.brings (omega arith) c.requires.room

pub awaited_reply-requires-clause-declared : goal.awaited_reply-requires-clause-declared
awaited_reply-requires-clause-declared g c =
    brings-declared (g.W.Simulation.facts c.args.world.now) (g.W.Simulation.facts c.bring.new.world) _ _
    (steps.Connection c.args.member c.args.visit ∷ []) c.args.member c.in_ok-reply.ensures.brings c.requires.declared

pub returns-in-Some-clause-brings : goal.returns-in-Some-clause-brings
returns-in-Some-clause-brings g c =
    let told = sym c.in_ok-reply.ensures.replied ∙ ap (option_map reply_text) c.in-Some.is in
    brings-so (sym (first-replied (g.W.Simulation.facts c.args.world.now).cluster c.args.member c.args.visit
    (reply_text c.in-Some.reply) told))
    c.in_ok-reply.ensures.brings

pub returns-in-Some-clause-replied : goal.returns-in-Some-clause-replied
returns-in-Some-clause-replied g c =
    let cluster = (g.W.Simulation.facts c.args.world.now).cluster in
    let told = sym c.in_ok-reply.ensures.replied ∙ ap (option_map reply_text) c.in-Some.is in
    sym (replied-once cluster c.args.member (steps.Connection c.args.member c.args.visit)
    (reply_text c.in-Some.reply) told)
    ∙ ap (replied cluster c.args.member)
    (sym (first-replied cluster c.args.member c.args.visit (reply_text c.in-Some.reply) told))

pub returns-in-None-clause-brings : goal.returns-in-None-clause-brings
returns-in-None-clause-brings g c =
    let before = (g.W.Simulation.facts c.args.world.now) in
    let later = (g.W.Simulation.facts c.bring.new.world) in
    let none = sym c.in_ok-reply.ensures.replied ∙ ap (option_map reply_text) c.in-None.is in
    let first = c.in_ok-reply.ensures.brings in
    on_ok_weaker c.awaited_reply.result
    (λ b. brings-so (sym (first-waits before.cluster later.cluster c.args.member c.args.visit first.cluster none))
    (Brings-then before later (g.W.Simulation.facts c.awaited_reply.new.world) _ _ _
    (steps.Connection c.args.member c.args.visit ∷ [])
    (waiting_steps later.cluster c.args.member most_waiting) first b))
    c.awaited_reply.ensures.brings

pub returns-in-None-clause-replied : goal.returns-in-None-clause-replied
returns-in-None-clause-replied g c =
    let before = (g.W.Simulation.facts c.args.world.now) in
    let later = (g.W.Simulation.facts c.bring.new.world) in
    let none = sym c.in_ok-reply.ensures.replied ∙ ap (option_map reply_text) c.in-None.is in
    let comes = c.in_ok-reply.ensures.brings.cluster in
    replied-so c.awaited_reply.result
    (sym (replied-later before.cluster later.cluster c.args.member (steps.Connection c.args.member c.args.visit)
    (waiting_steps later.cluster c.args.member most_waiting) comes none)
    ∙ ap (replied before.cluster c.args.member)
    (sym (first-waits before.cluster later.cluster c.args.member c.args.visit comes none)))
    c.awaited_reply.ensures.replied
