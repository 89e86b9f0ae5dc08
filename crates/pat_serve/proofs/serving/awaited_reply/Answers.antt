use Rattle.std.proofs.Common.{◌∙◌, arith, ap, sym}
use Rattle.std.specs.Prelude.{option_map}
use Rattle.std.proofs.lemmas.Result.{err_from_is_err_and}
use Rattle.rest_message.specs.Replies.{reply_text}
use Rattle.pat_serve.proofs.Bringing.{brought-anyhow, none-brought}
use Rattle.pat_serve.proofs.Replied.{replied-so}
use Rattle.pat_serve.proofs.Waiting.{Waiting-declared, Waiting-room, Waiting-start, late-brings, late-reply, ticked-brings, ticked-none, ticked-reply}
use Rattle.pat_serve.proofs.serving.awaited_reply.Goals as goal

pub loop-left-init : goal.loop-left-init
loop-left-init g c = Waiting-start (g.W.Simulation.facts c.args.world.now) _ c.args.member

pub tick-requires : goal.tick-requires
tick-requires g c = Waiting-room (g.W.Simulation.facts c.args.world.now) (g.W.Simulation.facts c.loop-left.world) _
    _ c.args.member c.loop-left.left 1 c.loop-left.invariant (omega (arith, c.loop-left-test.true)) c.requires.room

pub returns-in_err-reply-clause-brings : goal.returns-in_err-reply-clause-brings
returns-in_err-reply-clause-brings g c =
    let p = err_from_is_err_and c.from_residual.result c.from_residual.ensures.1 in
    none-brought c.from_residual.result _ p.0 p.1

pub returns-in-Some-clause-brings : goal.returns-in-Some-clause-brings
returns-in-Some-clause-brings g c =
    let told = sym c.in_ok-reply.ensures.replied ∙ ap (option_map reply_text) c.in-Some.is in
    ticked-brings (g.W.Simulation.facts c.args.world.now) (g.W.Simulation.facts c.loop-left.world)
    (g.W.Simulation.facts c.tick.new.world) _ _ _ c.args.member c.loop-left.left (reply_text c.in-Some.reply)
    (omega (arith, c.loop-left-test.true)) c.loop-left.invariant told c.in_ok-reply.ensures.brings

pub returns-in-Some-clause-replied : goal.returns-in-Some-clause-replied
returns-in-Some-clause-replied g c =
    let told = sym c.in_ok-reply.ensures.replied ∙ ap (option_map reply_text) c.in-Some.is in
    sym (ticked-reply (g.W.Simulation.facts c.args.world.now) (g.W.Simulation.facts c.loop-left.world) _ _ c.args.member
    c.loop-left.left (reply_text c.in-Some.reply) (omega (arith, c.loop-left-test.true)) c.loop-left.invariant told)

pub loop-left-preserved : goal.loop-left-preserved
loop-left-preserved g c =
    let none = sym c.in_ok-reply.ensures.replied ∙ ap (option_map reply_text) c.in_default.is in
    ticked-none (g.W.Simulation.facts c.args.world.now) (g.W.Simulation.facts c.loop-left.world)
    (g.W.Simulation.facts c.tick.new.world) _ _ _ c.args.member c.loop-left.left
    (omega (arith, c.loop-left-test.true)) c.loop-left.invariant c.in_ok-reply.ensures.brings none

pub bring-requires-clause-room : goal.bring-requires-clause-room
bring-requires-clause-room g c = Waiting-room (g.W.Simulation.facts c.args.world.now)
    (g.W.Simulation.facts c.loop-left.world) _ _ c.args.member c.loop-left.left 1 c.loop-left.invariant
    (omega arith) c.requires.room

pub bring-requires-clause-declared : goal.bring-requires-clause-declared
bring-requires-clause-declared g c =
    Waiting-declared (g.W.Simulation.facts c.args.world.now) (g.W.Simulation.facts c.loop-left.world) _ _
    c.args.member c.loop-left.left c.loop-left.invariant c.requires.declared

pub returns-in_err-reply-2-clause-brings : goal.returns-in_err-reply-2-clause-brings
returns-in_err-reply-2-clause-brings g c =
    let p = err_from_is_err_and c.from_residual-in_err-reply-2.result c.from_residual-in_err-reply-2.ensures.1 in
    none-brought c.from_residual-in_err-reply-2.result _ p.0 p.1

pub returns-in-Some-2-clause-brings : goal.returns-in-Some-2-clause-brings
returns-in-Some-2-clause-brings g c =
    late-brings (g.W.Simulation.facts c.args.world.now) (g.W.Simulation.facts c.loop-left.world)
    (g.W.Simulation.facts c.bring.new.world) _ _ _ c.args.member c.loop-left.left
    (omega (arith, c.loop-left-test.false)) c.loop-left.invariant c.in_ok-reply-2.ensures.brings

pub returns-in-Some-2-clause-replied : goal.returns-in-Some-2-clause-replied
returns-in-Some-2-clause-replied g c =
    let told = sym c.in_ok-reply-2.ensures.replied ∙ ap (option_map reply_text) c.in-Some-2.is in
    sym (late-reply (g.W.Simulation.facts c.args.world.now) (g.W.Simulation.facts c.loop-left.world) _ _
    c.args.member c.loop-left.left _ (omega (arith, c.loop-left-test.false)) c.loop-left.invariant told)

pub returns-in-None-clause-brings : goal.returns-in-None-clause-brings
returns-in-None-clause-brings g c =
    brought-anyhow c.refusal_reply.result
    (late-brings (g.W.Simulation.facts c.args.world.now) (g.W.Simulation.facts c.loop-left.world)
    (g.W.Simulation.facts c.bring.new.world) _ _ _ c.args.member c.loop-left.left
    (omega (arith, c.loop-left-test.false)) c.loop-left.invariant c.in_ok-reply-2.ensures.brings)

pub returns-in-None-clause-replied : goal.returns-in-None-clause-replied
returns-in-None-clause-replied g c =
    let told = sym c.in_ok-reply-2.ensures.replied ∙ ap (option_map reply_text) c.in-None.is in
    replied-so c.refusal_reply.result
    (sym (late-reply (g.W.Simulation.facts c.args.world.now) (g.W.Simulation.facts c.loop-left.world) _ _
    c.args.member c.loop-left.left _ (omega (arith, c.loop-left-test.false)) c.loop-left.invariant told))
    c.refusal_reply.ensures
