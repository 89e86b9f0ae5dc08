use Rattle.std.proofs.Common.{◌∙◌, arith, ap, sym}
use Rattle.std.proofs.lemmas.Result.{on_ok_weaker}
use Rattle.event_book.specs.declared.event.EventKind.{EventKind}
use Rattle.event_book.specs.declared.event.EventKind.TheVariants as kinds
use Rattle.event_book.specs.declared.event.Note.TheVariants.{ConnectionFailed}
use Rattle.rest_message.specs.Replies.{ReplyText}
use Rattle.cluster_model.specs.declared.step.Visit.{Visit}
use Rattle.cluster_model.specs.Messages.{visit_events}
use Rattle.cluster_model.specs.Parts.{event_of}
use Rattle.cluster_model.specs.Requests.{replying}
use Rattle.world_model.specs.Room.{request_cost}
use Rattle.world_model.proofs.Taking.{Emits-weaker}
use Rattle.world_stage.proofs.Promoting.{as-took}
use Rattle.world_play.proofs.requests.receive_visit.Goals as goal

pub returns-in_ok-reply-in-Refusal : goal.returns-in_ok-reply-in-Refusal
returns-in_ok-reply-in-Refusal c =
    let cluster = c.args.stage.now in
    let member = c.args.member in
    let brings = ap (λ (v : Visit). visit_events cluster v member) c.in-Refusal.is
    ∙ ap (λ (reply : ReplyText). event_of cluster (replying member reply)) (sym c.in_ok-reply-in-Refusal.ensures)
    ∙ ap (λ (kind : EventKind). event_of cluster kind) (sym c.replying.ensures.kind) in
    on_ok_weaker c.happen.result
    (λ took. as-took cluster c.happen.new.self c.args.events.now c.happen.new.events
    (event_of cluster c.replying.result) (visit_events cluster c.args.visit.now member) request_cost brings
    (Emits-weaker cluster c.happen.new.self c.args.events.now c.happen.new.events
    (event_of cluster c.replying.result) 1 request_cost took (omega arith)))
    c.happen.ensures

pub returns-in-Failure : goal.returns-in-Failure
returns-in-Failure c =
    let cluster = c.args.stage.now in
    let failed = event_of cluster (kinds.Note ConnectionFailed) in
    on_ok_weaker c.happen-in-Failure.result
    (λ took. as-took cluster c.happen-in-Failure.new.self c.args.events.now c.happen-in-Failure.new.events failed
    (visit_events cluster c.args.visit.now c.args.member) request_cost
    (ap (λ (v : Visit). visit_events cluster v c.args.member) c.in-Failure.is)
    (Emits-weaker cluster c.happen-in-Failure.new.self c.args.events.now c.happen-in-Failure.new.events failed 1
    request_cost took (omega arith)))
    c.happen-in-Failure.ensures
