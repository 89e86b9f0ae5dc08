use Rattle.std.proofs.Common.{◌∙◌, Some, ap}
use Rattle.std.proofs.lemmas.Result.{on_ok_weaker}
use Rattle.event_book.specs.declared.event.EventKind.TheVariants as kinds
use Rattle.event_book.specs.declared.event.ServerEvent.TheVariants as servers
use Rattle.event_book.specs.declared.member.ServerOf.{ServerOf}
use Rattle.world_model.specs.Room.{beginning_cost}
use Rattle.world_stage.proofs.Promoting.{as-took, completed-comes, completes-begin, completes-end, ended-comes, none-completes, nothing-took, server-took}
use Rattle.world_ticks.proofs.Completing.{completion-read}
use Rattle.world_ticks.proofs.ticks.complete.Goals as goal

pub begin_on-requires-clause-comes : goal.begin_on-requires-clause-comes
begin_on-requires-clause-comes c =
    let is = completion-read c.args.stage.now c.args.member c.clock.result c.servers.result.now
    c.completion_of.result c.clock.ensures c.servers.ensures c.completion_of.ensures
    ∙ c.in-Some-Begins.is ∙ ap Some c.in-Some-Begins.field-0-is in
    completed-comes c.args.stage.now c.args.member c.in-Some-Begins.timeline c.requires is

pub happen-requires-clause-comes : goal.happen-requires-clause-comes
happen-requires-clause-comes c =
    let is = completion-read c.args.stage.now c.args.member c.clock.result c.servers.result.now c.completion_of.result
    c.clock.ensures c.servers.ensures c.completion_of.ensures ∙ c.in-Some-Ends.is ∙ ap Some c.in-Some-Ends.field-0-is in
    ended-comes c.args.stage.now c.args.member c.of-server.result c.of-server.ensures is

pub returns-in-None : goal.returns-in-None
returns-in-None c =
    let is = completion-read c.args.stage.now c.args.member c.clock.result c.servers.result.now
    c.completion_of.result c.clock.ensures c.servers.ensures c.completion_of.ensures ∙ c.in-None.is in
    nothing-took c.args.stage.now c.args.events.now _ beginning_cost
    (none-completes c.args.stage.now c.args.member _ is)

pub returns-in-Some-Begins : goal.returns-in-Some-Begins
returns-in-Some-Begins c =
    let is = completion-read c.args.stage.now c.args.member c.clock.result c.servers.result.now
    c.completion_of.result c.clock.ensures c.servers.ensures c.completion_of.ensures
    ∙ c.in-Some-Begins.is ∙ ap Some c.in-Some-Begins.field-0-is in
    on_ok_weaker c.begin_on.result
    (λ took. as-took c.args.stage.now c.begin_on.new.stage c.args.events.now c.begin_on.new.events _ _ beginning_cost
    (completes-begin c.args.stage.now c.args.member _ c.in-Some-Begins.timeline is) took)
    c.begin_on.ensures

pub returns-in-Some-Ends : goal.returns-in-Some-Ends
returns-in-Some-Ends c =
    let is = completion-read c.args.stage.now c.args.member c.clock.result c.servers.result.now c.completion_of.result
    c.clock.ensures c.servers.ensures c.completion_of.ensures ∙ c.in-Some-Ends.is ∙ ap Some c.in-Some-Ends.field-0-is in
    on_ok_weaker c.happen.result
    (λ took. server-took c.args.stage.now c.happen.new.self c.args.events.now c.happen.new.events _
    c.args.member c.of-server.result (λ (x : ServerOf). kinds.Server (servers.Ended x)) c.of-server.ensures
    (completes-end c.args.stage.now c.args.member _ is) took)
    c.happen.ensures
