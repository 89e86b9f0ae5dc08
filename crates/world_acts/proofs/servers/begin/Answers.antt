use Rattle.std.proofs.Common.{◌<◌, ◌^◌, List, ◌∙◌, Some, ap, sym, subst}
use Rattle.std.specs.Prelude.{IfSome, option_and_then, slice_get}
use Rattle.std.proofs.lemmas.Result.{on_ok_weaker}
use Rattle.event_book.specs.declared.event.EventKind.TheVariants as kinds
use Rattle.event_book.specs.declared.event.ServerEvent.TheVariants as servers
use Rattle.event_book.specs.declared.member.ServerOf.{ServerOf}
use Rattle.pg_model.specs.Facts.{ServerFacts}
use Rattle.cluster_model.specs.Beginnings.{beginning_of}
use Rattle.world_model.specs.Room.{beginning_cost}
use Rattle.world_stage.proofs.Promoting.{as-took, at-once-comes, at-once-is, none-begins, nothing-took, server-took, with-start-comes, with-start-is}
use Rattle.world_parts.proofs.ServerCommanding.{timeline-below}
use Rattle.world_acts.proofs.servers.begin.Goals as goal

pub beginning_of-requires : goal.beginning_of-requires
beginning_of-requires c =
    subst (λ (known : List ServerFacts). IfSome (slice_get known c.args.member.id.number) (λ s. s.timeline < 2 ^ 60))
    (sym c.servers.ensures) (timeline-below c.args.stage.now c.args.member.id.number c.requires)

pub begin_on-requires-clause-comes : goal.begin_on-requires-clause-comes
begin_on-requires-clause-comes c =
    let is = ap (λ (known : List ServerFacts). option_and_then beginning_of (slice_get known c.args.member.id.number))
    (sym c.servers.ensures) ∙ sym c.beginning_of.ensures ∙ c.in-Some-AtOnce.is ∙ ap Some c.in-Some-AtOnce.field-0-is in
    at-once-comes c.args.stage.now c.args.member c.in-Some-AtOnce.timeline c.requires is

pub happen-requires-clause-comes : goal.happen-requires-clause-comes
happen-requires-clause-comes c =
    let is = ap (λ (known : List ServerFacts). option_and_then beginning_of (slice_get known c.args.member.id.number))
    (sym c.servers.ensures)
    ∙ sym c.beginning_of.ensures ∙ c.in-Some-WithItsStart.is ∙ ap Some c.in-Some-WithItsStart.field-0-is in
    with-start-comes c.args.stage.now c.args.member c.of-server.result c.of-server.ensures is

pub returns-in-None : goal.returns-in-None
returns-in-None c =
    let is = ap (λ (known : List ServerFacts). option_and_then beginning_of (slice_get known c.args.member.id.number))
    (sym c.servers.ensures) ∙ sym c.beginning_of.ensures ∙ c.in-None.is in
    nothing-took c.args.stage.now c.args.events.now _ beginning_cost (none-begins c.args.stage.now c.args.member _ is)

pub returns-in-Some-AtOnce : goal.returns-in-Some-AtOnce
returns-in-Some-AtOnce c =
    let is = ap (λ (known : List ServerFacts). option_and_then beginning_of (slice_get known c.args.member.id.number))
    (sym c.servers.ensures) ∙ sym c.beginning_of.ensures ∙ c.in-Some-AtOnce.is ∙ ap Some c.in-Some-AtOnce.field-0-is in
    on_ok_weaker c.begin_on.result
    (λ took. as-took c.args.stage.now c.begin_on.new.stage c.args.events.now c.begin_on.new.events _ _ beginning_cost
    (at-once-is c.args.stage.now c.args.member _ c.in-Some-AtOnce.timeline is) took)
    c.begin_on.ensures

pub returns-in-Some-WithItsStart : goal.returns-in-Some-WithItsStart
returns-in-Some-WithItsStart c =
    let is = ap (λ (known : List ServerFacts). option_and_then beginning_of (slice_get known c.args.member.id.number))
    (sym c.servers.ensures)
    ∙ sym c.beginning_of.ensures ∙ c.in-Some-WithItsStart.is ∙ ap Some c.in-Some-WithItsStart.field-0-is in
    on_ok_weaker c.happen.result
    (λ took. server-took c.args.stage.now c.happen.new.self c.args.events.now c.happen.new.events _ c.args.member
    c.of-server.result (λ (x : ServerOf). kinds.Server (servers.StartsAsPrimary x)) c.of-server.ensures
    (with-start-is c.args.stage.now c.args.member _ is) took)
    c.happen.ensures
