use Rattle.std.proofs.Common.{◌<◌, ◌^◌, List, ◌∙◌, arith, ap, sym, subst}
use Rattle.std.specs.Prelude.{IfSome, option_and_then, slice_get}
use Rattle.std.proofs.lemmas.Result.{on_ok_weaker}
use Rattle.pg_model.specs.Facts.{ServerFacts}
use Rattle.world_model.specs.Room.{promotion_cost}
use Rattle.world_model.specs.Promoting.{promoted_timeline}
use Rattle.world_stage.proofs.Promoting.{none-promoted, nothing-took, promoted-took, told-comes}
use Rattle.world_model.proofs.Rooms.{HasRoom-fewer}
use Rattle.world_parts.proofs.ServerCommanding.{timeline-below}
use Rattle.world_acts.proofs.servers.promote.Goals as goal

pub promoted_timeline-requires : goal.promoted_timeline-requires
promoted_timeline-requires c =
    subst (λ (known : List ServerFacts). IfSome (slice_get known c.args.member.id.number) (λ s. s.timeline < 2 ^ 60))
    (sym c.servers.ensures)
    (timeline-below c.args.stage.now c.args.member.id.number
    (HasRoom-fewer c.args.stage.now promotion_cost 2 (omega arith) c.requires))

pub returns-in_default : goal.returns-in_default
returns-in_default c =
    let none =
    ap (λ (known : List ServerFacts). option_and_then promoted_timeline (slice_get known c.args.member.id.number))
    (sym c.servers.ensures) ∙ sym c.promoted_timeline.ensures ∙ c.in_default.is in
    nothing-took c.args.stage.now c.args.events.now _ promotion_cost
    (none-promoted c.args.stage.now c.args.member _ none)

pub begin_on-requires-clause-comes : goal.begin_on-requires-clause-comes
begin_on-requires-clause-comes c =
    let is =
    ap (λ (known : List ServerFacts). option_and_then promoted_timeline (slice_get known c.args.member.id.number))
    (sym c.servers.ensures) ∙ sym c.promoted_timeline.ensures ∙ c.in-Some.is in
    told-comes c.args.stage.now c.happen.new.self c.args.member c.in-Some.timeline c.of-server.result
    c.args.events.now c.happen.new.events is c.in_ok-happen.ensures c.requires

pub returns : goal.returns
returns c =
    let is =
    ap (λ (known : List ServerFacts). option_and_then promoted_timeline (slice_get known c.args.member.id.number))
    (sym c.servers.ensures) ∙ sym c.promoted_timeline.ensures ∙ c.in-Some.is in
    on_ok_weaker c.begin_on.result
    (λ took. promoted-took c.args.stage.now c.happen.new.self c.begin_on.new.stage c.args.member
    c.in-Some.timeline c.of-server.result c.args.events.now c.happen.new.events c.begin_on.new.events is
    c.of-server.ensures c.in_ok-happen.ensures took)
    c.begin_on.ensures
