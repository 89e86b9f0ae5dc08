use Rattle.std.proofs.Common.{◌∙◌, ℕ, List, ap, sym, subst}
use Rattle.std.specs.Prelude.{option_and_then, slice_get}
use Rattle.std.proofs.lemmas.Result.{on_ok_weaker}
use Rattle.event_book.specs.declared.event.EventKind.TheVariants as kinds
use Rattle.event_book.specs.declared.event.ServerEvent.TheVariants as servers
use Rattle.event_book.specs.declared.member.ServerOf.{ServerOf}
use Rattle.pg_model.specs.Facts.{ServerFacts}
use Rattle.world_model.specs.Comes.{MayCome}
use Rattle.world_model.specs.Promoting.{loss_of_any}
use Rattle.world_stage.proofs.Promoting.{began-took}
use Rattle.world_stage.proofs.beginning.begin_on.Goals as goal

pub happen_then-requires-clause-first : goal.happen_then-requires-clause-first
happen_then-requires-clause-first c =
    subst (λ (x : ServerOf). MayCome c.args.stage.now (kinds.Server (servers.Began x c.args.timeline)))
    (sym c.of-server.ensures) c.requires.comes

pub returns : goal.returns
returns c =
    let place = c.args.member.id.number in
    let told = c.in_ok-loss.ensures.kind
    ∙ ap (λ (cs : List ℕ). option_and_then (loss_of_any cs c.args.member) (slice_get c.servers.result.now place))
    c.acknowledged.ensures
    ∙ ap (λ (known : List ServerFacts).
    option_and_then (loss_of_any c.args.stage.now.facts.acknowledged c.args.member) (slice_get known place))
    c.servers.ensures in
    on_ok_weaker c.happen_then.result
    (λ took. began-took c.args.stage.now c.happen_then.new.self c.args.member c.args.timeline c.of-server.result
    c.in_ok-loss.loss c.args.events.now c.happen_then.new.events c.of-server.ensures told took)
    c.happen_then.ensures
