use Rattle.std.proofs.Common.{◌∙◌, refl, sym, subst}
use Rattle.std.proofs.lemmas.Result.{on_ok_weaker}
use Rattle.cluster_model.specs.State.{Cluster}
use Rattle.cluster_model.specs.Next.{confirm_events}
use Rattle.world_model.specs.Emits.{Emits}
use Rattle.world_stage.proofs.Streams.{confirm-took, with_servers}
use Rattle.world_stage.proofs.Worlds.{seen}
use Rattle.world_stage.proofs.stage.Stage.confirm.Goals as goal

pub returns : goal.returns
returns c =
    let before = seen c.self.inside in
    on_ok_weaker c.write_down.result
    (λ has.
    subst (λ (b : Cluster). Emits b (with_servers before c.confirm.new.self) c.args.events.now c.write_down.new.events
    (confirm_events b c.args.member c.args.from) 1)
    c.self.view_is
    (confirm-took before c.args.member c.args.from c.in-Some.end c.of.result c.confirm.new.self
    c.self.inside.clock c.args.events.now c.write_down.new.events
    (sym c.unconfirmed_end.ensures ∙ c.in-Some.is) c.of.ensures c.confirm.ensures refl has))
    c.write_down.ensures
